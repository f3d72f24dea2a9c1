-- Lemmas: pieces stay those of a net while words are on their way from one part to another.
use Rattle.std.proofs.Common.{◌≡◌, ◌⊎◌, inl, inr, ℕ, ◌+◌, ◌≤◌, ◌==◌, ◌&&◌, List, [], ◌∷◌, ◌++◌, Bool, true, false, cond, Some, length, map, refl, sym, ap, ◌∙◌, arith, sum_by, subst as transport}
use Rattle.std.specs.List.{flat_map, AllByRecursion}
use Rattle.std.specs.Prelude.{IsPermutation}
use Rattle.std.specs.Cmp.{unsigned_Decides}
use Rattle.std.proofs.lemmas.List.{length-map}
use Rattle.std.proofs.lemmas.List.Sums.{sum_by-cons, sum_by-append}
use Rattle.std.proofs.lemmas.List.Sorted.{IsPermutation-sym, sum_by-IsPermutation}
use Rattle.ic_arena.specs.declared.word.Word.{Word}
use Rattle.ic_arena.specs.Word.{name_word, word_eq, count}
use Rattle.ic_arena.specs.Piece.{Piece, equated, idle, waits, agent_of, room, uses}
use Rattle.ic_machine.specs.declared.equation.Equation.{Equation}
use Rattle.ic_machine.specs.Held.{IsTagOf}
use Rattle.ic_machine.specs.Moving.{CutEnd, Side, Spells, nothing, follow, opened, plain, cut, gone, end_word, sides_of}
use Rattle.ic_machine.specs.Net.{equated_of}
use Rattle.ic_machine.specs.Rooms.{in_room, piece_in, pieces_in, IsOutside}
use Rattle.ic_machine.specs.Separate.{is_constant_tag}
use Rattle.ic_machine.specs.lemmas.InRooms.{apart_in_rooms, room_tag}
use Rattle.ic_meaning.specs.Words.{Numbers, AreNumbers}
use Rattle.ic_meaning.specs.Nets.{equations_of, holds, IsAgentOf, IsPiece, ArePieces, AreNetPieces}
use Rattle.ic_readback.specs.lemmas.Orders.{all_order}
use Rattle.ic_workers.specs.Parts.{cut_word, end_piece}
use Rattle.ic_workers.proofs.Balanced.{end_in, named_by, room_by, taken_sum, ordered_ends, ordered_sum, first_count, spells_balance}
use Rattle.ic_workers.proofs.Carried.{IsPartRoom, agent_tag, name_tag}
use Rattle.ic_workers.proofs.Back.{IsRoomy, IsOnce, no_terms, no_pieces}
use Rattle.ic_workers.proofs.Parcels.{side_pieces, with_pieces, leaves, leaves_names}

-- a word that is no cut
abbrev pub IsNoCut : Word → Type 0
IsNoCut w = (c : ℕ) → word_eq w (cut_word c) ≡ false

-- What pieces keep while words are on their way: what those of a net do, but that cuts may be named any number of times.
pub record AreOnWay (arities : List ℕ) (is : List Word) (ps : List Piece) : Type 0 where
  pub each : ArePieces arities ps
  pub separate : (w : Word) → is_constant_tag arities w.tag ≡ false → IsNoCut w → count w is + sum_by (uses w) ps ≤ sum_by (room w) ps
  pub once : (w : Word) → sum_by (holds w) ps ≤ 1

pub way_order : (arities : List ℕ) (is : List Word) (ps qs : List Piece) → IsPermutation ps qs → AreOnWay arities is ps → AreOnWay arities is qs
way_order arities is ps qs moved are = record {
  each = all_order (IsPiece arities) ps qs moved are.each;
  separate = λ w place other. let u = sum_by-IsPermutation (uses w) ps qs moved in
      let r = sum_by-IsPermutation (room w) ps qs moved in
      let few = are.separate w place other in
      omega (arith, u, r, few);
  once = λ w. let h = sum_by-IsPermutation (holds w) ps qs moved in
      let few = are.once w in
      omega (arith, h, few);
}

-- ---- pieces each say what is at a place

pub all_both : {X : Type 0} (P : X → Type 0) (xs ys : List X) → AllByRecursion P xs → AllByRecursion P ys → AllByRecursion P (xs ++ ys)
all_both P [] ys first last = last
all_both P (x ∷ xs) ys first last = (first.0, all_both P xs ys first.1 last)

pub all_first : {X : Type 0} (P : X → Type 0) (xs ys : List X) → AllByRecursion P (xs ++ ys) → AllByRecursion P xs
all_first P [] ys all = tt
all_first P (x ∷ xs) ys all = (all.0, all_first P xs ys all.1)

pub all_last : {X : Type 0} (P : X → Type 0) (xs ys : List X) → AllByRecursion P (xs ++ ys) → AllByRecursion P ys
all_last P [] ys all = all
all_last P (x ∷ xs) ys all = all_last P xs ys all.1

pub each_in : (arities : List ℕ) (k : ℕ) (ps : List Piece) → ArePieces arities ps → ArePieces arities (pieces_in arities k ps)
each_in arities k [] each = tt
each_in arities k (equated l r ∷ ps) each = (tt, each_in arities k ps each.1)
each_in arities k (idle x ∷ ps) each = (room_tag arities k x ∙ each.0, each_in arities k ps each.1)
each_in arities k (waits x u ∷ ps) each = (room_tag arities k x ∙ each.0, each_in arities k ps each.1)
each_in arities k (agent_of a vs ∷ ps) each = (
  record {
    symbol = each.0.symbol;
    is = room_tag arities k a ∙ each.0.is;
    known = each.0.known ∙ ap Some (sym (length-map vs (in_room arities k)));
    some = let some = each.0.some in let long = length-map vs (in_room arities k) in omega (arith, some, long);
  },
  each_in arities k ps each.1,
)

pub each_out : (arities : List ℕ) (k : ℕ) (ps : List Piece) → ArePieces arities (pieces_in arities k ps) → ArePieces arities ps
each_out arities k [] each = tt
each_out arities k (equated l r ∷ ps) each = (tt, each_out arities k ps each.1)
each_out arities k (idle x ∷ ps) each = (sym (room_tag arities k x) ∙ each.0, each_out arities k ps each.1)
each_out arities k (waits x u ∷ ps) each = (sym (room_tag arities k x) ∙ each.0, each_out arities k ps each.1)
each_out arities k (agent_of a vs ∷ ps) each = (
  record {
    symbol = each.0.symbol;
    is = sym (room_tag arities k a) ∙ each.0.is;
    known = each.0.known ∙ ap Some (length-map vs (in_room arities k));
    some = let some = each.0.some in let long = length-map vs (in_room arities k) in omega (arith, some, long);
  },
  each_out arities k ps each.1,
)

agent_is : (arities : List ℕ) (tag arguments : ℕ) → IsTagOf arities tag arguments → IsAgentOf arities tag arguments
agent_is arities tag arguments is = record { symbol = is.symbol; is = is.is; known = is.known; some = is.some }

-- what is left is of those that were there
packed_each : (arities : List ℕ) (full rest : Side) (ws ts : List Word) → Spells arities full rest ws ts → ArePieces arities full.places → ArePieces arities rest.places
packed_each arities full rest ws ts (nothing a b places ends) each = all_order (IsPiece arities) a.places b.places places each
packed_each arities full rest ws ts (follow a mid b x u vs us tag places ends more) each =
    packed_each arities mid b (u ∷ vs) us more (all_order (IsPiece arities) a.places (waits x u ∷ mid.places) places each).1
packed_each arities full rest ws ts (opened a mid b g vs us xs is places ends more) each =
    packed_each arities mid b (vs ++ us) xs more (all_order (IsPiece arities) a.places (agent_of g vs ∷ mid.places) places each).1
packed_each arities full rest ws ts (plain a b w vs us is more) each = packed_each arities a b vs us more each
packed_each arities full rest ws ts (cut a mid b e vs us places ends more) each =
    packed_each arities mid b vs us more (all_order (IsPiece arities) a.places mid.places places each)
packed_each arities full rest ws ts (gone a mid b e vs us places ends more) each =
    packed_each arities mid b vs us more (all_order (IsPiece arities) a.places (idle (end_word e) ∷ mid.places) places each).1

-- what is there then is of those that were, or as it is to be
pub unpacked_each : (arities : List ℕ) (full rest : Side) (ws ts : List Word) → Spells arities full rest ws ts → ArePieces arities rest.places → ArePieces arities full.places
unpacked_each arities full rest ws ts (nothing a b places ends) each = all_order (IsPiece arities) b.places a.places (IsPermutation-sym a.places b.places places) each
unpacked_each arities full rest ws ts (follow a mid b x u vs us tag places ends more) each =
    all_order (IsPiece arities) (waits x u ∷ mid.places) a.places (IsPermutation-sym a.places (waits x u ∷ mid.places) places)
    (tag, unpacked_each arities mid b (u ∷ vs) us more each)
unpacked_each arities full rest ws ts (opened a mid b g vs us xs is places ends more) each =
    all_order (IsPiece arities) (agent_of g vs ∷ mid.places) a.places (IsPermutation-sym a.places (agent_of g vs ∷ mid.places) places)
    (agent_is arities g.tag (length vs) is, unpacked_each arities mid b (vs ++ us) xs more each)
unpacked_each arities full rest ws ts (plain a b w vs us is more) each = unpacked_each arities a b vs us more each
unpacked_each arities full rest ws ts (cut a mid b e vs us places ends more) each =
    all_order (IsPiece arities) mid.places a.places (IsPermutation-sym a.places mid.places places) (unpacked_each arities mid b vs us more each)
unpacked_each arities full rest ws ts (gone a mid b e vs us places ends more) each =
    all_order (IsPiece arities) (idle (end_word e) ∷ mid.places) a.places (IsPermutation-sym a.places (idle (end_word e) ∷ mid.places) places)
    (refl, unpacked_each arities mid b vs us more each)

-- ends of cuts and equations are pieces
pub each_end : (arities : List ℕ) (k : ℕ) (es : List CutEnd) → ArePieces arities (map (end_piece arities k) es)
each_end arities k [] = tt
each_end arities k (e ∷ es) = (tt, each_end arities k es)

each_equation : (arities : List ℕ) (k : ℕ) (es : List Equation) → ArePieces arities (pieces_in arities k (map equated_of es))
each_equation arities k [] = tt
each_equation arities k (e ∷ es) = (tt, each_equation arities k es)

-- ---- sums

-- roots of equations
equations_uses : (arities : List ℕ) (k : ℕ) (w : Word) (es : List Equation)
    → sum_by (uses w) (pieces_in arities k (map equated_of es)) ≡ count w (map (in_room arities k) (sides_of es))
equations_uses arities k w [] = refl
equations_uses arities k w (e ∷ es) =
    let l : Word = in_room arities k e.left in
    let r : Word = in_room arities k e.right in
    let parts = sum_by-cons (uses w) (equated l r) (pieces_in arities k (map equated_of es)) in
    let one = first_count w l (r ∷ []) in
    let two = first_count w r [] in
    let three = first_count w l (r ∷ map (in_room arities k) (sides_of es)) in
    let four = first_count w r (map (in_room arities k) (sides_of es)) in
    let rest = equations_uses arities k w es in
    omega (arith, parts, one, two, three, four, rest)

none_at : (f : Piece → ℕ) (arities : List ℕ) (k : ℕ) (es : List Equation) → ((l r : Word) → f (equated l r) ≡ 0)
    → sum_by f (pieces_in arities k (map equated_of es)) ≡ 0
none_at f arities k [] none = refl
none_at f arities k (e ∷ es) none =
    let parts = sum_by-cons f (equated (in_room arities k e.left) (in_room arities k e.right)) (pieces_in arities k (map equated_of es)) in
    let here = none (in_room arities k e.left) (in_room arities k e.right) in
    let rest = none_at f arities k es none in
    omega (arith, parts, here, rest)

none_at_ends : (f : Piece → ℕ) (arities : List ℕ) (k : ℕ) (es : List CutEnd) → ((l r : Word) → f (equated l r) ≡ 0)
    → sum_by f (map (end_piece arities k) es) ≡ 0
none_at_ends f arities k [] none = refl
none_at_ends f arities k (e ∷ es) none =
    let parts = sum_by-cons f (end_piece arities k e) (map (end_piece arities k) es) in
    let here = none (end_in arities k e) (cut_word e.cut) in
    let rest = none_at_ends f arities k es none in
    omega (arith, parts, here, rest)

-- names of ends
ends_uses : (arities : List ℕ) (k : ℕ) (w : Word) (es : List CutEnd) → IsNoCut w
    → sum_by (uses w) (map (end_piece arities k) es) ≡ count w (map (end_in arities k) es)
ends_uses arities k w [] other = refl
ends_uses arities k w (e ∷ es) other =
    let parts = sum_by-cons (uses w) (end_piece arities k e) (map (end_piece arities k) es) in
    let one = first_count w (end_in arities k e) (cut_word e.cut ∷ []) in
    let two = first_count w (cut_word e.cut) [] in
    let none : cond {A = ℕ} (word_eq w (cut_word e.cut)) 1 0 ≡ 0 = ap (λ (b : Bool). cond {A = ℕ} b 1 0) (other e.cut) in
    let three = first_count w (end_in arities k e) (map (end_in arities k) es) in
    let rest = ends_uses arities k w es other in
    omega (arith, parts, one, two, none, three, rest)

pub side_uses : (arities : List ℕ) (k : ℕ) (w : Word) (s : Side) → IsNoCut w → sum_by (uses w) (side_pieces arities k s) ≡ named_by arities k w [] s
side_uses arities k w s other =
    let both = sum_by-append (uses w) (pieces_in arities k s.places) (map (end_piece arities k) s.ends) in
    let ends = ends_uses arities k w s.ends other in
    omega (arith, both, ends)

pub side_room : (arities : List ℕ) (k : ℕ) (w : Word) (s : Side) → sum_by (room w) (side_pieces arities k s) ≡ room_by arities k w s
side_room arities k w s =
    let both = sum_by-append (room w) (pieces_in arities k s.places) (map (end_piece arities k) s.ends) in
    let ends = none_at_ends (room w) arities k s.ends (λ l r. refl) in
    omega (arith, both, ends)

pub side_holds : (arities : List ℕ) (k : ℕ) (w : Word) (s : Side) → sum_by (holds w) (side_pieces arities k s) ≡ sum_by (holds w) (pieces_in arities k s.places)
side_holds arities k w s =
    let both = sum_by-append (holds w) (pieces_in arities k s.places) (map (end_piece arities k) s.ends) in
    let ends = none_at_ends (holds w) arities k s.ends (λ l r. refl) in
    omega (arith, both, ends)

-- what is left holds no more
packed_holds : (arities : List ℕ) (k : ℕ) (w : Word) (full rest : Side) (ws ts : List Word) → Spells arities full rest ws ts
    → sum_by (holds w) (pieces_in arities k rest.places) ≤ sum_by (holds w) (pieces_in arities k full.places)
packed_holds arities k w full rest ws ts (nothing a b places ends) =
    let h = ordered_sum (holds w) arities k a.places b.places places in
    omega (arith, h)
packed_holds arities k w full rest ws ts (follow a mid b x u vs us tag places ends more) =
    let h = taken_sum (holds w) arities k (waits x u) a.places mid.places places in
    let later = packed_holds arities k w mid b (u ∷ vs) us more in
    omega (arith, h, later)
packed_holds arities k w full rest ws ts (opened a mid b g vs us xs is places ends more) =
    let h = taken_sum (holds w) arities k (agent_of g vs) a.places mid.places places in
    let later = packed_holds arities k w mid b (vs ++ us) xs more in
    omega (arith, h, later)
packed_holds arities k w full rest ws ts (plain a b v vs us is more) = packed_holds arities k w a b vs us more
packed_holds arities k w full rest ws ts (cut a mid b e vs us places ends more) =
    let h = ordered_sum (holds w) arities k a.places mid.places places in
    let later = packed_holds arities k w mid b vs us more in
    omega (arith, h, later)
packed_holds arities k w full rest ws ts (gone a mid b e vs us places ends more) =
    let h = taken_sum (holds w) arities k (idle (end_word e)) a.places mid.places places in
    let later = packed_holds arities k w mid b vs us more in
    omega (arith, h, later)

-- ---- packed

pub with_uses : (arities : List ℕ) (k : ℕ) (w : Word) (es : List Equation) (s : Side) (rest : List Piece) → IsNoCut w
    → sum_by (uses w) (with_pieces arities k es s rest) ≡ named_by arities k w (sides_of es) s + sum_by (uses w) rest
with_uses arities k w es s rest other =
    let a = sum_by-append (uses w) (pieces_in arities k (map equated_of es)) (side_pieces arities k s ++ rest) in
    let b = sum_by-append (uses w) (side_pieces arities k s) rest in
    let c = equations_uses arities k w es in
    let d = side_uses arities k w s other in
    omega (arith, a, b, c, d)

pub with_room : (arities : List ℕ) (k : ℕ) (w : Word) (es : List Equation) (s : Side) (rest : List Piece)
    → sum_by (room w) (with_pieces arities k es s rest) ≡ room_by arities k w s + sum_by (room w) rest
with_room arities k w es s rest =
    let a = sum_by-append (room w) (pieces_in arities k (map equated_of es)) (side_pieces arities k s ++ rest) in
    let b = sum_by-append (room w) (side_pieces arities k s) rest in
    let c = none_at (room w) arities k es (λ l r. refl) in
    let d = side_room arities k w s in
    omega (arith, a, b, c, d)

pub with_holds : (arities : List ℕ) (k : ℕ) (w : Word) (es : List Equation) (s : Side) (rest : List Piece)
    → sum_by (holds w) (with_pieces arities k es s rest) ≡ sum_by (holds w) (pieces_in arities k s.places) + sum_by (holds w) rest
with_holds arities k w es s rest =
    let a = sum_by-append (holds w) (pieces_in arities k (map equated_of es)) (side_pieces arities k s ++ rest) in
    let b = sum_by-append (holds w) (side_pieces arities k s) rest in
    let c = none_at (holds w) arities k es (λ l r. refl) in
    let d = side_holds arities k w s in
    omega (arith, a, b, c, d)

pub packed_way : (arities : List ℕ) (j : ℕ) (is : List Word) (es : List Equation) (full a : Side) (rest : List Piece) (ts : List Word)
    → Spells arities full a (sides_of es) ts → AreOnWay arities is (with_pieces arities j es full rest) → AreOnWay arities is (side_pieces arities j a ++ rest)
packed_way arities j is es full a rest ts packed are = record {
  each = let later = all_last (IsPiece arities) (pieces_in arities j (map equated_of es)) (side_pieces arities j full ++ rest) are.each in
      let own = all_first (IsPiece arities) (side_pieces arities j full) rest later in
      let places = all_first (IsPiece arities) (pieces_in arities j full.places) (map (end_piece arities j) full.ends) own in
      all_both (IsPiece arities) (side_pieces arities j a) rest
      (all_both (IsPiece arities) (pieces_in arities j a.places) (map (end_piece arities j) a.ends)
      (each_in arities j a.places (packed_each arities full a (sides_of es) ts packed (each_out arities j full.places places))) (each_end arities j a.ends))
      (all_last (IsPiece arities) (side_pieces arities j full) rest later);
  separate = λ w place other. let before = are.separate w place other in
      let u = with_uses arities j w es full rest other in
      let r = with_room arities j w es full rest in
      let balance = spells_balance arities j w full a (sides_of es) ts place packed in
      let both = sum_by-append (uses w) (side_pieces arities j a) rest in
      let roomy = sum_by-append (room w) (side_pieces arities j a) rest in
      let own = side_uses arities j w a other in
      let own_room = side_room arities j w a in
      omega (arith, before, u, r, balance, both, roomy, own, own_room);
  once = λ w. let before = are.once w in
      let h = with_holds arities j w es full rest in
      let fewer = packed_holds arities j w full a (sides_of es) ts packed in
      let both = sum_by-append (holds w) (side_pieces arities j a) rest in
      let own = side_holds arities j w a in
      omega (arith, before, h, fewer, both, own);
}

-- The equation of a cut with the word that waits for it went out.
pub shipped_way : (arities : List ℕ) (j : ℕ) (is : List Word) (e : CutEnd) (word : Word) (full mid a : Side) (rest : List Piece) (more : List Word)
    → IsPermutation full.places (waits (end_word e) word ∷ mid.places) → IsPermutation full.ends (e ∷ mid.ends)
    → Spells arities mid a (word ∷ []) more → AreOnWay arities is (side_pieces arities j full ++ rest) → AreOnWay arities is (side_pieces arities j a ++ rest)
shipped_way arities j is e word full mid a rest more taken ends spells are = record {
  each = let own = all_first (IsPiece arities) (side_pieces arities j full) rest are.each in
      let places = all_first (IsPiece arities) (pieces_in arities j full.places) (map (end_piece arities j) full.ends) own in
      let others = all_order (IsPiece arities) full.places (waits (end_word e) word ∷ mid.places) taken (each_out arities j full.places places) in
      all_both (IsPiece arities) (side_pieces arities j a) rest
      (all_both (IsPiece arities) (pieces_in arities j a.places) (map (end_piece arities j) a.ends)
      (each_in arities j a.places (packed_each arities mid a (word ∷ []) more spells others.1)) (each_end arities j a.ends))
      (all_last (IsPiece arities) (side_pieces arities j full) rest are.each);
  separate = λ w place other. let before = are.separate w place other in
      let both = sum_by-append (uses w) (side_pieces arities j full) rest in
      let roomy = sum_by-append (room w) (side_pieces arities j full) rest in
      let own = side_uses arities j w full other in
      let own_room = side_room arities j w full in
      let u = taken_sum (uses w) arities j (waits (end_word e) word) full.places mid.places taken in
      let r = taken_sum (room w) arities j (waits (end_word e) word) full.places mid.places taken in
      let f = ordered_ends arities j w full.ends (e ∷ mid.ends) ends in
      let one = first_count w (end_in arities j e) (map (end_in arities j) mid.ends) in
      let two = first_count w (in_room arities j word) [] in
      let balance = spells_balance arities j w mid a (word ∷ []) more place spells in
      let both_too = sum_by-append (uses w) (side_pieces arities j a) rest in
      let roomy_too = sum_by-append (room w) (side_pieces arities j a) rest in
      let own_too = side_uses arities j w a other in
      let own_room_too = side_room arities j w a in
      omega (arith, before, both, roomy, own, own_room, u, r, f, one, two, balance, both_too, roomy_too, own_too, own_room_too);
  once = λ w. let before = are.once w in
      let both = sum_by-append (holds w) (side_pieces arities j full) rest in
      let own = side_holds arities j w full in
      let h = taken_sum (holds w) arities j (waits (end_word e) word) full.places mid.places taken in
      let fewer = packed_holds arities j w mid a (word ∷ []) more spells in
      let both_too = sum_by-append (holds w) (side_pieces arities j a) rest in
      let own_too = side_holds arities j w a in
      omega (arith, before, both, own, h, fewer, both_too, own_too);
}

-- ---- unpacked

true_false : true ≡ false → ⊥
true_false e = cc

-- words of a room of a part are no cuts
pub room_no_cut : (arities : List ℕ) (k : ℕ) (w : Word) → IsPartRoom k → is_constant_tag arities w.tag ≡ false → IsNoCut (in_room arities k w)
room_no_cut arities k w part place c = apart_in_rooms arities k 0 w (name_word c) part.0 (omega arith) part.1 place

pub word_is : (v w : Word) → word_eq v w ≡ true → v ≡ w
word_is v w e =
    let both = and_parts (v.tag == w.tag) (v.index == w.index) e in
    let tag = (unsigned_Decides v.tag w.tag).0 both.0 in
    let index = (unsigned_Decides v.index w.index).0 both.1 in
    λ i. record { tag = tag i; index = index i }
  where
    and_parts : (a b : Bool) → (a && b) ≡ true → (a ≡ true) × (b ≡ true)
    and_parts true b e = (refl, e)
    and_parts false b e = cc

pub hold_room : (w : Word) (ps : List Piece) → sum_by (holds w) ps ≤ sum_by (room w) ps
hold_room w [] = omega arith
hold_room w (p ∷ ps) =
    let a = sum_by-cons (holds w) p ps in
    let b = sum_by-cons (room w) p ps in
    let here = one p in
    let rest = hold_room w ps in
    omega (arith, a, b, here, rest)
  where
    one : (p : Piece) → holds w p ≤ room w p
    one (equated l r) = omega arith
    one (idle x) = elim (word_eq w x) as (λ (b : Bool). cond {A = ℕ} b 1 0 ≤ cond {A = ℕ} b 2 0) [
      | true ↦ omega arith
      | false ↦ omega arith
    ]
    one (waits x u) = omega arith
    one (agent_of a ws) = omega arith

-- a piece of a room says what is at no place, or at one of the room
pub record IsAtRoom (arities : List ℕ) (k : ℕ) (w : Word) : Type 0 where
  pub own : Word
  pub place : is_constant_tag arities own.tag ≡ false
  pub is : w ≡ in_room arities k own

pub at_room : (arities : List ℕ) (k : ℕ) (w : Word) (ps : List Piece) → ArePieces arities ps
    → (sum_by (holds w) (pieces_in arities k ps) ≡ 0) ⊎ IsAtRoom arities k w
at_room arities k w [] each = inl refl
at_room arities k w (p ∷ ps) each = by (one p each.0) (at_room arities k w ps each.1)
  where
    place_of : (x : Word) → is_constant_tag arities x.tag ≡ false → (cond {A = ℕ} (word_eq w (in_room arities k x)) 1 0 ≡ 0) ⊎ IsAtRoom arities k w
    place_of x place = tell (word_eq w (in_room arities k x)) refl
      where
        tell : (b : Bool) → word_eq w (in_room arities k x) ≡ b → (cond {A = ℕ} (word_eq w (in_room arities k x)) 1 0 ≡ 0) ⊎ IsAtRoom arities k w
        tell true e = inr (record { own = x; place = place; is = word_is w (in_room arities k x) e })
        tell false e = inl (ap (λ (b : Bool). cond {A = ℕ} b 1 0) e)

    one : (p : Piece) → IsPiece arities p → (holds w (piece_in arities k p) ≡ 0) ⊎ IsAtRoom arities k w
    one (equated l r) is = inl refl
    one (idle x) is = place_of x (name_tag arities x.tag is)
    one (waits x u) is = place_of x (name_tag arities x.tag is)
    one (agent_of a vs) is = place_of a (agent_tag arities a.tag (length vs) (record { symbol = is.symbol; is = is.is; known = is.known; some = is.some }))

    by : (holds w (piece_in arities k p) ≡ 0) ⊎ IsAtRoom arities k w → (sum_by (holds w) (pieces_in arities k ps) ≡ 0) ⊎ IsAtRoom arities k w
        → (sum_by (holds w) (pieces_in arities k (p ∷ ps)) ≡ 0) ⊎ IsAtRoom arities k w
    by (inr there) rest = inr there
    by (inl none) (inr there) = inr there
    by (inl none) (inl others) =
        let all = sum_by-cons (holds w) (piece_in arities k p) (pieces_in arities k ps) in
        inl (omega (arith, all, none, others))

pub unpacked_way : (arities : List ℕ) (k : ℕ) (is : List Word) (fs : List Equation) (s b : Side) (rest : List Piece) (ts : List Word)
    → IsPartRoom k → Spells arities s b (sides_of fs) ts → IsOutside arities k rest → IsOnce arities k s
    → AreOnWay arities is (side_pieces arities k b ++ rest) → AreOnWay arities is (with_pieces arities k fs s rest)
unpacked_way arities k is fs s b rest ts part unpacked outside once are = record {
  each = all_both (IsPiece arities) (pieces_in arities k (map equated_of fs)) (side_pieces arities k s ++ rest) (each_equation arities k fs)
      (all_both (IsPiece arities) (side_pieces arities k s) rest
      (all_both (IsPiece arities) (pieces_in arities k s.places) (map (end_piece arities k) s.ends) (each_in arities k s.places each_s) (each_end arities k s.ends))
      (all_last (IsPiece arities) (side_pieces arities k b) rest are.each));
  separate = λ w place other. let before = are.separate w place other in
      let u = with_uses arities k w fs s rest other in
      let r = with_room arities k w fs s rest in
      let balance = spells_balance arities k w s b (sides_of fs) ts place unpacked in
      let both = sum_by-append (uses w) (side_pieces arities k b) rest in
      let roomy = sum_by-append (room w) (side_pieces arities k b) rest in
      let own = side_uses arities k w b other in
      let own_room = side_room arities k w b in
      omega (arith, before, u, r, balance, both, roomy, own, own_room);
  once = λ w. at w (at_room arities k w s.places each_s);
}
  where
    each_s : ArePieces arities s.places
    each_s =
        let own = all_first (IsPiece arities) (side_pieces arities k b) rest are.each in
        let places = all_first (IsPiece arities) (pieces_in arities k b.places) (map (end_piece arities k) b.ends) own in
        unpacked_each arities s b (sides_of fs) ts unpacked (each_out arities k b.places places)

    at : (w : Word) → (sum_by (holds w) (pieces_in arities k s.places) ≡ 0) ⊎ IsAtRoom arities k w → sum_by (holds w) (with_pieces arities k fs s rest) ≤ 1
    at w (inl none) =
        let h = with_holds arities k w fs s rest in
        let both = sum_by-append (holds w) (side_pieces arities k b) rest in
        let few = are.once w in
        omega (arith, none, h, both, few)
    at w (inr there) =
        let h = with_holds arities k w fs s rest in
        let few = transport (λ (v : Word). sum_by (holds v) (pieces_in arities k s.places) ≤ 1) (sym there.is) (once there.own) in
        let none = transport (λ (v : Word). sum_by (room v) rest ≡ 0) (sym there.is) (outside there.own there.place) in
        let less = hold_room w rest in
        omega (arith, h, few, none, less)

-- Where pieces keep that, there is room for what words are unpacked to.
pub roomy_way : (n : Numbers) (k : ℕ) (is : List Word) (b : Side) (rest : List Piece) → AreNumbers n → IsPartRoom k → IsOutside n.arities k rest
    → AreOnWay n.arities is (side_pieces n.arities k b ++ rest) → IsRoomy n k b (leaves n is) (flat_map (equations_of n) rest)
roomy_way n k is b rest sound part outside are w place =
    let v : Word = in_room n.arities k w in
    let there : is_constant_tag n.arities v.tag ≡ false = ap (is_constant_tag n.arities) (room_tag n.arities k w) ∙ place in
    let other = room_no_cut n.arities k w part place in
    let before = are.separate v there other in
    let both = sum_by-append (uses v) (side_pieces n.arities k b) rest in
    let roomy = sum_by-append (room v) (side_pieces n.arities k b) rest in
    let own = side_uses n.arities k v b other in
    let own_room = side_room n.arities k v b in
    let empty = outside w place in
    let less = hold_room v rest in
    record {
      beside = count v is + sum_by (uses v) rest;
      enough = omega (arith, before, both, roomy, own, own_room, empty);
      none = λ e. let words = no_terms n v is sound (omega (arith, e)) in
          let written = leaves_names n (n.of_place v) is in
          let pieces = no_pieces n v rest sound (omega (arith, e)) (omega (arith, less, empty)) in
          omega (arith, words, written, pieces);
    }

-- ---- with the cuts

abbrev pub cut_pieces : List ℕ → List Piece
cut_pieces cs = map (λ c. idle (cut_word c)) cs

pub cuts_uses : (w : Word) (cs : List ℕ) → sum_by (uses w) (cut_pieces cs) ≡ 0
cuts_uses w [] = refl
cuts_uses w (c ∷ cs) = let parts = sum_by-cons (uses w) (idle (cut_word c)) (cut_pieces cs) in let rest = cuts_uses w cs in omega (arith, parts, rest)

pub cuts_room : (w : Word) (cs : List ℕ) → IsNoCut w → sum_by (room w) (cut_pieces cs) ≡ 0
cuts_room w [] other = refl
cuts_room w (c ∷ cs) other =
    let parts = sum_by-cons (room w) (idle (cut_word c)) (cut_pieces cs) in
    let here : cond {A = ℕ} (word_eq w (cut_word c)) 2 0 ≡ 0 = ap (λ (b : Bool). cond {A = ℕ} b 2 0) (other c) in
    let rest = cuts_room w cs other in
    omega (arith, parts, here, rest)

-- the pieces of a net, without the cuts
pub way_of_net : (arities : List ℕ) (is : List Word) (cs : List ℕ) (ps : List Piece) → AreNetPieces arities is (cut_pieces cs ++ ps) → AreOnWay arities is ps
way_of_net arities is cs ps are = record {
  each = all_last (IsPiece arities) (cut_pieces cs) ps are.each;
  separate = λ w place other. let before = are.separate.each w place in
      let u = sum_by-append (uses w) (cut_pieces cs) ps in
      let r = sum_by-append (room w) (cut_pieces cs) ps in
      let none = cuts_room w cs other in
      omega (arith, before, u, r, none);
  once = λ w. let before = are.once w in
      let h = sum_by-append (holds w) (cut_pieces cs) ps in
      omega (arith, before, h);
}
