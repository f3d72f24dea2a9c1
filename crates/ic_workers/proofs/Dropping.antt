-- Lemmas: what a part has left when it has sent all says nothing.
use Rattle.std.proofs.Common.{◌*◌, ◌++◌, ◌+◌, ◌<◌, ◌==◌, ◌∙◌, ◌∷◌, ◌≡◌, ◌≤◌, ◌⊎◌, Bool, ℕ, List, [], ap, arith, cond, false, inl, inr, length, map, refl, subst as transport, sum_by, sym, true}
use Rattle.std.proofs.lemmas.List.{append-nil}
use Rattle.std.proofs.lemmas.List.Concat.{flat_map-append}
use Rattle.std.proofs.lemmas.List.Sums.{sum_by-append, sum_by-cons}
use Rattle.std.specs.Cmp.{unsigned_Decides}
use Rattle.std.specs.List.{AllByRecursion, flat_map}
use Rattle.ic_arena.specs.Piece.{Piece, agent_of, equated, idle, room, uses, waits}
use Rattle.ic_arena.specs.Word.{count, name_word, word_eq}
use Rattle.ic_arena.specs.declared.word.Word.{Word}
use Rattle.ic_machine.specs.Net.{pieces}
use Rattle.ic_machine.specs.Separate.{is_constant_tag}
use Rattle.ic_meaning.specs.Nets.{ArePieces, IsPiece, equations_of, holds}
use Rattle.ic_meaning.specs.Words.{AreNumbers, Numbers}
use Rattle.ic_reaching.specs.OneNet.{OneNet}
use Rattle.ic_readback.specs.lemmas.RowNets.{net_of_row}
use Rattle.ic_readback.specs.lemmas.Rows.{over}
use Rattle.ic_settle.specs.lemmas.SubstitutionLaws.{occurrences-append}
use Rattle.ic_term.specs.Configuration.{Configuration, configuration_names, occurrences}
use Rattle.ic_term.specs.Tree.{Pair, pair_names}
use Rattle.ic_workers.proofs.Apart.{AreOthers}
use Rattle.ic_workers.proofs.Back.{held_room, no_pieces, no_terms}
use Rattle.ic_workers.proofs.Balanced.{first_count}
use Rattle.ic_workers.proofs.Carried.{IsPartRoom, both_names, cut_number, end_equation, front_names, itself_occurs, no_cut_place, other_occurs, side_equations, spelled_word, written_names}
use Rattle.ic_workers.proofs.Given.{NetLaws}
use Rattle.ic_machine.specs.lemmas.InRooms.{apart_in_rooms}
use Rattle.ic_workers.proofs.OnWay.{AreOnWay, IsAtRoom, IsNoCut, all_first, all_last, at_room, each_out, hold_room, room_no_cut, side_room}
use Rattle.ic_workers.proofs.Opening.{no_spelled_words, way_names}
use Rattle.ic_workers.proofs.Parcels.{beside_is, leaves, leaves_names, on_way, side_pieces}
use Rattle.ic_workers.proofs.PartNets.{part_room}
use Rattle.ic_workers.proofs.Rooms.{all_in_room, of_room}
use Rattle.ic_workers.proofs.Sending.{AreWhole, written}
use Rattle.ic_workers.proofs.Stages.{Stage}
use Rattle.ic_in_place.specs.Holding.{AreGiven}
use Rattle.ic_machine.specs.Moving.{CutEnd, IsIdle, Side, end_word, times}
use Rattle.ic_workers.specs.Parts.{Part, all_interface, cut_word, end_piece, part_pieces, room_of}
use Rattle.ic_machine.specs.Rooms.{IsOutside, ROOMS, in_room, piece_in, pieces_in}

true_false : true ≡ false → ⊥
true_false e = cc

-- ---- words of another room

-- no word of this room is this one
abbrev pub IsOutOf : List ℕ → ℕ → Word → Type 0
IsOutOf arities k v = (u : Word) → word_eq v (in_room arities k u) ≡ false

no_one_there : (arities : List ℕ) (k : ℕ) (v u : Word) → IsOutOf arities k v → cond {A = ℕ} (word_eq v (in_room arities k u)) 1 0 ≡ 0
no_one_there arities k v u out = ap (λ (b : Bool). cond {A = ℕ} b 1 0) (out u)

pub no_words : (arities : List ℕ) (k : ℕ) (v : Word) (us : List Word) → IsOutOf arities k v → count v (map (in_room arities k) us) ≡ 0
no_words arities k v [] out = refl
no_words arities k v (u ∷ us) out =
    let parts = first_count v (in_room arities k u) (map (in_room arities k) us) in
    let here = no_one_there arities k v u out in
    let rest = no_words arities k v us out in
    omega (arith, parts, here, rest)

no_uses : (arities : List ℕ) (k : ℕ) (v : Word) (p : Piece) → IsOutOf arities k v → uses v (piece_in arities k p) ≡ 0
no_uses arities k v (equated l r) out = no_words arities k v (l ∷ r ∷ []) out
no_uses arities k v (idle x) out = refl
no_uses arities k v (waits x u) out = no_words arities k v (u ∷ []) out
no_uses arities k v (agent_of a us) out = no_words arities k v us out

pub all_no_uses : (arities : List ℕ) (k : ℕ) (v : Word) (ps : List Piece) → IsOutOf arities k v → sum_by (uses v) (pieces_in arities k ps) ≡ 0
all_no_uses arities k v [] out = refl
all_no_uses arities k v (p ∷ ps) out =
    let parts = sum_by-cons (uses v) (piece_in arities k p) (pieces_in arities k ps) in
    let here = no_uses arities k v p out in
    let rest = all_no_uses arities k v ps out in
    omega (arith, parts, here, rest)

ends_no_uses : (arities : List ℕ) (k : ℕ) (v : Word) (es : List CutEnd) → IsOutOf arities k v → IsNoCut v → sum_by (uses v) (map (end_piece arities k) es) ≡ 0
ends_no_uses arities k v [] out other = refl
ends_no_uses arities k v (e ∷ es) out other =
    let parts = sum_by-cons (uses v) (end_piece arities k e) (map (end_piece arities k) es) in
    let one = first_count v (in_room arities k (end_word e)) (cut_word e.cut ∷ []) in
    let two = first_count v (cut_word e.cut) [] in
    let here = no_one_there arities k v (end_word e) out in
    let none : cond {A = ℕ} (word_eq v (cut_word e.cut)) 1 0 ≡ 0 = ap (λ (b : Bool). cond {A = ℕ} b 1 0) (other e.cut) in
    let rest = ends_no_uses arities k v es out other in
    omega (arith, parts, one, two, here, none, rest)

part_no_uses : (arities : List ℕ) (v : Word) (q : Part) → IsOutOf arities (room_of q) v → IsNoCut v → sum_by (uses v) (part_pieces arities q) ≡ 0
part_no_uses arities v q out other =
    let both = sum_by-append (uses v) (pieces_in arities (room_of q) (pieces q.net)) (map (end_piece arities (room_of q)) q.borders.ends) in
    let one = all_no_uses arities (room_of q) v (pieces q.net) out in
    let two = ends_no_uses arities (room_of q) v q.borders.ends out other in
    omega (arith, both, one, two)

-- words of one room in another one
out_of : (arities : List ℕ) (j k : ℕ) (w : Word) → j < ROOMS → k < ROOMS → (j ≡ k → ⊥) → is_constant_tag arities w.tag ≡ false → IsOutOf arities k (in_room arities j w)
out_of arities j k w low also apart place u = apart_in_rooms arities j k w u low also apart place

-- Other parts don't name a place of this one.
pub unnamed_by_others : (arities : List ℕ) (a : Part) (qs : List Part) (w : Word) → room_of a < ROOMS → AllByRecursion (λ q. room_of q < ROOMS) qs → AreOthers a.number qs
    → is_constant_tag arities w.tag ≡ false
    → count (in_room arities (room_of a) w) (all_interface arities qs) + sum_by (uses (in_room arities (room_of a) w)) (flat_map (part_pieces arities) qs) ≡ 0
unnamed_by_others arities a [] w low rooms others place = refl
unnamed_by_others arities a (q ∷ qs) w low rooms others place =
    let v : Word = in_room arities (room_of a) w in
    let out = out_of arities (room_of a) (room_of q) w low rooms.0 (λ same. others.0 (omega (arith, same))) place in
    let own : List Word = map (in_room arities (room_of q)) q.net.interface in
    let words = sum_by-append (λ (u : Word). cond {A = ℕ} (word_eq v u) 1 0) own (all_interface arities qs) in
    let all = sum_by-append (uses v) (part_pieces arities q) (flat_map (part_pieces arities) qs) in
    let one = no_words arities (room_of q) v q.net.interface out in
    let two = part_no_uses arities v q out (room_no_cut arities (room_of a) w (part_room a low) place) in
    let rest = unnamed_by_others arities a qs w low rooms.1 others.1 place in
    omega (arith, words, all, one, two, rest)

-- ---- idle places

idle_silent : (n : Numbers) (j : ℕ) (ps : List Piece) → AllByRecursion IsIdle ps → flat_map (equations_of n) (pieces_in n.arities j ps) ≡ []
idle_silent n j [] are = refl
idle_silent n j (equated l r ∷ ps) are = absurd are.0
idle_silent n j (idle x ∷ ps) are = idle_silent n j ps are.1
idle_silent n j (waits x u ∷ ps) are = absurd are.0
idle_silent n j (agent_of a us ∷ ps) are = absurd are.0

-- a side of idle places without ends says nothing
side_silent : (n : Numbers) (j : ℕ) (s : Side) (rest : List Piece) → AllByRecursion IsIdle s.places → s.ends ≡ []
    → flat_map (equations_of n) (side_pieces n.arities j s ++ rest) ≡ flat_map (equations_of n) rest
side_silent n j s rest are none =
    let f : Piece → List Pair = equations_of n in
    let places : List Piece = pieces_in n.arities j s.places in
    ap (λ (l : List CutEnd). flat_map f ((places ++ map (end_piece n.arities j) l) ++ rest)) none
    ∙ (ap (λ (l : List Piece). flat_map f (l ++ rest)) (append-nil places)
    ∙ (flat_map-append f places rest ∙ ap (λ (l : List Pair). l ++ flat_map f rest) (idle_silent n j s.places are)))

-- what other words and pieces say names no place of this room
abbrev pub IsUnnamed : List ℕ → ℕ → List Word → List Piece → Type 0
IsUnnamed arities j is rest = (w : Word) → is_constant_tag arities w.tag ≡ false
    → count (in_room arities j w) is + sum_by (uses (in_room arities j w)) rest ≡ 0

pub stage_drops : NetLaws → (n : Numbers) (j : ℕ) (is : List Word) (s : Side) (rest : List Piece) (us : List Word)
    → AllByRecursion IsIdle s.places → s.ends ≡ [] → IsUnnamed n.arities j is rest
    → Stage n is (side_pieces n.arities j s ++ rest) rest us us
stage_drops laws n j is s rest us are none unnamed = record {
  grow = λ c. let same = ap (λ (l : List Pair). occurrences (cut_number n c) (flat_map pair_names l)) (side_silent n j s rest are none) in omega (arith, same);
  way = dropped;
  whole = λ whole. whole;
  net = λ top whole way few named.
      let start : Configuration = on_way n is us (side_pieces n.arities j s ++ rest) top in
      let same : start ≡ on_way n is us rest top = ap (λ (l : List Pair). net_of_row (length is) (over (written n is us) []) l top) (side_silent n j s rest are none) in
      (top, transport (OneNet start) same (laws.itself start named));
}
  where
    dropped : AreOnWay n.arities is (side_pieces n.arities j s ++ rest) → AreOnWay n.arities is rest
    dropped way = record {
      each = all_last (IsPiece n.arities) (side_pieces n.arities j s) rest way.each;
      separate = λ w place other. at w place other (at_room n.arities j w s.places each_s);
      once = λ w. let both = sum_by-append (holds w) (side_pieces n.arities j s) rest in let few = way.once w in omega (arith, both, few);
    }
      where
        each_s : ArePieces n.arities s.places
        each_s =
            each_out n.arities j s.places (all_first (IsPiece n.arities) (pieces_in n.arities j s.places) (map (end_piece n.arities j) s.ends)
            (all_first (IsPiece n.arities) (side_pieces n.arities j s) rest way.each))

        at : (w : Word) → is_constant_tag n.arities w.tag ≡ false → IsNoCut w
            → (sum_by (holds w) (pieces_in n.arities j s.places) ≡ 0) ⊎ IsAtRoom n.arities j w → count w is + sum_by (uses w) rest ≤ sum_by (room w) rest
        at w place other (inl none) =
            let before = way.separate w place other in
            let u = sum_by-append (uses w) (side_pieces n.arities j s) rest in
            let r = sum_by-append (room w) (side_pieces n.arities j s) rest in
            let own = side_room n.arities j w s in
            let empty = held_room w (pieces_in n.arities j s.places) none in
            omega (arith, before, u, r, own, empty)
        at w place other (inr there) =
            let no = transport (λ (v : Word). count v is + sum_by (uses v) rest ≡ 0) (sym there.is) (unnamed there.own there.place) in
            omega (arith, no)

-- ---- ends that are left

-- how often ends of a name name it
names_of_ends : (n : Numbers) (j m : ℕ) (es : List CutEnd) → AreNumbers n → IsPartRoom j
    → occurrences ((of_room j n).of_place (name_word m)) (flat_map pair_names (map (end_equation n j) es)) ≡ times m (map (λ e. e.name) es)
names_of_ends n j m [] sound part = refl
names_of_ends n j m (e ∷ es) sound part =
    let x : ℕ = (of_room j n).of_place (name_word m) in
    let all = front_names x (end_equation n j e) (map (end_equation n j) es) in
    let both = occurrences-append x ((of_room j n).of_place (end_word e) ∷ []) (cut_number n e.cut ∷ []) in
    let cut_none = other_occurs (cut_number n e.cut) x (λ same. no_cut_place n j e.cut (name_word m) sound part refl (sym same)) in
    let here = at (e.name == m) refl in
    let rest = names_of_ends n j m es sound part in
    let sum = sum_by-cons (λ (k : ℕ). cond {A = ℕ} (k == m) 1 0) e.name (map (λ (f : CutEnd). f.name) es) in
    omega (arith, all, both, cut_none, here, rest, sum)
  where
    at : (b : Bool) → (e.name == m) ≡ b
        → occurrences ((of_room j n).of_place (name_word m)) ((of_room j n).of_place (end_word e) ∷ []) ≡ cond {A = ℕ} (e.name == m) 1 0
    at true same =
        ap (λ (k : ℕ). occurrences ((of_room j n).of_place (name_word m)) ((of_room j n).of_place (name_word k) ∷ [])) ((unsigned_Decides e.name m).0 same)
        ∙ (itself_occurs ((of_room j n).of_place (name_word m)) ∙ sym (ap (λ (b : Bool). cond {A = ℕ} b 1 0) same))
    at false apart =
        other_occurs ((of_room j n).of_place (end_word e)) ((of_room j n).of_place (name_word m)) (λ same.
        let is : word_eq (in_room n.arities j (end_word e)) (in_room n.arities j (name_word m)) ≡ true =
        sound.apart (in_room n.arities j (end_word e)) (in_room n.arities j (name_word m)) same in
        let index : e.name * ROOMS + j ≡ m * ROOMS + j = (unsigned_Decides (e.name * ROOMS + j) (m * ROOMS + j)).0 is in
        true_false (sym ((unsigned_Decides e.name m).1 (omega (arith, index))) ∙ apart))
        ∙ sym (ap (λ (b : Bool). cond {A = ℕ} b 1 0) apart)

-- The name of an end that is left occurs once. But the names that occur once are given, and no place has such a name.
pub no_end_left : (n : Numbers) (j top : ℕ) (is us : List Word) (s : Side) (rest : List Piece) → AreNumbers n → IsPartRoom j → AreWhole n us
    → AllByRecursion IsIdle s.places → ((x : ℕ) → times x (map (λ e. e.name) s.ends) ≤ 1) → IsUnnamed n.arities j is rest → IsOutside n.arities j rest
    → AreGiven n.given (on_way n is us (side_pieces n.arities j s ++ rest) top) → s.ends ≡ []
no_end_left n j top is us s rest sound part whole are once unnamed outside given = at s.ends refl
  where
    at : (es : List CutEnd) → s.ends ≡ es → s.ends ≡ []
    at [] same = same
    at (e ∷ es) same =
        let w : Word = end_word e in
        let v : Word = in_room n.arities j w in
        let x : ℕ = n.of_place v in
        let d : Configuration = on_way n is us (side_pieces n.arities j s ++ rest) top in
        let none = unnamed w refl in
        let empty = outside w refl in
        let less = hold_room v rest in
        let all = way_names n x top is us (flat_map (equations_of n) (side_pieces n.arities j s ++ rest)) whole in
        let words = written_names x (leaves n is) (map (spelled_word n) us) in
        let interface = leaves_names n x is in
        let one = no_terms n v is sound (omega (arith, none)) in
        let two = no_spelled_words n j w us sound part refl in
        let three = no_pieces n v rest sound (omega (arith, none)) (omega (arith, less, empty)) in
        let beside = ap (λ (l : List Pair). occurrences x (flat_map pair_names l)) (beside_is n j s rest) in
        let both = both_names x (side_equations n j s) (flat_map (equations_of n) rest) in
        let own = both_names x (flat_map (equations_of (of_room j n)) s.places) (map (end_equation n j) s.ends) in
        let silent : occurrences x (flat_map pair_names (flat_map (equations_of (of_room j n)) s.places)) ≡ 0 =
        ap (λ (l : List Pair). occurrences x (flat_map pair_names l)) (sym (all_in_room n j s.places) ∙ idle_silent n j s.places are) in
        let ends = names_of_ends n j e.name s.ends sound part in
        let few = once e.name in
        let listed : times e.name (map (λ (f : CutEnd). f.name) s.ends) ≡ times e.name (e.name ∷ map (λ (f : CutEnd). f.name) es) =
        ap (λ (l : List CutEnd). times e.name (map (λ (f : CutEnd). f.name) l)) same in
        let sum = sum_by-cons (λ (k : ℕ). cond {A = ℕ} (k == e.name) 1 0) e.name (map (λ (f : CutEnd). f.name) es) in
        let itself : cond {A = ℕ} (e.name == e.name) 1 0 ≡ 1 = ap (λ (b : Bool). cond {A = ℕ} b 1 0) ((unsigned_Decides e.name e.name).1 refl) in
        let alone : occurrences x (configuration_names d) ≡ 1 =
        omega (arith, all, words, interface, one, two, three, beside, both, own, silent, ends, few, listed, sum, itself) in
        let is_given = (given x).0 alone in
        absurd (sound.not_given is_given.0 x v is_given.1 refl)
