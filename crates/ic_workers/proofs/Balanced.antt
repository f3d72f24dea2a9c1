-- Lemmas: how often words and sides name a place, as words are spelled.
use Rattle.std.proofs.Common.{◌≡◌, ℕ, ◌+◌, List, [], ◌∷◌, ◌++◌, Bool, true, false, cond, map, sym, ap, ◌∙◌, arith, sum_by}
use Rattle.std.specs.Prelude.{IsPermutation}
use Rattle.std.proofs.lemmas.List.{map-append}
use Rattle.std.proofs.lemmas.List.Sums.{sum_by-cons, sum_by-append}
use Rattle.std.proofs.lemmas.List.Sorted.{sum_by-IsPermutation, IsPermutation-map}
use Rattle.ic_arena.specs.declared.word.Word.{Word}
use Rattle.ic_arena.specs.Word.{word_eq, count}
use Rattle.ic_arena.specs.Piece.{Piece, idle, waits, agent_of, room, uses}
use Rattle.ic_arena.specs.lemmas.Rooms.{other_tag}
use Rattle.ic_machine.specs.Moving.{CutEnd, Side, Spells, nothing, follow, opened, plain, cut, gone, end_word}
use Rattle.ic_machine.specs.Rooms.{in_room, piece_in, pieces_in}
use Rattle.ic_machine.specs.Separate.{is_constant_tag}
use Rattle.ic_machine.specs.lemmas.InRooms.{room_tag}
use Rattle.ic_machine.specs.lemmas.Separation.{twice}

-- the name of an end, among the words of all
abbrev pub end_in : List ℕ → ℕ → CutEnd → Word
end_in arities k e = in_room arities k (end_word e)

-- how often roots, ends and places name a word
abbrev pub named_by : List ℕ → ℕ → Word → List Word → Side → ℕ
named_by arities k w ws s = count w (map (in_room arities k) ws)
    + (count w (map (end_in arities k) s.ends) + sum_by (uses w) (pieces_in arities k s.places))

-- how often it may be named there
abbrev pub room_by : List ℕ → ℕ → Word → Side → ℕ
room_by arities k w s = sum_by (room w) (pieces_in arities k s.places)

true_false : true ≡ false → ⊥
true_false e = cc

-- what a piece counts that is taken out
pub taken_sum : (f : Piece → ℕ) (arities : List ℕ) (k : ℕ) (p : Piece) (xs ys : List Piece) → IsPermutation xs (p ∷ ys)
    → sum_by f (pieces_in arities k xs) ≡ f (piece_in arities k p) + sum_by f (pieces_in arities k ys)
taken_sum f arities k p xs ys taken =
    sym (sum_by-IsPermutation f (pieces_in arities k xs) (pieces_in arities k (p ∷ ys)) (IsPermutation-map (piece_in arities k) xs (p ∷ ys) taken))
    ∙ sum_by-cons f (piece_in arities k p) (pieces_in arities k ys)

pub ordered_sum : (f : Piece → ℕ) (arities : List ℕ) (k : ℕ) (xs ys : List Piece) → IsPermutation xs ys
    → sum_by f (pieces_in arities k xs) ≡ sum_by f (pieces_in arities k ys)
ordered_sum f arities k xs ys moved =
    sym (sum_by-IsPermutation f (pieces_in arities k xs) (pieces_in arities k ys) (IsPermutation-map (piece_in arities k) xs ys moved))

pub ordered_ends : (arities : List ℕ) (k : ℕ) (w : Word) (xs ys : List CutEnd) → IsPermutation xs ys
    → count w (map (end_in arities k) xs) ≡ count w (map (end_in arities k) ys)
ordered_ends arities k w xs ys moved =
    sym (sum_by-IsPermutation (λ (v : Word). cond {A = ℕ} (word_eq w v) 1 0) (map (end_in arities k) xs) (map (end_in arities k) ys)
    (IsPermutation-map (end_in arities k) xs ys moved))

pub first_count : (w v : Word) (vs : List Word) → count w (v ∷ vs) ≡ cond (word_eq w v) 1 0 + count w vs
first_count w v vs = sum_by-cons (λ (u : Word). cond {A = ℕ} (word_eq w u) 1 0) v vs

pub both_count : (arities : List ℕ) (k : ℕ) (w : Word) (vs ws : List Word)
    → count w (map (in_room arities k) (vs ++ ws)) ≡ count w (map (in_room arities k) vs) + count w (map (in_room arities k) ws)
both_count arities k w vs ws =
    ap (count w) (map-append (in_room arities k) vs ws)
    ∙ sum_by-append (λ (u : Word). cond {A = ℕ} (word_eq w u) 1 0) (map (in_room arities k) vs) (map (in_room arities k) ws)

-- a place is no word that names none
pub no_constant : (arities : List ℕ) (k : ℕ) (w v : Word) → is_constant_tag arities w.tag ≡ false → is_constant_tag arities v.tag ≡ true
    → word_eq w (in_room arities k v) ≡ false
no_constant arities k w v place alone =
    other_tag w (in_room arities k v) (λ same. true_false (sym alone ∙ (ap (is_constant_tag arities) (sym (same ∙ room_tag arities k v)) ∙ place)))

-- What words spell is named as much less often as there is less room for it.
pub spells_balance : (arities : List ℕ) (k : ℕ) (w : Word) (full rest : Side) (ws ts : List Word) → is_constant_tag arities w.tag ≡ false
    → Spells arities full rest ws ts
    → named_by arities k w ws full + room_by arities k w rest ≡ named_by arities k w [] rest + room_by arities k w full
spells_balance arities k w full rest ws ts place (nothing a b places ends) =
    let u = ordered_sum (uses w) arities k a.places b.places places in
    let r = ordered_sum (room w) arities k a.places b.places places in
    let e = ordered_ends arities k w a.ends b.ends ends in
    omega (arith, u, r, e)
spells_balance arities k w full rest ws ts place (follow a mid b x y vs us tag places ends more) =
    let u = taken_sum (uses w) arities k (waits x y) a.places mid.places places in
    let r = taken_sum (room w) arities k (waits x y) a.places mid.places places in
    let e = ordered_ends arities k w a.ends mid.ends ends in
    let one = first_count w (in_room arities k y) [] in
    let before = first_count w (in_room arities k x) (map (in_room arities k) vs) in
    let after = first_count w (in_room arities k y) (map (in_room arities k) vs) in
    let later = spells_balance arities k w mid b (y ∷ vs) us place more in
    omega (arith, u, r, e, one, before, after, later)
spells_balance arities k w full rest ws ts place (opened a mid b g vs us xs is places ends more) =
    let u = taken_sum (uses w) arities k (agent_of g vs) a.places mid.places places in
    let r = taken_sum (room w) arities k (agent_of g vs) a.places mid.places places in
    let e = ordered_ends arities k w a.ends mid.ends ends in
    let before = first_count w (in_room arities k g) (map (in_room arities k) us) in
    let after = both_count arities k w vs us in
    let later = spells_balance arities k w mid b (vs ++ us) xs place more in
    omega (arith, u, r, e, before, after, later)
spells_balance arities k w full rest ws ts place (plain a b v vs us is more) =
    let other : cond {A = ℕ} (word_eq w (in_room arities k v)) 1 0 ≡ 0 = ap (λ (t : Bool). cond {A = ℕ} t 1 0) (no_constant arities k w v place is) in
    let before = first_count w (in_room arities k v) (map (in_room arities k) vs) in
    let later = spells_balance arities k w a b vs us place more in
    omega (arith, other, before, later)
spells_balance arities k w full rest ws ts place (cut a mid b e vs us places ends more) =
    let u = ordered_sum (uses w) arities k a.places mid.places places in
    let r = ordered_sum (room w) arities k a.places mid.places places in
    let s = ordered_ends arities k w (e ∷ a.ends) mid.ends ends in
    let one = first_count w (end_in arities k e) (map (end_in arities k) a.ends) in
    let before = first_count w (end_in arities k e) (map (in_room arities k) vs) in
    let later = spells_balance arities k w mid b vs us place more in
    omega (arith, u, r, s, one, before, later)
spells_balance arities k w full rest ws ts place (gone a mid b e vs us places ends more) =
    let u = taken_sum (uses w) arities k (idle (end_word e)) a.places mid.places places in
    let r = taken_sum (room w) arities k (idle (end_word e)) a.places mid.places places in
    let two = twice (word_eq w (end_in arities k e)) in
    let s = ordered_ends arities k w a.ends (e ∷ mid.ends) ends in
    let one = first_count w (end_in arities k e) (map (end_in arities k) mid.ends) in
    let before = first_count w (end_in arities k e) (map (in_room arities k) vs) in
    let later = spells_balance arities k w mid b vs us place more in
    omega (arith, u, r, two, s, one, before, later)
