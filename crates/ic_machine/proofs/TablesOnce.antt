-- Tables say once at most what is at a place.
use Rattle.std.proofs.Common.{◌≡◌, ℕ, zero, suc, ◌+◌, ◌≤◌, ◌==◌, List, [], ◌∷◌, ◌++◌, Bool, true, false, cond, take, drop, refl, sym, ap, ◌∙◌, arith, sum_by}
use Rattle.std.specs.Cmp.{unsigned_Decides}
use Rattle.std.proofs.lemmas.Bool.{and_parts}
use Rattle.std.proofs.lemmas.List.Sums.{sum_by-cons, sum_by-append}
use Rattle.ic_arena.specs.declared.word.Word.{Word}
use Rattle.ic_arena.specs.declared.word.TheConstants.{FREE, IDLE, NAME}
use Rattle.ic_arena.specs.Word.{agent_word, name_word, word_eq}
use Rattle.ic_arena.specs.Piece.{Piece, equated, idle, waits, agent_of, room}
use Rattle.ic_arena.specs.Tables.{Blocks, block_piece, blocks_from, blocks_pieces, entry_piece, names_pieces}
use Rattle.ic_arena.specs.lemmas.Rooms.{block_elsewhere, blocks_elsewhere, entry_elsewhere, names_elsewhere, other_index, other_tag}
use Rattle.ic_machine.specs.Moving.{tells}
use Rattle.ic_machine.specs.inner.Firing.{heaps_pieces}

true_false : true ≡ false → ⊥
true_false e = cc

-- what is said of a place gives it room
tells_room : (w : Word) (ps : List Piece) → sum_by (tells w) ps ≤ sum_by (room w) ps
tells_room w [] = omega arith
tells_room w (p ∷ ps) =
    let a = sum_by-cons (tells w) p ps in
    let b = sum_by-cons (room w) p ps in
    let here = one p in
    let rest = tells_room w ps in
    omega (arith, a, b, here, rest)
  where
    one : (p : Piece) → tells w p ≤ room w p
    one (equated l r) = omega arith
    one (idle x) = elim (word_eq w x) as (λ (b : Bool). cond {A = ℕ} b 1 0 ≤ cond {A = ℕ} b 2 0) [
      | true ↦ omega arith
      | false ↦ omega arith
    ]
    one (waits x u) = omega arith
    one (agent_of a ws) = omega arith

none_told : (w : Word) (ps : List Piece) → sum_by (room w) ps ≡ 0 → sum_by (tells w) ps ≡ 0
none_told w ps none = let less = tells_room w ps in omega (arith, none, less)

small : (b : Bool) → cond {A = ℕ} b 1 0 ≤ 1
small true = omega arith
small false = omega arith

one_told : (w : Word) (p : Piece) → tells w p ≤ 1
one_told w (equated l r) = omega arith
one_told w (idle x) = small (word_eq w x)
one_told w (waits x u) = small (word_eq w x)
one_told w (agent_of a ws) = small (word_eq w a)

alone : (w : Word) (p : Piece) → sum_by (tells w) (p ∷ []) ≤ 1
alone w p = let a = sum_by-cons (tells w) p [] in let b = one_told w p in omega (arith, a, b)

entry_told : (w : Word) (i : ℕ) (x : Word) → sum_by (tells w) (entry_piece i x) ≤ 1
entry_told w i x = elim (x.tag == FREE) as (λ t. sum_by (tells w)
    (cond t [] (cond (x.tag == IDLE) (idle (name_word i) ∷ []) (waits (name_word i) x ∷ []))) ≤ 1) [
      | true ↦ omega arith
      | false ↦ elim (x.tag == IDLE) as (λ t. sum_by (tells w) (cond t (idle (name_word i) ∷ []) (waits (name_word i) x ∷ [])) ≤ 1) [
        | true ↦ alone w (idle (name_word i))
        | false ↦ alone w (waits (name_word i) x)
      ]
    ]

word_is : (v u : Word) → word_eq v u ≡ true → v ≡ u
word_is v u e =
    let both = and_parts (v.tag == u.tag) (v.index == u.index) e in
    let tag = (unsigned_Decides v.tag u.tag).0 both.0 in
    let index = (unsigned_Decides v.index u.index).0 both.1 in
    λ i. record { tag = tag i; index = index i }

names_told : (w : Word) (b : ℕ) (es : List Word) → sum_by (tells w) (names_pieces b es) ≤ 1
names_told w b [] = omega arith
names_told w b (e ∷ es) = at (word_eq w (name_word b)) refl (names_told w (b + 1) es)
  where
    both : sum_by (tells w) (names_pieces b (e ∷ es)) ≡ sum_by (tells w) (entry_piece b e) + sum_by (tells w) (names_pieces (b + 1) es)
    both = sum_by-append (tells w) (entry_piece b e) (names_pieces (b + 1) es)

    at : (t : Bool) → word_eq w (name_word b) ≡ t → sum_by (tells w) (names_pieces (b + 1) es) ≤ 1 → sum_by (tells w) (names_pieces b (e ∷ es)) ≤ 1
    at true same later =
        let is = word_is w (name_word b) same in
        let none = none_told w (names_pieces (b + 1) es) (names_elsewhere w (b + 1) es (λ i le. ap (λ (v : Word). word_eq v (name_word i)) is
        ∙ other_index (name_word b) (name_word i) (λ q. omega (arith, q, le)))) in
        let here = entry_told w b e in
        let all = both in
        omega (arith, none, here, all)
    at false other later =
        let none = none_told w (entry_piece b e) (entry_elsewhere w b e other) in
        let all = both in
        omega (arith, none, later, all)

blocks_told : (w : Word) (s k i n : ℕ) (ws : List Word) → sum_by (tells w) (blocks_from s k i n ws) ≤ 1
blocks_told w s k i zero ws = omega arith
blocks_told w s k i (suc n) ws = at (word_eq w (agent_word s i)) refl (blocks_told w s k (i + 1) n (drop k ws))
  where
    both : sum_by (tells w) (blocks_from s k i (suc n) ws)
        ≡ sum_by (tells w) (block_piece (agent_word s i) (take k ws)) + sum_by (tells w) (blocks_from s k (i + 1) n (drop k ws))
    both = sum_by-append (tells w) (block_piece (agent_word s i) (take k ws)) (blocks_from s k (i + 1) n (drop k ws))

    block_told : (a : Word) (vs : List Word) → sum_by (tells w) (block_piece a vs) ≤ 1
    block_told a [] = omega arith
    block_told a (v ∷ vs) = elim (v.tag == FREE) as (λ t. sum_by (tells w) (cond t [] (agent_of a (v ∷ vs) ∷ [])) ≤ 1) [
      | true ↦ omega arith
      | false ↦ alone w (agent_of a (v ∷ vs))
    ]

    at : (t : Bool) → word_eq w (agent_word s i) ≡ t → sum_by (tells w) (blocks_from s k (i + 1) n (drop k ws)) ≤ 1
        → sum_by (tells w) (blocks_from s k i (suc n) ws) ≤ 1
    at true same later =
        let is = word_is w (agent_word s i) same in
        let none = none_told w (blocks_from s k (i + 1) n (drop k ws)) (blocks_elsewhere w s k (i + 1) n (drop k ws) (λ p le lt.
        ap (λ (v : Word). word_eq v (agent_word s p)) is ∙ other_index (agent_word s i) (agent_word s p) (λ q. omega (arith, q, le)))) in
        let here = block_told (agent_word s i) (take k ws) in
        let all = both in
        omega (arith, none, here, all)
    at false other later =
        let none = none_told w (block_piece (agent_word s i) (take k ws)) (block_elsewhere w (agent_word s i) (take k ws) other) in
        let all = both in
        omega (arith, none, later, all)

-- agents of other symbols
heaps_elsewhere : (w : Word) (s : ℕ) (bs : List Blocks) → w.tag ≤ s → sum_by (room w) (heaps_pieces s bs) ≡ 0
heaps_elsewhere w s [] low = refl
heaps_elsewhere w s (b ∷ bs) low =
    let both = sum_by-append (room w) (blocks_pieces s b) (heaps_pieces (s + 1) bs) in
    let here : sum_by (room w) (blocks_pieces s b) ≡ 0 =
    blocks_elsewhere w s b.arity 0 b.count b.words (λ p le lt. other_tag w (agent_word s p) (λ q. omega (arith, q, low))) in
    let rest = heaps_elsewhere w (s + 1) bs (omega (arith, low)) in
    omega (arith, both, here, rest)

heaps_told : (w : Word) (s : ℕ) (bs : List Blocks) → sum_by (tells w) (heaps_pieces s bs) ≤ 1
heaps_told w s [] = omega arith
heaps_told w s (b ∷ bs) = at (w.tag == s + 1) refl (heaps_told w (s + 1) bs)
  where
    both : sum_by (tells w) (heaps_pieces s (b ∷ bs)) ≡ sum_by (tells w) (blocks_pieces s b) + sum_by (tells w) (heaps_pieces (s + 1) bs)
    both = sum_by-append (tells w) (blocks_pieces s b) (heaps_pieces (s + 1) bs)

    at : (t : Bool) → (w.tag == s + 1) ≡ t → sum_by (tells w) (heaps_pieces (s + 1) bs) ≤ 1 → sum_by (tells w) (heaps_pieces s (b ∷ bs)) ≤ 1
    at true same later =
        let tag = (unsigned_Decides w.tag (s + 1)).0 same in
        let none = none_told w (heaps_pieces (s + 1) bs) (heaps_elsewhere w (s + 1) bs (omega (arith, tag))) in
        let here = blocks_told w s b.arity 0 b.count b.words in
        let all = both in
        omega (arith, none, here, all)
    at false other later =
        let none = none_told w (blocks_pieces s b) (blocks_elsewhere w s b.arity 0 b.count b.words (λ p le lt.
        other_tag w (agent_word s p) (λ q. true_false (sym ((unsigned_Decides w.tag (s + 1)).1 q) ∙ other)))) in
        let all = both in
        omega (arith, none, later, all)

-- What tables hold says once at most what is at a place.
pub tables_told : (w : Word) (es : List Word) (bs : List Blocks) → sum_by (tells w) (names_pieces 0 es ++ heaps_pieces 0 bs) ≤ 1
tables_told w es bs = at (w.tag == NAME) refl
  where
    both : sum_by (tells w) (names_pieces 0 es ++ heaps_pieces 0 bs) ≡ sum_by (tells w) (names_pieces 0 es) + sum_by (tells w) (heaps_pieces 0 bs)
    both = sum_by-append (tells w) (names_pieces 0 es) (heaps_pieces 0 bs)

    at : (t : Bool) → (w.tag == NAME) ≡ t → sum_by (tells w) (names_pieces 0 es ++ heaps_pieces 0 bs) ≤ 1
    at true same =
        let tag : w.tag ≡ 0 = (unsigned_Decides w.tag NAME).0 same in
        let none = none_told w (heaps_pieces 0 bs) (heaps_elsewhere w 0 bs (omega (arith, tag))) in
        let here = names_told w 0 es in
        let all = both in
        omega (arith, none, here, all)
    at false other =
        let none = none_told w (names_pieces 0 es) (names_elsewhere w 0 es (λ i le.
        other_tag w (name_word i) (λ q. true_false (sym ((unsigned_Decides w.tag NAME).1 q) ∙ other)))) in
        let here = heaps_told w 0 bs in
        let all = both in
        omega (arith, none, here, all)
