-- What holds of each piece of the tables, and how many pieces there are.
use Rattle.std.proofs.Common.{◌≡◌, ℕ, zero, suc, ◌+◌, ◌*◌, ◌<◌, ◌≤◌, ◌==◌, List, [], ◌∷◌, ◌++◌, Bool, true, false, cond, Contains, Some, slice_index_or, length, take, drop, refl, ap, sym, subst, ◌∙◌, arith, sum_by}
use Rattle.std.specs.List.{AllByRecursion}
use Rattle.std.proofs.Math.Nat.{suc-mul}
use Rattle.std.proofs.lemmas.List.{length-append, length-drop, length-take-le}
use Rattle.std.proofs.lemmas.List.Sums.{sum_by-cons}
use Rattle.ic_arena.specs.declared.word.Word.{Word}
use Rattle.ic_arena.specs.declared.word.TheConstants.{FREE, IDLE}
use Rattle.ic_arena.specs.Word.{name_word, agent_word}
use Rattle.ic_arena.specs.Piece.{Piece, equated, idle, waits, agent_of}
use Rattle.ic_arena.specs.Tables.{Blocks, AreBlocks, block_piece, blocks_from, blocks_pieces, entry_piece, names_pieces}
use Rattle.ic_machine.specs.Held.{IsHeld}
use Rattle.ic_machine.specs.inner.Firing.{arities_of, heaps_pieces, table}
use Rattle.ic_machine.specs.lemmas.FiringKeeps.{all_append}
use Rattle.ic_machine.proofs.Heaps.{arity_at}

either : (Q : Piece → Type 0) (b : Bool) (xs ys : List Piece) → AllByRecursion Q xs → AllByRecursion Q ys
    → AllByRecursion Q (cond b xs ys)
either Q true xs ys h k = h
either Q false xs ys h k = k

-- what holds of what each entry says
pub all_names : (Q : Piece → Type 0) (b : ℕ) (ws : List Word)
    → ((i : ℕ) → b ≤ i → i < b + length ws → Q (idle (name_word i)))
    → ((i : ℕ) (w : Word) → b ≤ i → i < b + length ws → Q (waits (name_word i) w))
    → AllByRecursion Q (names_pieces b ws)
all_names Q b [] f g = tt
all_names Q b (w ∷ ws) f g =
    all_append Q (entry_piece b w) (names_pieces (b + 1) ws)
    (either Q (w.tag == FREE) [] (cond (w.tag == IDLE) (idle (name_word b) ∷ []) (waits (name_word b) w ∷ [])) tt
    (either Q (w.tag == IDLE) (idle (name_word b) ∷ []) (waits (name_word b) w ∷ [])
    (f b (omega arith) (omega arith), tt) (g b w (omega arith) (omega arith), tt)))
    (all_names Q (b + 1) ws (λ i le lt. f i (omega arith) (omega arith))
    (λ i v le lt. g i v (omega arith) (omega arith)))

pub one_block : (Q : Piece → Type 0) (a : Word) (ws : List Word) → (1 ≤ length ws → Q (agent_of a ws))
    → AllByRecursion Q (block_piece a ws)
one_block Q a [] f = tt
one_block Q a (w ∷ ws) f = either Q (w.tag == FREE) [] (agent_of a (w ∷ ws) ∷ []) tt (f (omega arith), tt)

-- what holds of what each block says
pub all_blocks : (Q : Piece → Type 0) (s k i n : ℕ) (ws : List Word) → length ws ≡ n * k
    → ((p : ℕ) (vs : List Word) → i ≤ p → p < i + n → length vs ≡ k → 1 ≤ length vs → Q (agent_of (agent_word s p) vs))
    → AllByRecursion Q (blocks_from s k i n ws)
all_blocks Q s k i zero ws e f = tt
all_blocks Q s k i (suc n) ws e f =
    let more : suc n * k ≡ n * k + k = suc-mul n k in
    let first : length (take k ws) ≡ k = length-take-le k ws (omega arith) in
    let rest : length (drop k ws) ≡ n * k = length-drop k ws ∙ omega arith in
    all_append Q (block_piece (agent_word s i) (take k ws)) (blocks_from s k (i + 1) n (drop k ws))
    (one_block Q (agent_word s i) (take k ws) (λ some. f i (take k ws) (omega arith) (omega arith) first some))
    (all_blocks Q s k (i + 1) n (drop k ws) rest
    (λ p vs le lt long some. f p vs (omega arith) (omega arith) long some))

-- what holds of what each table says
pub all_heaps : (Q : Piece → Type 0) (base : ℕ) (hs : List Blocks) → AllByRecursion AreBlocks hs
    → ((i s p : ℕ) (vs : List Word) → s ≡ base + i → i < length hs → p < (table hs i).count
    → length vs ≡ (table hs i).arity → 1 ≤ length vs → Q (agent_of (agent_word s p) vs))
    → AllByRecursion Q (heaps_pieces base hs)
all_heaps Q base [] sound f = tt
all_heaps Q base (b ∷ bs) sound f =
    all_append Q (blocks_pieces base b) (heaps_pieces (base + 1) bs)
    (all_blocks Q base b.arity 0 b.count b.words sound.0.whole
    (λ p vs le lt long some. f 0 base p vs (omega arith) (omega arith) (omega arith) long some))
    (all_heaps Q (base + 1) bs sound.1
    (λ i s p vs e lt below long some. f (suc i) s p vs (omega arith) (omega arith) below long some))

-- what holds of each of a list holds of what stands in it
pub all_contained : (Q : Piece → Type 0) (ps : List Piece) (p : Piece) → AllByRecursion Q ps → Contains ps p → Q p
all_contained Q ps p all there = at ps there.0 all there.1 there.2
  where
    at : (ps : List Piece) (k : ℕ) → AllByRecursion Q ps → k < length ps → slice_index_or ps k p ≡ p → Q p
    at [] k all h e = absurd (omega arith)
    at (q ∷ ps) zero all h e = subst Q e all.0
    at (q ∷ ps) (suc k) all h e = at ps k all.1 (omega arith) e

-- a piece that stands in a list is counted
pub sum_contained : (f : Piece → ℕ) (ps : List Piece) (p : Piece) → Contains ps p → f p ≤ sum_by f ps
sum_contained f ps p there = at ps there.0 there.1 there.2
  where
    at : (ps : List Piece) (k : ℕ) → k < length ps → slice_index_or ps k p ≡ p → f p ≤ sum_by f ps
    at [] k h e = absurd (omega arith)
    at (q ∷ ps) zero h e =
        let a = sum_by-cons f q ps in
        let same : f q ≡ f p = ap f e in
        omega arith
    at (q ∷ ps) (suc k) h e =
        let a = sum_by-cons f q ps in
        let ih = at ps k (omega arith) e in
        omega arith

-- the tables hold what places hold
pub tables_held : (ws : List Word) (hs : List Blocks) → AllByRecursion AreBlocks hs
    → AllByRecursion (IsHeld (arities_of hs)) (names_pieces 0 ws ++ heaps_pieces 0 hs)
tables_held ws hs sound =
    all_append (IsHeld (arities_of hs)) (names_pieces 0 ws) (heaps_pieces 0 hs)
    (all_names (IsHeld (arities_of hs)) 0 ws (λ i le lt. refl) (λ i w le lt. refl))
    (all_heaps (IsHeld (arities_of hs)) 0 hs sound
    (λ i s p vs e lt below long some. record {
      symbol = i;
      is = omega arith;
      known = arity_at hs i lt ∙ ap Some (sym long);
      some = some;
    }))

-- a word waits for no name but the first ones
abbrev waits_below : ℕ → Piece → Type 0
waits_below n (equated l r) = Unit {0}
waits_below n (idle x) = Unit {0}
waits_below n (waits x u) = (i : ℕ) × (i < n) × (x ≡ name_word i)
waits_below n (agent_of a ws) = Unit {0}

pub waiting_below : (ws : List Word) (hs : List Blocks) (x u : Word) → AllByRecursion AreBlocks hs
    → Contains (names_pieces 0 ws ++ heaps_pieces 0 hs) (waits x u)
    → (i : ℕ) × (i < length ws) × (x ≡ name_word i)
waiting_below ws hs x u sound there =
    all_contained (waits_below (length ws)) (names_pieces 0 ws ++ heaps_pieces 0 hs) (waits x u)
    (all_append (waits_below (length ws)) (names_pieces 0 ws) (heaps_pieces 0 hs)
    (all_names (waits_below (length ws)) 0 ws (λ i le lt. tt) (λ i w le lt. (i, omega arith, refl)))
    (all_heaps (waits_below (length ws)) 0 hs sound (λ i s p vs e lt below long some. tt))) there

-- agents of a symbol stand at no places but the first ones
abbrev agents_below : List Blocks → ℕ → Piece → Type 0
agents_below hs s (equated l r) = Unit {0}
agents_below hs s (idle x) = Unit {0}
agents_below hs s (waits x u) = Unit {0}
agents_below hs s (agent_of a ws) = a.tag ≡ s + 1 → (s < length hs) × (a.index < (table hs s).count)

pub agent_below : (ws : List Word) (hs : List Blocks) (s : ℕ) (a : Word) (vs : List Word)
    → AllByRecursion AreBlocks hs → a.tag ≡ s + 1
    → Contains (names_pieces 0 ws ++ heaps_pieces 0 hs) (agent_of a vs)
    → (s < length hs) × (a.index < (table hs s).count)
agent_below ws hs s a vs sound tag there =
    all_contained (agents_below hs s) (names_pieces 0 ws ++ heaps_pieces 0 hs) (agent_of a vs)
    (all_append (agents_below hs s) (names_pieces 0 ws) (heaps_pieces 0 hs)
    (all_names (agents_below hs s) 0 ws (λ i le lt. tt) (λ i w le lt. tt))
    (all_heaps (agents_below hs s) 0 hs sound (λ i s' p vs e lt below long some tag'.
    let same : i ≡ s = omega arith in
    (subst (λ (x : ℕ). x < length hs) same lt, subst (λ (x : ℕ). p < (table hs x).count) same below))))
    there tag

-- no more pieces than entries
pub names_few : (b : ℕ) (ws : List Word) → length (names_pieces b ws) ≤ length ws
names_few b [] = omega arith
names_few b (w ∷ ws) =
    let parts = length-append (entry_piece b w) (names_pieces (b + 1) ws) in
    let ih = names_few (b + 1) ws in
    let one : length (entry_piece b w) ≤ 1 = at_most (w.tag == FREE) (w.tag == IDLE) in
    omega arith
  where
    at_most : (f m : Bool) → length (cond f [] (cond m (idle (name_word b) ∷ []) (waits (name_word b) w ∷ []))) ≤ 1
    at_most true m = omega arith
    at_most false true = omega arith
    at_most false false = omega arith

-- no more pieces than blocks
block_few : (a : Word) (ws : List Word) → length (block_piece a ws) ≤ 1
block_few a [] = omega arith
block_few a (w ∷ ws) = at_most (w.tag == FREE)
  where
    at_most : (f : Bool) → length (cond f [] (agent_of a (w ∷ ws) ∷ [])) ≤ 1
    at_most true = omega arith
    at_most false = omega arith

pub blocks_few : (s k i n : ℕ) (ws : List Word) → length (blocks_from s k i n ws) ≤ n
blocks_few s k i zero ws = omega arith
blocks_few s k i (suc n) ws =
    let parts = length-append (block_piece (agent_word s i) (take k ws)) (blocks_from s k (i + 1) n (drop k ws)) in
    let ih = blocks_few s k (i + 1) n (drop k ws) in
    let one = block_few (agent_word s i) (take k ws) in
    omega arith

-- one table more
pub heaps_more : (s : ℕ) (hs : List Blocks) (b : Blocks)
    → length (heaps_pieces s (hs ++ b ∷ [])) ≤ length (heaps_pieces s hs) + b.count
heaps_more s [] b =
    let parts = length-append (blocks_pieces s b) [] in
    let few = blocks_few s b.arity 0 b.count b.words in
    omega arith
heaps_more s (h ∷ hs) b =
    let parts = length-append (blocks_pieces s h) (heaps_pieces (s + 1) (hs ++ b ∷ [])) in
    let whole = length-append (blocks_pieces s h) (heaps_pieces (s + 1) hs) in
    let ih = heaps_more (s + 1) hs b in
    omega arith
