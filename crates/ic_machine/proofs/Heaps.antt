-- What the tables of agents hold, table by table.
use Rattle.std.proofs.Common.{◌≡◌, ℕ, zero, suc, ◌+◌, ◌-◌, ◌*◌, ◌^◌, ◌<◌, ◌≤◌, ◌==◌, inl, inr, List, [], ◌∷◌, ◌++◌, Bool, true, false, cond, length, take, drop, Option, None, Some, slice_get, slice_set, slice_index_or, refl, ap, sym, subst, ◌∙◌, append_assoc, arith, sum_by, zero-add}
use Rattle.std.specs.List.{AllByRecursion}
use Rattle.std.proofs.Math.Nat.{suc-mul, zero-mul}
use Rattle.std.proofs.lemmas.Bool.Decides.{leb_tells}
use Rattle.std.proofs.lemmas.List.{drop-drop, length-drop, length-map, length-take-le}
use Rattle.std.proofs.lemmas.List.Sums.{sum_by-append}
use Rattle.ic_arena.specs.declared.word.Word.{Word}
use Rattle.ic_arena.specs.declared.word.TheConstants.{FREE}
use Rattle.ic_arena.specs.Word.{agent_word, name_word}
use Rattle.ic_arena.specs.Piece.{Piece, agent_of, agent_with, room}
use Rattle.ic_arena.specs.Tables.{Replaced, Blocks, AreBlocks, block_at, block_piece, blocks_from, blocks_pieces, first_word}
use Rattle.ic_arena.specs.lemmas.Rooms.{other_tag, other_index, blocks_elsewhere}
use Rattle.ic_machine.specs.Plan.{Made, AreMade}
use Rattle.ic_machine.specs.inner.Firing.{heaps_pieces, arities_of, table, SameSize, AreSame, HasRoom, Taken}

-- a word whose tag is that of a symbol is an agent
pub as_agent : (w : Word) (s : ℕ) → w.tag ≡ s + 1 → w ≡ agent_word s w.index
as_agent w s h = ap (λ (t : ℕ). record { tag = t; index = w.index }) h

-- a block has the room that is written in it
pub blocks_room : (s k i j m n o : ℕ) (ws : List Word) → j ≡ i + m → o ≡ m * k → m < n
    → sum_by (room (agent_word s j)) (blocks_from s k i n ws)
    ≡ sum_by (room (agent_word s j)) (block_piece (agent_word s j) (take k (drop o ws)))
blocks_room s k i j m zero o ws e f h = absurd (omega arith)
blocks_room s k i j zero (suc n) o ws e f h =
    let same : j ≡ i = omega arith in
    let none : 0 * k ≡ 0 = zero-mul k in
    let first : o ≡ 0 = omega arith in
    let rest : sum_by (room (agent_word s j)) (blocks_from s k (i + 1) n (drop k ws)) ≡ 0 =
    blocks_elsewhere (agent_word s j) s k (i + 1) n (drop k ws)
    (λ p le lt. other_index (agent_word s j) (agent_word s p) (λ q. omega arith)) in
    sum_by-append (room (agent_word s j)) (block_piece (agent_word s i) (take k ws))
    (blocks_from s k (i + 1) n (drop k ws)) ∙ (rw (rest, first, same) (omega arith))
blocks_room s k i j (suc m) (suc n) o ws e f h =
    let here : sum_by (room (agent_word s j)) (blocks_from s k i 1 ws) ≡ 0 =
    blocks_elsewhere (agent_word s j) s k i 1 ws
    (λ p le lt. other_index (agent_word s j) (agent_word s p) (λ q. omega arith)) in
    let next : j ≡ (i + 1) + m = omega arith in
    let more : suc m * k ≡ m * k + k = suc-mul m k in
    let far : k + m * k ≡ o = omega arith in
    let ih : sum_by (room (agent_word s j)) (blocks_from s k (i + 1) n (drop k ws))
    ≡ sum_by (room (agent_word s j)) (block_piece (agent_word s j) (take k (drop (m * k) (drop k ws)))) =
    blocks_room s k (i + 1) j m n (m * k) (drop k ws) next refl (omega arith) in
    let at = drop-drop (m * k) k ws ∙ ap (λ (x : ℕ). drop x ws) far in
    let one : sum_by (room (agent_word s j)) (blocks_from s k i 1 ws)
    ≡ sum_by (room (agent_word s j)) (block_piece (agent_word s i) (take k ws)) =
    sum_by-append (room (agent_word s j)) (block_piece (agent_word s i) (take k ws)) []
    ∙ omega arith in
    let whole = sum_by-append (room (agent_word s j)) (block_piece (agent_word s i) (take k ws))
    (blocks_from s k (i + 1) n (drop k ws)) in
    let moved = ap (λ (l : List Word). sum_by (room (agent_word s j)) (block_piece (agent_word s j) (take k l))) at in
    omega arith

-- a block that has room is that of an agent
block_in_use : (a : Word) (ws : List Word) → 1 ≤ sum_by (room a) (block_piece a ws)
    → block_piece a ws ≡ agent_with a ws
block_in_use a [] h = refl
block_in_use a (w ∷ ws) h = by_mark (w.tag == FREE) h
  where
    by_mark : (b : Bool) → 1 ≤ sum_by (room a) (cond b [] (agent_of a (w ∷ ws) ∷ []))
        → cond b [] (agent_of a (w ∷ ws) ∷ []) ≡ agent_of a (w ∷ ws) ∷ []
    by_mark true h = absurd (omega arith)
    by_mark false h = refl

-- an agent that has room is in a block of its table
pub in_block : (s j : ℕ) (b : Blocks) → 1 ≤ sum_by (room (agent_word s j)) (blocks_pieces s b) → j < b.count
in_block s j b h = elim (leb_tells b.count j) [
  | inl t ↦ (let none : sum_by (room (agent_word s j)) (blocks_pieces s b) ≡ 0 =
      blocks_elsewhere (agent_word s j) s b.arity 0 b.count b.words
      (λ p le lt. other_index (agent_word s j) (agent_word s p)
      (λ q. let below : p < 0 + b.count = lt in let past : b.count ≤ j = t.1 in omega arith)) in
      absurd (omega arith))
  | inr t ↦ t.1
]

pub its_block : (s j : ℕ) (b : Blocks) → 1 ≤ sum_by (room (agent_word s j)) (blocks_pieces s b)
    → block_piece (agent_word s j) (block_at b j) ≡ agent_with (agent_word s j) (block_at b j)
its_block s j b h =
    let there : j < b.count = in_block s j b h in
    let same : sum_by (room (agent_word s j)) (blocks_pieces s b)
    ≡ sum_by (room (agent_word s j)) (block_piece (agent_word s j) (block_at b j)) =
    blocks_room s b.arity 0 j j b.count (j * b.arity) b.words (sym (zero-add j)) refl there in
    block_in_use (agent_word s j) (block_at b j) (omega arith)

-- a block has as many words as the arity
pub block_length : (b : Blocks) (j : ℕ) → AreBlocks b → j < b.count → length (block_at b j) ≡ b.arity
block_length b j sound there =
    let fits : (j + 1) * b.arity ≤ b.count * b.arity = mul_le_left (j + 1) b.count b.arity (omega arith) in
    let one : (j + 1) * b.arity ≡ j * b.arity + b.arity = next j b.arity in
    let whole : length b.words ≡ b.count * b.arity = sound.whole in
    let len = length-drop (j * b.arity) b.words in
    length-take-le b.arity (drop (j * b.arity) b.words) (omega arith)
  where
    next : (j k : ℕ) → (j + 1) * k ≡ j * k + k
    next j k = omega arith

    mul_le_left : (a b k : ℕ) → a ≤ b → a * k ≤ b * k
    mul_le_left a zero k h = let z : a ≡ 0 = omega arith in rw (z, zero-mul k) (omega arith)
    mul_le_left zero (suc b) k h = rw (zero-mul k) (omega arith)
    mul_le_left (suc a) (suc b) k h =
        let l : suc a * k ≡ a * k + k = suc-mul a k in
        let r : suc b * k ≡ b * k + k = suc-mul b k in
        let ih : a * k ≤ b * k = mul_le_left a b k (omega arith) in
        omega arith

-- tables of other symbols give no room
pub tables_elsewhere : (v : Word) (s : ℕ) (hs : List Blocks)
    → ((i : ℕ) → s ≤ i → i < s + length hs → v.tag ≡ i + 1 → ⊥)
    → sum_by (room v) (heaps_pieces s hs) ≡ 0
tables_elsewhere v s [] h = refl
tables_elsewhere v s (b ∷ bs) h =
    let here : sum_by (room v) (blocks_pieces s b) ≡ 0 =
    blocks_elsewhere v s b.arity 0 b.count b.words
    (λ p le lt. other_tag v (agent_word s p) (λ e. h s (omega arith) (omega arith) e)) in
    let rest : sum_by (room v) (heaps_pieces (s + 1) bs) ≡ 0 =
    tables_elsewhere v (s + 1) bs (λ i le lt e. h i (omega arith) (omega arith) e) in
    sum_by-append (room v) (blocks_pieces s b) (heaps_pieces (s + 1) bs) ∙ omega arith

-- an agent has the room that its table gives
pub table_room : (v : Word) (hs : List Blocks) (base i s : ℕ) → s ≡ base + i → v.tag ≡ s + 1
    → sum_by (room v) (heaps_pieces base hs) ≡ sum_by (room v) (blocks_pieces s (table hs i))
table_room v [] base i s e t = refl
table_room v (b ∷ bs) base zero s e t =
    let same : s ≡ base = omega arith in
    let rest : sum_by (room v) (heaps_pieces (base + 1) bs) ≡ 0 =
    tables_elsewhere v (base + 1) bs (λ i le lt q. omega arith) in
    sum_by-append (room v) (blocks_pieces base b) (heaps_pieces (base + 1) bs)
    ∙ (rw (rest, same) (omega arith))
table_room v (b ∷ bs) base (suc i) s e t =
    let here : sum_by (room v) (blocks_pieces base b) ≡ 0 =
    blocks_elsewhere v base b.arity 0 b.count b.words
    (λ p le lt. other_tag v (agent_word base p) (λ q. omega arith)) in
    let ih : sum_by (room v) (heaps_pieces (base + 1) bs)
    ≡ sum_by (room v) (blocks_pieces s (table bs i)) = table_room v bs (base + 1) i s (omega arith) t in
    sum_by-append (room v) (blocks_pieces base b) (heaps_pieces (base + 1) bs) ∙ omega arith

-- what is replaced, with others before and after it
pub replaced_after : (f old new xs ys : List Piece) → Replaced old new xs ys
    → Replaced old new (f ++ xs) (f ++ ys)
replaced_after f old new xs ys r = record {
  front = f ++ r.front;
  back = r.back;
  before = ap (λ (l : List Piece). f ++ l) r.before ∙ sym (append_assoc f r.front (old ++ r.back));
  after = ap (λ (l : List Piece). f ++ l) r.after ∙ sym (append_assoc f r.front (new ++ r.back));
}

pub replaced_before : (b old new xs ys : List Piece) → Replaced old new xs ys
    → Replaced old new (xs ++ b) (ys ++ b)
replaced_before b old new xs ys r = record {
  front = r.front;
  back = r.back ++ b;
  before = ap (λ (l : List Piece). l ++ b) r.before
      ∙ (append_assoc r.front (old ++ r.back) b
      ∙ ap (λ (l : List Piece). r.front ++ l) (append_assoc old r.back b));
  after = ap (λ (l : List Piece). l ++ b) r.after
      ∙ (append_assoc r.front (new ++ r.back) b
      ∙ ap (λ (l : List Piece). r.front ++ l) (append_assoc new r.back b));
}

-- what changes in one table changes in all
pub table_replaced : (hs : List Blocks) (base i s : ℕ) (b : Blocks) (old new : List Piece) → s ≡ base + i
    → i < length hs → Replaced old new (blocks_pieces s (table hs i)) (blocks_pieces s b)
    → Replaced old new (heaps_pieces base hs) (heaps_pieces base (slice_set hs i b))
table_replaced [] base i s b old new e h r = absurd (omega arith)
table_replaced (c ∷ cs) base zero s b old new e h r =
    let same : s ≡ base = omega arith in
    replaced_before (heaps_pieces (base + 1) cs) old new (blocks_pieces base c) (blocks_pieces base b)
    (subst (λ (x : ℕ). Replaced old new (blocks_pieces x c) (blocks_pieces x b)) same r)
table_replaced (c ∷ cs) base (suc i) s b old new e h r =
    replaced_after (blocks_pieces base c) old new (heaps_pieces (base + 1) cs)
    (heaps_pieces (base + 1) (slice_set cs i b))
    (table_replaced cs (base + 1) i s b old new (omega arith) (omega arith) r)

-- what holds of each table, after one was changed
pub set_at : (P : ℕ → Blocks → Type 0) (hs : List Blocks) (i : ℕ) (b : Blocks)
    → ((s : ℕ) → P s (table hs s)) → P i b → (s : ℕ) → P s (table (slice_set hs i b) s)
set_at P [] i b all here s = all s
set_at P (h ∷ hs) zero b all here zero = here
set_at P (h ∷ hs) zero b all here (suc s) = all (suc s)
set_at P (h ∷ hs) (suc i) b all here zero = all zero
set_at P (h ∷ hs) (suc i) b all here (suc s) =
    set_at (λ k c. P (suc k) c) hs i b (λ k. all (suc k)) here s

pub table_set : (hs : List Blocks) (i : ℕ) (b : Blocks) → i < length hs → table (slice_set hs i b) i ≡ b
table_set [] i b h = absurd (omega arith)
table_set (c ∷ cs) zero b h = refl
table_set (c ∷ cs) (suc i) b h = table_set cs i b (omega arith)

pub arities_set : (hs : List Blocks) (i : ℕ) (b : Blocks) → b.arity ≡ (table hs i).arity
    → arities_of (slice_set hs i b) ≡ arities_of hs
arities_set [] i b e = refl
arities_set (c ∷ cs) zero b e = ap (λ (a : ℕ). a ∷ arities_of cs) e
arities_set (c ∷ cs) (suc i) b e = ap (λ (l : List ℕ). c.arity ∷ l) (arities_set cs i b e)

-- the arity of a known symbol is that of its table
pub arity_known : (hs : List Blocks) (s k : ℕ) → slice_get (arities_of hs) s ≡ Some k
    → (s < length hs) × ((table hs s).arity ≡ k)
arity_known [] s k e = absurd (none_some e)
  where
    none_some : ◌≡◌ {A = Option ℕ} None (Some k) → ⊥
    none_some e = cc
arity_known (b ∷ bs) zero k e = (omega arith, inside b.arity k e)
  where
    inside : (a k : ℕ) → ◌≡◌ {A = Option ℕ} (Some a) (Some k) → a ≡ k
    inside a k e = cc
arity_known (b ∷ bs) (suc s) k e =
    let ih : (s < length bs) × ((table bs s).arity ≡ k) = arity_known bs s k e in
    (let below : s < length bs = ih.0 in omega arith, ih.1)

pub arity_at : (hs : List Blocks) (s : ℕ) → s < length hs
    → slice_get (arities_of hs) s ≡ Some (table hs s).arity
arity_at [] s h = absurd (omega arith)
arity_at (b ∷ bs) zero h = refl
arity_at (b ∷ bs) (suc s) h = arity_at bs s (omega arith)

-- the same tables, where some have more memory
pub same_all : (hs : List Blocks) → AreSame hs hs
same_all [] = tt
same_all (b ∷ bs) = ((refl, refl, refl, omega arith), same_all bs)

pub same_set : (hs gs : List Blocks) (i : ℕ) (b : Blocks) → AreSame hs gs
    → b.arity ≡ (table gs i).arity → b.count ≡ (table gs i).count → b.words ≡ (table gs i).words
    → (table gs i).capacity ≤ b.capacity → AreSame hs (slice_set gs i b)
same_set [] [] i b h a c w m = tt
same_set [] (g ∷ gs) i b h a c w m = absurd h
same_set (x ∷ xs) [] i b h a c w m = absurd h
same_set (x ∷ xs) (g ∷ gs) zero b h a c w m =
    let grown : x.capacity ≤ g.capacity = h.0.3 in
    ((a ∙ h.0.0, c ∙ h.0.1, w ∙ h.0.2, omega arith), h.1)
same_set (x ∷ xs) (g ∷ gs) (suc i) b h a c w m = (h.0, same_set xs gs i b h.1 a c w m)

pub same_at : (hs gs : List Blocks) → AreSame hs gs → (s : ℕ)
    → ((table gs s).arity ≡ (table hs s).arity) × ((table gs s).count ≡ (table hs s).count)
    × ((table gs s).words ≡ (table hs s).words) × ((table hs s).capacity ≤ (table gs s).capacity)
same_at [] [] h s = (refl, refl, refl, omega arith)
same_at [] (g ∷ gs) h s = absurd h
same_at (x ∷ xs) [] h s = absurd h
same_at (x ∷ xs) (g ∷ gs) h zero = h.0
same_at (x ∷ xs) (g ∷ gs) h (suc s) = same_at xs gs h.1 s

pub same_pieces : (hs gs : List Blocks) (s : ℕ) → AreSame hs gs → heaps_pieces s gs ≡ heaps_pieces s hs
same_pieces [] [] s h = refl
same_pieces [] (g ∷ gs) s h = absurd h
same_pieces (x ∷ xs) [] s h = absurd h
same_pieces (x ∷ xs) (g ∷ gs) s h = rw (h.0.0, h.0.1, h.0.2, same_pieces xs gs (s + 1) h.1) refl

pub same_arities : (hs gs : List Blocks) → AreSame hs gs → arities_of gs ≡ arities_of hs
same_arities [] [] h = refl
same_arities [] (g ∷ gs) h = absurd h
same_arities (x ∷ xs) [] h = absurd h
same_arities (x ∷ xs) (g ∷ gs) h = rw (h.0.0, same_arities xs gs h.1) refl

pub same_length : (hs gs : List Blocks) → AreSame hs gs → length gs ≡ length hs
same_length [] [] h = refl
same_length [] (g ∷ gs) h = absurd h
same_length (x ∷ xs) [] h = absurd h
same_length (x ∷ xs) (g ∷ gs) h = ap suc (same_length xs gs h.1)

-- memory for so many agents, where a table got more
pub room_grown : (hs : List Blocks) (i n : ℕ) (b : Blocks) (m : Made) → b.arity ≡ (table hs i).arity
    → b.count ≡ (table hs i).count → b.words ≡ (table hs i).words
    → (table hs i).capacity ≤ b.capacity → HasRoom hs n m → HasRoom (slice_set hs i b) n m
room_grown hs i n b m a c w cap h =
    set_at (λ s t. HasRoom hs n (record m { symbol = s })
    → (length t.words + n * t.arity ≤ t.capacity) × (t.count + n < 2 ^ 32)) hs i b
    (λ s r. r)
    (λ r. let len : length b.words ≡ length (table hs i).words = ap length w in
    let big : n * b.arity ≡ n * (table hs i).arity = ap (λ (x : ℕ). n * x) a in
    let fits : length (table hs i).words + n * (table hs i).arity ≤ (table hs i).capacity = r.0 in
    let few : (table hs i).count + n < 2 ^ 32 = r.1 in
    (omega arith, omega arith))
    m.symbol h

-- memory for one agent less, where a table took one
pub room_taken : (hs : List Blocks) (i n : ℕ) (b : Blocks) (m : Made) → b.arity ≡ (table hs i).arity
    → b.count ≤ (table hs i).count + 1 → length b.words ≤ length (table hs i).words + (table hs i).arity
    → b.capacity ≡ (table hs i).capacity → HasRoom hs (suc n) m → HasRoom (slice_set hs i b) n m
room_taken hs i n b m a c w cap h =
    set_at (λ s t. HasRoom hs (suc n) (record m { symbol = s })
    → (length t.words + n * t.arity ≤ t.capacity) × (t.count + n < 2 ^ 32)) hs i b
    (λ s r. let more : suc n * (table hs s).arity ≡ n * (table hs s).arity + (table hs s).arity =
    suc-mul n (table hs s).arity in
    let fits : length (table hs s).words + suc n * (table hs s).arity ≤ (table hs s).capacity = r.0 in
    let few : (table hs s).count + suc n < 2 ^ 32 = r.1 in
    (omega arith, omega arith))
    (λ r. let more : suc n * (table hs i).arity ≡ n * (table hs i).arity + (table hs i).arity =
    suc-mul n (table hs i).arity in
    let big : n * b.arity ≡ n * (table hs i).arity = ap (λ (x : ℕ). n * x) a in
    let fits : length (table hs i).words + suc n * (table hs i).arity ≤ (table hs i).capacity = r.0 in
    let few : (table hs i).count + suc n < 2 ^ 32 = r.1 in
    (omega arith, omega arith))
    m.symbol h

-- memory for so many agents, in tables of the same sizes
pub room_same : (hs gs : List Blocks) (n : ℕ) (m : Made)
    → ((s : ℕ) → SameSize (table hs s) (table gs s)) → HasRoom hs n m → HasRoom gs n m
room_same hs gs n m same h =
    let z = same m.symbol in
    let big = ap (λ (x : ℕ). n * x) z.arity in
    let fits : length (table hs m.symbol).words + n * (table hs m.symbol).arity ≤ (table hs m.symbol).capacity = h.0 in
    let few : (table hs m.symbol).count + n < 2 ^ 32 = h.1 in
    let len : length (table gs m.symbol).words ≡ length (table hs m.symbol).words = z.len in
    let cap : (table gs m.symbol).capacity ≡ (table hs m.symbol).capacity = z.capacity in
    let count : (table gs m.symbol).count ≡ (table hs m.symbol).count = z.count in
    (omega arith, omega arith)

-- what is read at a known place doesn't depend on the default
pub table_read : (hs : List Blocks) (s : ℕ) (b : Blocks) → s < length hs → b ≡ slice_index_or hs s b
    → b ≡ table hs s
table_read hs s b h e =
    e ∙ by_default hs s b (record { arity = 0; count = 0; words = []; capacity = 0 }) h
  where
    by_default : (hs : List Blocks) (s : ℕ) (b d : Blocks) → s < length hs
        → slice_index_or hs s b ≡ slice_index_or hs s d
    by_default [] s b d h = absurd (omega arith)
    by_default (g ∷ gs) zero b d h = refl
    by_default (g ∷ gs) (suc s) b d h = by_default gs s b d (omega arith)

-- the table that is read by the tag of an agent
pub tag_read : (hs : List Blocks) (t : ℕ) (b : Blocks) → 1 ≤ t → t ≤ length hs → b ≡ slice_index_or hs (t - 1) b
    → (t ≡ (t - 1) + 1) × (t - 1 < length hs) × (b ≡ table hs (t - 1)) × (b.arity ≡ (table hs (t - 1)).arity)
tag_read hs t b some le is =
    let below : t - 1 < length hs = omega arith in
    let same : b ≡ table hs (t - 1) = table_read hs (t - 1) b below is in
    (omega arith, below, same, ap (λ (x : Blocks). x.arity) same)

-- an agent that has room is in the table of its symbol
pub agent_block : (hs : List Blocks) (w : Word) (s : ℕ) → w.tag ≡ s + 1
    → 1 ≤ sum_by (room w) (heaps_pieces 0 hs)
    → 1 ≤ sum_by (room (agent_word s w.index)) (blocks_pieces s (table hs s))
agent_block hs w s tag h =
    let same = table_room w hs 0 s s (sym (zero-add s)) tag in
    let here : 1 ≤ sum_by (room w) (blocks_pieces s (table hs s)) = omega arith in
    subst (λ (v : Word). 1 ≤ sum_by (room v) (blocks_pieces s (table hs s))) (as_agent w s tag) here

-- a block that has room isn't free
room_first : (a : Word) (k at : ℕ) (ws : List Word) (d : Word) → 1 ≤ sum_by (room a) (block_piece a (take k (drop at ws)))
    → ¬ ((slice_index_or ws at d).tag ≡ FREE)
room_first a zero at ws d h free = absurd (omega arith)
room_first a (suc k) zero [] d h free = absurd (omega arith)
room_first a (suc k) (suc at) [] d h free = absurd (omega arith)
room_first a (suc k) zero (w ∷ ws) d h free =
    let none : sum_by (room a) (block_piece a (w ∷ take k ws)) ≡ 0 = rw free refl in absurd (omega arith)
room_first a (suc k) (suc at) (w ∷ ws) d h free = room_first a (suc k) at ws d h free

pub not_free : (hs : List Blocks) (w : Word) (s : ℕ) → w.tag ≡ s + 1 → 1 ≤ sum_by (room w) (heaps_pieces 0 hs)
    → ¬ ((first_word (table hs s) w.index).tag ≡ FREE)
not_free hs w s tag h =
    let b : Blocks = table hs s in
    let there : 1 ≤ sum_by (room (agent_word s w.index)) (blocks_pieces s b) = agent_block hs w s tag h in
    let below : w.index < b.count = in_block s w.index b there in
    let same : sum_by (room (agent_word s w.index)) (blocks_pieces s b)
    ≡ sum_by (room (agent_word s w.index)) (block_piece (agent_word s w.index) (block_at b w.index)) =
    blocks_room s b.arity 0 w.index w.index b.count (w.index * b.arity) b.words (sym (zero-add w.index)) refl below in
    room_first (agent_word s w.index) b.arity (w.index * b.arity) b.words (name_word 0) (omega arith)

-- the arguments of an agent are taken out of its block
pub taken_args : (hs : List Blocks) (w : Word) (s : ℕ) (b b' : Blocks) (before after : List Word)
    → w.tag ≡ s + 1 → s < length hs → b ≡ table hs s → AreBlocks b
    → 1 ≤ sum_by (room w) (heaps_pieces 0 hs) → after ≡ before ++ block_at b w.index
    → ((k : ℕ) → Replaced (block_piece (agent_word k w.index) (block_at b w.index)) []
    (blocks_pieces k b) (blocks_pieces k b'))
    → Taken w (table hs s).arity (heaps_pieces 0 hs) (heaps_pieces 0 (slice_set hs s b')) before after
taken_args hs w s b b' before after tag lt same sound h pushed freed =
    let there = subst (λ (x : Blocks). 1 ≤ sum_by (room (agent_word s w.index)) (blocks_pieces s x)) (sym same)
    (agent_block hs w s tag h) in
    let below : w.index < b.count = in_block s w.index b there in
    let piece = its_block s w.index b there
    ∙ ap (λ (v : Word). agent_with v (block_at b w.index)) (sym (as_agent w s tag)) in
    let gone = subst (λ (l : List Piece). Replaced l [] (blocks_pieces s b) (blocks_pieces s b')) piece (freed s) in
    record {
      args = block_at b w.index;
      count = block_length b w.index sound below ∙ ap (λ (x : Blocks). x.arity) same;
      pushed = pushed;
      gone = table_replaced hs 0 s s b' (agent_with w (block_at b w.index)) [] (sym (zero-add s)) lt
          (subst (λ (x : Blocks). Replaced (agent_with w (block_at b w.index)) [] (blocks_pieces s x) (blocks_pieces s b'))
          same gone);
    }

-- the symbols of what is planned are known
pub made_known : (hs : List Blocks) (filled : ℕ) (ms : List Made) → AreMade (arities_of hs) filled ms
    → AllByRecursion (λ m. m.symbol < length hs) ms
made_known hs filled [] h = tt
made_known hs filled (m ∷ ms) h =
    ((arity_known hs m.symbol (length m.operands) h.0.0).0, made_known hs (filled + 1) ms h.1)

-- tables of the same sizes one after another
pub same_sizes_on : (hs gs fs : List Blocks) → ((s : ℕ) → SameSize (table hs s) (table gs s))
    → ((s : ℕ) → SameSize (table gs s) (table fs s)) → (s : ℕ) → SameSize (table hs s) (table fs s)
same_sizes_on hs gs fs f g s = record {
  arity = (g s).arity ∙ (f s).arity;
  count = (g s).count ∙ (f s).count;
  len = (g s).len ∙ (f s).len;
  capacity = (g s).capacity ∙ (f s).capacity;
}

-- as many tables as there are arities
pub as_many : (hs gs : List Blocks) → arities_of gs ≡ arities_of hs → length gs ≡ length hs
as_many hs gs same =
    sym (length-map gs (λ b. b.arity)) ∙ (ap length same ∙ length-map hs (λ b. b.arity))

-- an empty table says nothing
pub heaps_pushed : (s : ℕ) (hs : List Blocks) (b : Blocks) → b.count ≡ 0
    → heaps_pieces s (hs ++ b ∷ []) ≡ heaps_pieces s hs
heaps_pushed s [] b e = ap (λ (n : ℕ). blocks_from s b.arity 0 n b.words ++ []) e
heaps_pushed s (h ∷ hs) b e = ap (λ (l : List Piece). blocks_pieces s h ++ l) (heaps_pushed (s + 1) hs b e)
