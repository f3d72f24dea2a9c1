-- Where a piece stands among those of the tables.
use Rattle.std.proofs.Common.{◌≡◌, ℕ, zero, suc, ◌+◌, ◌*◌, ◌<◌, ◌≤◌, ◌==◌, inl, inr, List, [], ◌∷◌, ◌++◌, Bool, false, cond, if◌then◌else◌, Contains, slice_index_or, length, take, drop, refl, ap, sym, subst, ◌∙◌, append_assoc, arith, sum_by, zero-add}
use Rattle.std.proofs.Math.Nat.{suc-mul, zero-mul}
use Rattle.std.proofs.Math.Seq.{get_or-append_seam}
use Rattle.std.proofs.lemmas.Bool.{ne_eqb}
use Rattle.std.proofs.lemmas.Bool.Decides.{leb_tells}
use Rattle.std.proofs.lemmas.List.{drop-drop, length-append}
use Rattle.std.proofs.lemmas.List.Sums.{sum_by-cons, sum_by-append}
use Rattle.ic_arena.specs.declared.word.Word.{Word}
use Rattle.ic_arena.specs.declared.word.TheConstants.{FREE, IDLE}
use Rattle.ic_arena.specs.Word.{name_word, agent_word, word_eq}
use Rattle.ic_arena.specs.Piece.{Piece, equated, idle, waits, agent_of, agent_with, room}
use Rattle.ic_arena.specs.Tables.{Blocks, block_at, block_piece, blocks_from, blocks_pieces, entry, entry_piece, names_pieces}
use Rattle.ic_arena.specs.lemmas.Rooms.{other_tag, other_index, entry_elsewhere, names_elsewhere}
use Rattle.ic_machine.specs.inner.Firing.{heaps_pieces, table}
use Rattle.ic_machine.proofs.Heaps.{agent_block, as_agent, blocks_room, in_block, its_block, tables_elsewhere}
use Rattle.ic_machine.proofs.NameRooms.{word_eq_refl}

-- Some pieces are part of others.
pub record IsPart (part xs : List Piece) : Type 0 where
  pub front : List Piece
  pub back : List Piece
  pub is : xs ≡ front ++ (part ++ back)

pub part_after : (f part xs : List Piece) → IsPart part xs → IsPart part (f ++ xs)
part_after f part xs p = record {
  front = f ++ p.front;
  back = p.back;
  is = ap (λ (l : List Piece). f ++ l) p.is ∙ sym (append_assoc f p.front (part ++ p.back));
}

pub part_before : (b part xs : List Piece) → IsPart part xs → IsPart part (xs ++ b)
part_before b part xs p = record {
  front = p.front;
  back = p.back ++ b;
  is = ap (λ (l : List Piece). l ++ b) p.is
      ∙ (append_assoc p.front (part ++ p.back) b
      ∙ ap (λ (l : List Piece). p.front ++ l) (append_assoc part p.back b));
}

-- a piece that is part of others stands among them
pub part_contained : (p : Piece) (xs : List Piece) → IsPart (p ∷ []) xs → Contains xs p
part_contained p xs part =
    let long : length xs ≡ length part.front + length (p ∷ part.back) =
    ap length part.is ∙ length-append part.front (p ∷ part.back) in (
      length part.front,
      omega arith,
      ap (λ (l : List Piece). slice_index_or l (length part.front) p) part.is ∙ get_or-append_seam part.front p part.back p,
    )

-- what an entry says is part of what all say
pub entry_part : (ws : List Word) (b i j : ℕ) → j ≡ b + i → i < length ws
    → IsPart (entry_piece j (entry ws i)) (names_pieces b ws)
entry_part [] b i j e h = absurd (omega arith)
entry_part (w ∷ ws) b zero j e h = let same : j ≡ b = omega arith in rw same (record {
  front = [];
  back = names_pieces (b + 1) ws;
  is = refl;
})
entry_part (w ∷ ws) b (suc i) j e h =
    part_after (entry_piece b w) (entry_piece j (entry ws i)) (names_pieces (b + 1) ws)
    (entry_part ws (b + 1) i j (omega arith) (omega arith))

-- what a block says is part of what its table says
pub block_part : (s k i j m n o : ℕ) (ws : List Word) → j ≡ i + m → o ≡ m * k → m < n
    → IsPart (block_piece (agent_word s j) (take k (drop o ws))) (blocks_from s k i n ws)
block_part s k i j m zero o ws e f h = absurd (omega arith)
block_part s k i j zero (suc n) o ws e f h =
    let same : j ≡ i = omega arith in
    let none : 0 * k ≡ 0 = zero-mul k in
    let first : o ≡ 0 = omega arith in
    rw (first, same) (record {
      front = [];
      back = blocks_from s k (i + 1) n (drop k ws);
      is = refl;
    })
block_part s k i j (suc m) (suc n) o ws e f h =
    let more : suc m * k ≡ m * k + k = suc-mul m k in
    let far : k + m * k ≡ o = omega arith in
    let at = drop-drop (m * k) k ws ∙ ap (λ (x : ℕ). drop x ws) far in
    part_after (block_piece (agent_word s i) (take k ws)) (block_piece (agent_word s j) (take k (drop o ws)))
    (blocks_from s k (i + 1) n (drop k ws))
    (subst (λ (l : List Word). IsPart (block_piece (agent_word s j) (take k l)) (blocks_from s k (i + 1) n (drop k ws))) at
    (block_part s k (i + 1) j m n (m * k) (drop k ws) (omega arith) refl (omega arith)))

-- what a table says is part of what all say
pub table_part : (hs : List Blocks) (base i s : ℕ) → s ≡ base + i → i < length hs
    → IsPart (blocks_pieces s (table hs i)) (heaps_pieces base hs)
table_part [] base i s e h = absurd (omega arith)
table_part (b ∷ bs) base zero s e h = let same : s ≡ base = omega arith in rw same (record {
  front = [];
  back = heaps_pieces (base + 1) bs;
  is = refl;
})
table_part (b ∷ bs) base (suc i) s e h =
    part_after (blocks_pieces base b) (blocks_pieces s (table bs i)) (heaps_pieces (base + 1) bs)
    (table_part bs (base + 1) i s (omega arith) (omega arith))

-- a part of a part
pub part_of_part : (a b c : List Piece) → IsPart a b → IsPart b c → IsPart a c
part_of_part a b c p q =
    subst (λ (l : List Piece). IsPart a l) (sym q.is)
    (part_after q.front a (b ++ q.back) (part_before q.back a b p))

-- an agent that has room stands among the pieces, with the words of its block
pub agent_contained : (ns : List Piece) (hs : List Blocks) (w : Word) (s : ℕ) → w.tag ≡ s + 1 → s < length hs
    → 1 ≤ sum_by (room w) (heaps_pieces 0 hs)
    → Contains (ns ++ heaps_pieces 0 hs) (agent_of w (block_at (table hs s) w.index))
agent_contained ns hs w s tag lt h =
    let b : Blocks = table hs s in
    let there = agent_block hs w s tag h in
    let below : w.index < b.count = in_block s w.index b there in
    let piece = its_block s w.index b there in
    let part : IsPart (block_piece (agent_word s w.index) (block_at b w.index)) (blocks_pieces s b) =
    block_part s b.arity 0 w.index w.index b.count (w.index * b.arity) b.words (sym (zero-add w.index)) refl below in
    let all = part_after ns (block_piece (agent_word s w.index) (block_at b w.index)) (heaps_pieces 0 hs)
    (part_of_part (block_piece (agent_word s w.index) (block_at b w.index)) (blocks_pieces s b) (heaps_pieces 0 hs) part
    (table_part hs 0 s s (sym (zero-add s)) lt)) in
    let same = blocks_room s b.arity 0 w.index w.index b.count (w.index * b.arity) b.words (sym (zero-add w.index)) refl below in
    let some : 1 ≤ sum_by (room (agent_word s w.index)) (agent_with (agent_word s w.index) (block_at b w.index)) =
    subst (λ (l : List Piece). 1 ≤ sum_by (room (agent_word s w.index)) l) piece (omega arith) in
    let one = with_some (agent_word s w.index) (block_at b w.index) some in
    part_contained (agent_of w (block_at b w.index)) (ns ++ heaps_pieces 0 hs)
    (subst (λ (v : Word). IsPart (agent_of v (block_at b w.index) ∷ []) (ns ++ heaps_pieces 0 hs))
    (sym (as_agent w s tag))
    (subst (λ (l : List Piece). IsPart l (ns ++ heaps_pieces 0 hs)) (piece ∙ one) all))
  where
    with_some : (a : Word) (ws : List Word) → 1 ≤ sum_by (room a) (agent_with a ws)
        → agent_with a ws ≡ agent_of a ws ∷ []
    with_some a [] h = absurd (omega arith)
    with_some a (v ∷ vs) h = refl

-- how often a piece says that a word waits for this name
abbrev pub waiting_at : Word → Piece → ℕ
waiting_at x (equated l r) = 0
waiting_at x (idle y) = 0
waiting_at x (waits y u) = if word_eq x y then 1 else 0
waiting_at x (agent_of a ws) = 0

-- no more often than there is room for it
waiting_few : (x : Word) (ps : List Piece) → sum_by (waiting_at x) ps ≤ sum_by (room x) ps
waiting_few x [] = omega arith
waiting_few x (p ∷ ps) =
    let a = sum_by-cons (waiting_at x) p ps in
    let b = sum_by-cons (room x) p ps in
    let first : waiting_at x p ≤ room x p = one x p in
    let rest = waiting_few x ps in
    omega arith
  where
    one : (x : Word) (p : Piece) → waiting_at x p ≤ room x p
    one x (equated l r) = omega arith
    one x (idle y) = omega arith
    one x (waits y u) = omega arith
    one x (agent_of a ws) = omega arith

-- a piece that stands among others is counted
contained_few : (x : Word) (ps : List Piece) (k : ℕ) (p : Piece) → k < length ps → slice_index_or ps k p ≡ p
    → waiting_at x p ≤ sum_by (waiting_at x) ps
contained_few x [] k p h e = absurd (omega arith)
contained_few x (q ∷ ps) zero p h e =
    let a = sum_by-cons (waiting_at x) q ps in
    let same : waiting_at x q ≡ waiting_at x p = ap (waiting_at x) e in
    omega arith
contained_few x (q ∷ ps) (suc k) p h e =
    let a = sum_by-cons (waiting_at x) q ps in
    let ih = contained_few x ps k p (omega arith) e in
    omega arith

-- what waits for a name is what its entry says
waiting_entry : (ws : List Word) (b i j : ℕ) → j ≡ b + i
    → sum_by (waiting_at (name_word j)) (names_pieces b ws)
    ≤ sum_by (waiting_at (name_word j)) (entry_piece j (entry ws i))
waiting_entry [] b i j e = omega arith
waiting_entry (w ∷ ws) b zero j e =
    let same : j ≡ b = omega arith in
    let none : sum_by (room (name_word j)) (names_pieces (b + 1) ws) ≡ 0 =
    names_elsewhere (name_word j) (b + 1) ws
    (λ k le. other_index (name_word j) (name_word k) (λ q. omega arith)) in
    let rest = waiting_few (name_word j) (names_pieces (b + 1) ws) in
    let here = ap (λ (k : ℕ). sum_by (waiting_at (name_word j)) (entry_piece k w)) (sym same) in
    omega (arith, sum_by-append {X = Piece})
waiting_entry (w ∷ ws) b (suc i) j e =
    let none : sum_by (room (name_word j)) (entry_piece b w) ≡ 0 =
    entry_elsewhere (name_word j) b w (other_index (name_word j) (name_word b) (λ q. omega arith)) in
    let first = waiting_few (name_word j) (entry_piece b w) in
    let ih = waiting_entry ws (b + 1) i j (omega arith) in
    omega (arith, sum_by-append {X = Piece})

-- an entry that is a mark says of nothing that it waits
marked_entry : (i : ℕ) (w : Word) → IDLE ≤ w.tag → w.tag ≤ FREE
    → sum_by (waiting_at (name_word i)) (entry_piece i w) ≡ 0
marked_entry i w h most = elim (leb_tells FREE w.tag) [
  | inl t ↦ (let free : w.tag ≡ FREE = omega arith in rw free refl)
  | inr t ↦ (let mark : w.tag ≡ IDLE = omega arith in rw mark refl)
]

-- where the entry of a name is a mark, or there is none, nothing waits for it
pub nothing_waits : (ws : List Word) (hs : List Blocks) (i : ℕ) (w : Word) → IDLE ≤ (entry ws i).tag
    → (entry ws i).tag ≤ FREE → ¬ Contains (names_pieces 0 ws ++ heaps_pieces 0 hs) (waits (name_word i) w)
nothing_waits ws hs i w h most there =
    let x : Word = name_word i in
    let own : ◌≡◌ {A = ℕ} (cond (word_eq x x) 1 0) 1 = ap (λ (b : Bool). cond b 1 0) (word_eq_refl x) in
    let counted = contained_few x (names_pieces 0 ws ++ heaps_pieces 0 hs) there.0 (waits x w) there.1 there.2 in
    let agents : sum_by (room x) (heaps_pieces 0 hs) ≡ 0 =
    tables_elsewhere x 0 hs (λ k le lt q. omega arith) in
    let few = waiting_few x (heaps_pieces 0 hs) in
    let names = waiting_entry ws 0 i i (sym (zero-add i)) in
    let none = marked_entry i (entry ws i) h most in
    absurd (omega (arith, sum_by-append {X = Piece}))

-- a word that waits stands among the pieces
pub waiting_contained : (ws : List Word) (hs : List Blocks) (i : ℕ) → i < length ws → (entry ws i).tag < IDLE
    → Contains (names_pieces 0 ws ++ heaps_pieces 0 hs) (waits (name_word i) (entry ws i))
waiting_contained ws hs i lt h =
    let not_free : ((entry ws i).tag == FREE) ≡ false = ne_eqb (entry ws i).tag FREE (λ e. omega arith) in
    let not_idle : ((entry ws i).tag == IDLE) ≡ false = ne_eqb (entry ws i).tag IDLE (λ e. omega arith) in
    let piece : entry_piece i (entry ws i) ≡ waits (name_word i) (entry ws i) ∷ [] = rw (not_free, not_idle) refl in
    part_contained (waits (name_word i) (entry ws i)) (names_pieces 0 ws ++ heaps_pieces 0 hs)
    (part_before (heaps_pieces 0 hs) (waits (name_word i) (entry ws i) ∷ []) (names_pieces 0 ws)
    (subst (λ (l : List Piece). IsPart l (names_pieces 0 ws)) piece (entry_part ws 0 i i (sym (zero-add i)) lt)))

-- an agent has room in the tables of agents alone
pub agent_places : (ns : List Word) (hs : List Blocks) (w : Word) → 1 ≤ w.tag
    → 1 ≤ sum_by (room w) (names_pieces 0 ns ++ heaps_pieces 0 hs)
    → 1 ≤ sum_by (room w) (heaps_pieces 0 hs)
agent_places ns hs w h there =
    let none : sum_by (room w) (names_pieces 0 ns) ≡ 0 =
    names_elsewhere w 0 ns (λ i le. other_tag w (name_word i) (λ q. omega arith)) in
    omega (arith, sum_by-append {X = Piece})
