-- What is taken out of places.
use Rattle.std.proofs.Common.{◌≡◌, ℕ, zero, suc, ◌+◌, ◌*◌, ◌<◌, ◌≤◌, ◌==◌, List, [], ◌∷◌, ◌++◌, Bool, true, false, cond, Contains, slice_index_or, length, map, take, drop, reverse, refl, ap, sym, subst, ◌∙◌, arith, sum_by, zero-add}
use Rattle.std.specs.List.{AllByRecursion}
use Rattle.std.specs.List.Sorted.{IsPermutation}
use Rattle.std.proofs.Math.Seq.{take-append_seam, drop-append_seam}
use Rattle.std.proofs.lemmas.Bool.{ne_eqb}
use Rattle.std.proofs.lemmas.List.{length-append}
use Rattle.std.proofs.lemmas.List.Sums.{sum_by-append, sum_by-cons}
use Rattle.ic_arena.specs.declared.word.Word.{Word}
use Rattle.ic_arena.specs.declared.word.TheConstants.{FREE, IDLE}
use Rattle.ic_arena.specs.Word.{name_word, agent_word, word_eq}
use Rattle.ic_arena.specs.Piece.{Piece, waits, agent_of, agent_with, room}
use Rattle.ic_arena.specs.Tables.{Blocks, Replaced, AreBlocks, block_at, block_piece, blocks_pieces, entry, entry_piece, names_pieces}
use Rattle.ic_arena.specs.lemmas.Rooms.{other_tag, names_elsewhere}
use Rattle.ic_machine.specs.Held.{IsHeld, ArgumentsTaken}
use Rattle.ic_machine.specs.inner.Firing.{arities_of, heaps_pieces, table, SameSize, Taken}
use Rattle.ic_machine.specs.lemmas.Orders.{replaced_sum}
use Rattle.ic_machine.proofs.Firings.{taken_first}
use Rattle.ic_machine.proofs.Heaps.{arity_known, as_agent, blocks_room, replaced_after, replaced_before, table_room, tables_elsewhere}
use Rattle.ic_machine.proofs.NameRooms.{entry_room, replaced_length, word_eq_refl}
use Rattle.ic_machine.proofs.Standing.{all_contained, sum_contained, tables_held}

-- what is taken out of the names
pub waiting_taken : (ws ws' : List Word) (hs : List Blocks) (x w : Word)
    → Replaced (waits x w ∷ []) [] (names_pieces 0 ws) (names_pieces 0 ws')
    → IsPermutation (names_pieces 0 ws ++ heaps_pieces 0 hs)
    (waits x w ∷ (names_pieces 0 ws' ++ heaps_pieces 0 hs))
waiting_taken ws ws' hs x w r =
    taken_first (waits x w ∷ []) (names_pieces 0 ws ++ heaps_pieces 0 hs) (names_pieces 0 ws' ++ heaps_pieces 0 hs)
    (replaced_before (heaps_pieces 0 hs) (waits x w ∷ []) [] (names_pieces 0 ws) (names_pieces 0 ws') r)

-- the name is free then
pub name_freed : (ws ws' : List Word) (hs : List Blocks) (i : ℕ) → (entry ws i).tag < IDLE
    → Replaced (waits (name_word i) (entry ws i) ∷ []) [] (names_pieces 0 ws) (names_pieces 0 ws')
    → sum_by (room (name_word i)) (names_pieces 0 ws' ++ heaps_pieces 0 hs) ≡ 0
name_freed ws ws' hs i word r =
    let x : Word = name_word i in
    let old : List Piece = waits x (entry ws i) ∷ [] in
    let not_free : ((entry ws i).tag == FREE) ≡ false = ne_eqb (entry ws i).tag FREE (λ e. omega arith) in
    let not_idle : ((entry ws i).tag == IDLE) ≡ false = ne_eqb (entry ws i).tag IDLE (λ e. omega arith) in
    let piece : entry_piece i (entry ws i) ≡ old = rw (not_free, not_idle) refl in
    let before = entry_room ws i ∙ ap (sum_by (room x)) piece in
    let sums = replaced_sum (room x) old [] (names_pieces 0 ws) (names_pieces 0 ws') r in
    let none : sum_by (room x) [] ≡ 0 = refl in
    let agents : sum_by (room x) (heaps_pieces 0 hs) ≡ 0 = tables_elsewhere x 0 hs (λ k le lt q. omega arith) in
    sum_by-append (room x) (names_pieces 0 ws') (heaps_pieces 0 hs) ∙ omega arith

-- an agent has the tag of a known symbol
pub agent_known : (ws : List Word) (hs : List Blocks) (a : Word) (vs : List Word) → AllByRecursion AreBlocks hs
    → Contains (names_pieces 0 ws ++ heaps_pieces 0 hs) (agent_of a vs)
    → (1 ≤ a.tag) × (a.tag ≤ length hs)
agent_known ws hs a vs sound there =
    let held = all_contained (IsHeld (arities_of hs)) (names_pieces 0 ws ++ heaps_pieces 0 hs) (agent_of a vs)
    (tables_held ws hs sound) there in
    let tag : a.tag ≡ held.symbol + 1 = held.is in
    let known = (arity_known hs held.symbol (length vs) held.known).0 in
    (omega arith, omega arith)

-- an agent has the room that is written in its block
pub agent_room : (ws : List Word) (hs : List Blocks) (w : Word) (s : ℕ) → w.tag ≡ s + 1
    → w.index < (table hs s).count
    → sum_by (room w) (names_pieces 0 ws ++ heaps_pieces 0 hs)
    ≡ sum_by (room w) (block_piece w (block_at (table hs s) w.index))
agent_room ws hs w s tag lt =
    let b : Blocks = table hs s in
    let a : Word = agent_word s w.index in
    let none : sum_by (room w) (names_pieces 0 ws) ≡ 0 =
    names_elsewhere w 0 ws (λ i le. other_tag w (name_word i) (λ q. omega arith)) in
    let table_is = table_room w hs 0 s s (sym (zero-add s)) tag in
    let block : sum_by (room a) (blocks_pieces s b) ≡ sum_by (room a) (block_piece a (block_at b w.index)) =
    blocks_room s b.arity 0 w.index w.index b.count (w.index * b.arity) b.words (sym (zero-add w.index)) refl lt in
    let its = subst (λ (v : Word). sum_by (room v) (blocks_pieces s b) ≡ sum_by (room v) (block_piece v (block_at b w.index)))
    (sym (as_agent w s tag)) block in
    sum_by-append (room w) (names_pieces 0 ws) (heaps_pieces 0 hs) ∙ omega arith

-- a block whose first word is no mark gives its agent room
pub block_used : (a : Word) (vs : List Word) (d : Word) → 0 < length vs
    → ((slice_index_or vs 0 d).tag == FREE) ≡ false → 1 ≤ sum_by (room a) (block_piece a vs)
block_used a [] d some h = absurd (omega arith)
block_used a (v ∷ vs) d some h =
    let own : ◌≡◌ {A = ℕ} (cond (word_eq a a) 1 0) 1 = ap (λ (b : Bool). cond b 1 0) (word_eq_refl a) in
    rw h (omega arith)

-- and a free block gives none
pub block_unused : (a : Word) (vs : List Word) (d : Word) → 0 < length vs
    → ((slice_index_or vs 0 d).tag == FREE) ≡ true → sum_by (room a) (block_piece a vs) ≡ 0
block_unused a [] d some h = absurd (omega arith)
block_unused a (v ∷ vs) d some h = rw h refl

-- an agent that stands among the pieces has room
pub agent_roomy : (ps : List Piece) (a : Word) (vs : List Word) → Contains ps (agent_of a vs) → 1 ≤ sum_by (room a) ps
agent_roomy ps a vs there =
    let own : ◌≡◌ {A = ℕ} (cond (word_eq a a) 1 0) 1 = ap (λ (b : Bool). cond b 1 0) (word_eq_refl a) in
    let few : cond (word_eq a a) 1 0 ≤ sum_by (room a) ps = sum_contained (room a) ps (agent_of a vs) there in
    omega arith

-- a block that is there has words
pub block_some : (b : Blocks) → AreBlocks b → 1 ≤ b.count → 1 ≤ b.arity
block_some b sound there = by_arity b.arity sound.some
  where
    by_arity : (k : ℕ) → (k ≡ 0 → b.count ≡ 0) → 1 ≤ k
    by_arity zero f = let none : b.count ≡ 0 = f refl in absurd (omega arith)
    by_arity (suc k) f = omega arith

-- tables of the same sizes are whole blocks
pub blocks_kept : (hs gs : List Blocks) → length gs ≡ length hs
    → ((s : ℕ) → SameSize (table hs s) (table gs s)) → AllByRecursion AreBlocks hs → AllByRecursion AreBlocks gs
blocks_kept [] [] e same sound = tt
blocks_kept [] (g ∷ gs) e same sound = absurd (omega arith)
blocks_kept (h ∷ hs) [] e same sound = absurd (omega arith)
blocks_kept (h ∷ hs) (g ∷ gs) e same sound =
    let first = same 0 in
    let arity : g.arity ≡ h.arity = first.arity in
    let count : g.count ≡ h.count = first.count in
    let len : length g.words ≡ length h.words = first.len in (
      record {
        some = λ none. count ∙ sound.0.some (sym arity ∙ none);
        whole = len ∙ (sound.0.whole ∙ (ap (λ (n : ℕ). n * h.arity) (sym count) ∙ ap (λ (k : ℕ). g.count * k) (sym arity)));
      },
      blocks_kept hs gs (omega arith) (λ s. same (suc s)) sound.1,
    )

-- tables of the same sizes have as many places
pub counts_kept : (hs gs : List Blocks) → length gs ≡ length hs
    → ((s : ℕ) → SameSize (table hs s) (table gs s)) → map {B = ℕ} (λ b. b.count) gs ≡ map (λ b. b.count) hs
counts_kept [] [] e same = refl
counts_kept [] (g ∷ gs) e same = absurd (omega arith)
counts_kept (h ∷ hs) [] e same = absurd (omega arith)
counts_kept (h ∷ hs) (g ∷ gs) e same =
    let first : g.count ≡ h.count = (same 0).count in
    let later = counts_kept hs gs (omega arith) (λ s. same (suc s)) in
    (λ i. first i ∷ later i)

pub sums_kept : (hs gs : List Blocks) → length gs ≡ length hs
    → ((s : ℕ) → SameSize (table hs s) (table gs s)) → sum_by (λ b. b.count) gs ≡ sum_by (λ b. b.count) hs
sums_kept [] [] e same = refl
sums_kept [] (g ∷ gs) e same = absurd (omega arith)
sums_kept (h ∷ hs) [] e same = absurd (omega arith)
sums_kept (h ∷ hs) (g ∷ gs) e same =
    let first : g.count ≡ h.count = (same 0).count in
    let later = sums_kept hs gs (omega arith) (λ s. same (suc s)) in
    let a = sum_by-cons (λ (b : Blocks). b.count) g gs in
    let b = sum_by-cons (λ (b : Blocks). b.count) h hs in
    omega arith

-- the arguments of an agent, taken out and turned round
pub arguments_taken : (ws : List Word) (hs gs : List Blocks) (w : Word) (k : ℕ) (before mid after : List Word)
    → Taken w k (heaps_pieces 0 hs) (heaps_pieces 0 gs) before mid → 1 ≤ k
    → after ≡ take (length before) mid ++ reverse (drop (length before) mid)
    → ArgumentsTaken w
    (record { arities = arities_of hs; pieces = names_pieces 0 ws ++ heaps_pieces 0 hs; names = length ws; agents = map (λ b. b.count) hs })
    (record { arities = arities_of gs; pieces = names_pieces 0 ws ++ heaps_pieces 0 gs; names = length ws; agents = map (λ b. b.count) gs }) before after
arguments_taken ws hs gs w k before mid after t some turned =
    let count : length t.args ≡ k = t.count in
    let one : agent_with w t.args ≡ agent_of w t.args ∷ [] = with_some t.args (omega arith) in
    let gone = subst (λ (l : List Piece). Replaced l [] (heaps_pieces 0 hs) (heaps_pieces 0 gs)) one t.gone in
    record {
      arguments = t.args;
      taken = taken_first (agent_of w t.args ∷ []) (names_pieces 0 ws ++ heaps_pieces 0 hs)
          (names_pieces 0 ws ++ heaps_pieces 0 gs)
          (replaced_after (names_pieces 0 ws) (agent_of w t.args ∷ []) [] (heaps_pieces 0 hs) (heaps_pieces 0 gs) gone);
      pushed = turned ∙ (ap (λ (l : List Word). take (length before) l ++ reverse (drop (length before) l)) t.pushed
          ∙ (rw (take-append_seam before t.args, drop-append_seam before t.args) refl));
    }
  where
    with_some : (vs : List Word) → 1 ≤ length vs → agent_with w vs ≡ agent_of w vs ∷ []
    with_some [] h = absurd (omega arith)
    with_some (v ∷ vs) h = refl

-- no more pieces than before
pub taken_fewer : (ns : List Piece) (hs gs : List Blocks) (w : Word) (k n : ℕ) (before mid : List Word)
    → Taken w k (heaps_pieces 0 hs) (heaps_pieces 0 gs) before mid
    → length (ns ++ heaps_pieces 0 hs) ≤ n → length (ns ++ heaps_pieces 0 gs) ≤ n
taken_fewer ns hs gs w k n before mid t h =
    let lens = replaced_length (agent_with w t.args) [] (heaps_pieces 0 hs) (heaps_pieces 0 gs) t.gone in
    let a = length-append ns (heaps_pieces 0 hs) in
    let b = length-append ns (heaps_pieces 0 gs) in
    omega arith
