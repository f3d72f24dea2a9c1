-- Lemmas: what it does to put an agent into a block.
use Rattle.std.proofs.Common.{◌≡◌, ℕ, suc, ◌+◌, ◌-◌, ◌*◌, ◌<◌, ◌≤◌, List, [], ◌∷◌, ◌++◌, length, take, drop, sum_by, refl, ap, sym, ◌∙◌, subst, arith, max, slice_set, slice_index_or}
use Rattle.std.specs.List.{AllByRecursion}
use Rattle.std.proofs.lemmas.List.{length-append}
use Rattle.ic_arena.specs.declared.word.Word.{Word}
use Rattle.ic_arena.specs.declared.word.TheConstants.{FREE, IDLE, NONE}
use Rattle.ic_arena.specs.Word.{agent_word, name_word}
use Rattle.ic_arena.specs.Piece.{Piece, agent_of, room}
use Rattle.ic_arena.specs.Tables.{Replaced, Blocks, blocks_from, blocks_pieces, entry, first_word}
use Rattle.ic_arena.specs.inner.Free.{AreFound, AreKept, AreUsed, firsts}
use Rattle.ic_arena.proofs.Found.{firsts_at, firsts_end, firsts_length, firsts_put, found_none, found_some, found_used, used_end}
use Rattle.ic_arena.proofs.Front.{front_all, front_read, front_written, written_length}
use Rattle.ic_arena.proofs.Full.{as_before, as_used, blocks_few, blocks_full}
use Rattle.ic_arena.proofs.HeapPieces.{block_within, copied_front, put_again, put_after, free_room, room_after}

-- an agent of these words is put into a block, and the next free one is at this place then
pub record IsPut (old : Blocks) (vs : List Word) (block next : ℕ) (new : Blocks) : Type 0 where
  pub kept : AreKept new next
  pub made : (s : ℕ) → Replaced [] (agent_of (agent_word s block) vs ∷ []) (blocks_pieces s old) (blocks_pieces s new)
  pub fresh : (s : ℕ) → sum_by (room (agent_word s block)) (blocks_pieces s old) ≡ 0
  pub count : (s : ℕ) → new.count ≡ max old.count (length (blocks_pieces s new))
  pub capacity : new.capacity ≡ old.capacity

-- the block that is found is there
pub found_there : (b : Blocks) (at : ℕ) → AreKept b at → ¬ (at ≡ NONE) → at < b.count
found_there b at kept some =
    let found : (n : ℕ) × AreFound (suc n) (firsts b.arity b.count b.words) at =
    found_some kept.free (firsts b.arity b.count b.words) at some kept.found in
    let long = firsts_length b.arity b.count b.words in
    let there : at < length (firsts b.arity b.count b.words) = found.1.0 in
    omega arith

-- into the block that is found
pub put_found : (b : Blocks) (at : ℕ) (vs : List Word) → AreKept b at → ¬ (at ≡ NONE) → 1 ≤ b.arity
    → length vs ≡ b.arity → AllByRecursion (λ w. w.tag < IDLE) vs
    → IsPut b vs at (first_word b at).index (record {
      arity = b.arity;
      count = b.count;
      words = take (at * b.arity) b.words ++ (vs ++ drop (at * b.arity + b.arity) b.words);
      capacity = b.capacity;
    })
put_found b at [] kept found some long words = absurd (omega arith)
put_found b at (v ∷ vs) kept is some long words =
    let k : ℕ = b.arity in
    let n : ℕ = b.count in
    let ws : List Word = b.words in
    let d : Word = name_word 0 in
    let below : at < n = found_there b at kept is in
    let e : n ≡ at + suc (n - suc at) = omega arith in
    let whole : length ws ≡ n * k = kept.blocks.whole in
    let within : at * k + k ≤ n * k = block_within k at (n - suc at) n e in
    let found : (m : ℕ) × AreFound (suc m) (firsts k n ws) at = found_some kept.free (firsts k n ws) at is kept.found in
    let first : entry (firsts k n ws) at ≡ slice_index_or ws (at * k) d = firsts_at k at (n - suc at) n ws d e whole some in
    let free : (slice_index_or ws (at * k) d).tag ≡ FREE = ap (λ (w : Word). w.tag) (sym first) ∙ found.1.1 in
    let new : List Word = take (at * k) ws ++ ((v ∷ vs) ++ drop (at * k + k) ws) in
    let size : length new ≡ n * k =
    subst (λ (l : ℕ). length (take (at * k) ws ++ ((v ∷ vs) ++ drop (at * k + l) ws)) ≡ n * k) long
    (written_length (at * k) ws (v ∷ vs) (omega arith) ∙ whole) in
    let word : v.tag < IDLE = words.0 in
    record {
      kept = record {
        blocks = record { some = kept.blocks.some; whole = size };
        free = found.0;
        found = subst (λ (l : List Word). AreFound found.0 l (slice_index_or ws (at * k) d).index)
            (sym (firsts_put k at (n - suc at) n ws vs v d e whole some long))
            (subst (λ (w : Word). AreFound found.0 (slice_set (firsts k n ws) at v) w.index) first
            (found_used found.0 (firsts k n ws) at v (λ q. omega arith) found.1));
      };
      made = λ s. put_again s k at (n - suc at) n ws (v ∷ vs) d e whole some long words free;
      fresh = λ s. free_room s k at (n - suc at) n ws d e whole some free;
      count = λ s. as_before n n (length (blocks_from s k 0 n new)) refl (blocks_few s k 0 n new);
      capacity = refl;
    }

-- after the last
pub put_last : (b : Blocks) (at : ℕ) (vs : List Word) → AreKept b at → at ≡ NONE → b.count ≤ NONE → 1 ≤ b.arity
    → length vs ≡ b.arity → AllByRecursion (λ w. w.tag < IDLE) vs
    → IsPut b vs b.count at (record {
      arity = b.arity;
      count = b.count + 1;
      words = b.words ++ vs;
      capacity = b.capacity;
    })
put_last b at [] kept none few some long words = absurd (omega arith)
put_last b at (v ∷ vs) kept none few some long words =
    let k : ℕ = b.arity in
    let n : ℕ = b.count in
    let ws : List Word = b.words in
    let whole : length ws ≡ n * k = kept.blocks.whole in
    let many : length (firsts k n ws) ≡ n = firsts_length k n ws in
    let used : AreUsed (firsts k n ws) = found_none kept.free (firsts k n ws) at none (omega arith) kept.found in
    let word : v.tag < IDLE = words.0 in
    let after : firsts k (n + 1) (ws ++ (v ∷ vs)) ≡ firsts k n ws ++ v ∷ [] = firsts_end k n ws vs v whole some long in
    let all : AreUsed (firsts k (n + 1) (ws ++ (v ∷ vs))) =
    subst AreUsed (sym after) (used_end (firsts k n ws) v (λ q. omega arith) used) in
    let one : (n + 1) * k ≡ n * k + k = omega arith in
    let size : length (ws ++ (v ∷ vs)) ≡ (n + 1) * k = length-append ws (v ∷ vs) ∙ omega arith in
    let pieces : ℕ → List Piece = λ s. blocks_from s k 0 (n + 1) (ws ++ (v ∷ vs)) in
    record {
      kept = record {
        blocks = record { some = λ q. absurd (omega arith); whole = size };
        free = 0;
        found = (none, all);
      };
      made = λ s. put_after s k n ws (v ∷ vs) whole some long words;
      fresh = λ s. room_after s k n ws;
      count = λ s. (let full : length (pieces s) ≡ n + 1 = blocks_full s k 0 (n + 1) (ws ++ (v ∷ vs)) some size all in
          as_used n (n + 1) (length (pieces s)) (sym full) (omega arith));
      capacity = refl;
    }

-- ---- in the list, which has as many words as there is memory for

-- blocks of k words, and the list in which they are held
abbrev pub held : (k n : ℕ) → List Word → Blocks
held k n ws = record { arity = k; count = n; words = take (n * k) ws; capacity = length ws }

-- these words are written from a place on
abbrev pub Written : (new vs : List Word) (at n : ℕ) (ws : List Word) → Type 0
Written new vs at n ws = new ≡ take at ws ++ (vs ++ drop (at + n) ws)

put_as : (old : Blocks) (vs xs ys : List Word) (block next k n room size : ℕ) → xs ≡ ys → room ≡ size
    → IsPut old vs block next (record { arity = k; count = n; words = xs; capacity = room })
    → IsPut old vs block next (record { arity = k; count = n; words = ys; capacity = size })
put_as old vs xs ys block next k n room size e f put =
    subst (λ (m : ℕ). IsPut old vs block next (record { arity = k; count = n; words = ys; capacity = m })) f
    (subst (λ (l : List Word). IsPut old vs block next (record { arity = k; count = n; words = l; capacity = room })) e put)

-- the block that is found lies within the list
pub found_within : (k n at : ℕ) (ws : List Word) → AreKept (held k n ws) at → ¬ (at ≡ NONE) → at * k + k ≤ n * k
found_within k n at ws kept is =
    let below : at < n = found_there (held k n ws) at kept is in
    let e : n ≡ at + suc (n - suc at) = omega arith in
    block_within k at (n - suc at) n e

-- the words are written into the block that is found
pub write_found : (k n at : ℕ) (ws vs new : List Word) (d : Word) → AreKept (held k n ws) at → ¬ (at ≡ NONE) → 1 ≤ k
    → length vs ≡ k → AllByRecursion (λ w. w.tag < IDLE) vs → Written new vs (at * k) (length vs) ws
    → IsPut (held k n ws) vs at (slice_index_or ws (at * k) d).index (held k n new)
write_found k n at ws vs new d kept is some long words written =
    let within : at * k + k ≤ n * k = found_within k n at ws kept is in
    let all : n * k ≤ length ws = front_all (n * k) ws kept.blocks.whole in
    let used : List Word = take (n * k) ws in
    let front : take (n * k) new ≡ take (at * k) used ++ (vs ++ drop (at * k + k) used) =
    ap (take (n * k)) written
    ∙ (front_written (n * k) (at * k) ws vs all (omega arith)
    ∙ ap (λ (m : ℕ). take (at * k) used ++ (vs ++ drop (at * k + m) used)) long) in
    let size : length new ≡ length ws = ap length written ∙ written_length (at * k) ws vs (omega arith) in
    let first : slice_index_or used (at * k) (name_word 0) ≡ slice_index_or ws (at * k) d =
    front_read (n * k) (at * k) ws (name_word 0) d all (omega arith) in
    subst (λ (w : Word). IsPut (held k n ws) vs at w.index (held k n new)) first
    (put_as (held k n ws) vs _ (take (n * k) new) at _ k n (length ws) (length new) (sym front) (sym size)
    (put_found (held k n ws) at vs kept is some long words))

-- the words are written after the last block
pub write_last : (k n at : ℕ) (ws vs new : List Word) → AreKept (held k n ws) at → at ≡ NONE → n ≤ NONE → 1 ≤ k
    → n * k + k ≤ length ws → length vs ≡ k → AllByRecursion (λ w. w.tag < IDLE) vs
    → Written new vs (n * k) (length vs) ws → IsPut (held k n ws) vs n at (held k (n + 1) new)
write_last k n at ws vs new kept none few some room long words written =
    let next : (n + 1) * k ≡ n * k + length vs = omega arith in
    let front : take ((n + 1) * k) new ≡ take (n * k) ws ++ vs =
    ap (λ (m : ℕ). take m new) next ∙ copied_front ws vs (n * k) new (omega arith) written in
    let size : length new ≡ length ws = ap length written ∙ written_length (n * k) ws vs (omega arith) in
    put_as (held k n ws) vs _ (take ((n + 1) * k) new) n at k (n + 1) (length ws) (length new) (sym front) (sym size)
    (put_last (held k n ws) at vs kept none few some long words)
