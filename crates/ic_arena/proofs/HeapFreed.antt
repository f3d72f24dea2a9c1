-- Lemmas: what it does to free the block of an agent.
use Rattle.std.proofs.Common.{◌≡◌, ℕ, suc, ◌+◌, ◌-◌, ◌*◌, ◌<◌, ◌≤◌, List, [], length, take, drop, ap, sym, subst, ◌∙◌, arith, slice_set, slice_index_or}
use Rattle.std.proofs.lemmas.List.{length-set}
use Rattle.ic_arena.specs.declared.word.Word.{Word}
use Rattle.ic_arena.specs.declared.word.TheConstants.{FREE}
use Rattle.ic_arena.specs.Word.{agent_word, name_word}
use Rattle.ic_arena.specs.Tables.{Replaced, Blocks, block_at, block_piece, blocks_from, blocks_pieces, entry, first_word}
use Rattle.ic_arena.specs.inner.Free.{AreFound, AreKept, firsts}
use Rattle.ic_arena.proofs.Found.{firsts_at, firsts_length, firsts_set, found_freed}
use Rattle.ic_arena.proofs.Front.{front_set}
use Rattle.ic_arena.proofs.HeapPieces.{block_freed, block_within, has_words}
use Rattle.ic_arena.proofs.HeapPut.{held}

-- the block is free, and the one that is found next
pub record IsFreed (old : Blocks) (block : ℕ) (new : Blocks) : Type 0 where
  pub kept : AreKept new block
  pub freed : (s : ℕ) → Replaced (block_piece (agent_word s block) (block_at old block)) []
      (blocks_pieces s old) (blocks_pieces s new)

-- the mark is written over its first word
pub mark_written : (k n b free : ℕ) (ws : List Word) → AreKept (held k n ws) free → b < n
    → ¬ ((first_word (held k n ws) b).tag ≡ FREE)
    → IsFreed (held k n ws) b (held k n (slice_set ws (b * k) (record { tag = FREE; index = free })))
mark_written k n b free all kept below used =
    let ws : List Word = take (n * k) all in
    let mark : Word = record { tag = FREE; index = free } in
    let some : 1 ≤ k = has_words k n b kept.blocks.some below in
    let e : n ≡ b + suc (n - suc b) = omega arith in
    let within : b * k + k ≤ n * k = block_within k b (n - suc b) n e in
    let whole : length ws ≡ n * k = kept.blocks.whole in
    let at : entry (firsts k n ws) b ≡ slice_index_or ws (b * k) (name_word 0) =
    firsts_at k b (n - suc b) n ws (name_word 0) e whole some in
    let long : length (firsts k n ws) ≡ n = firsts_length k n ws in
    let set : take (n * k) (slice_set all (b * k) mark) ≡ slice_set ws (b * k) mark =
    front_set (n * k) (b * k) all mark (omega arith) in
    record {
      kept = record {
        blocks = record {
          some = kept.blocks.some;
          whole = ap length set ∙ (length-set ws (b * k) mark ∙ whole);
        };
        free = suc kept.free;
        found = subst (λ (l : List Word). AreFound (suc kept.free) (firsts k n l) b) (sym set)
            (subst (λ (l : List Word). AreFound (suc kept.free) l b)
            (sym (firsts_set k b (n - suc b) n ws mark (name_word 0) e whole some))
            (found_freed kept.free (firsts k n ws) free b (omega arith)
            (subst (λ (v : Word). ¬ (v.tag ≡ FREE)) (sym at) used) kept.found));
      };
      freed = λ s.
          subst (λ (l : List Word). Replaced (block_piece (agent_word s b) (take k (drop (b * k) ws))) []
          (blocks_from s k 0 n ws) (blocks_from s k 0 n l)) (sym set)
          (block_freed s k b (n - suc b) n free ws e whole some);
    }
