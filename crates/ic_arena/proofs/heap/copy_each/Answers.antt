use Rattle.std.proofs.Common.{◌+◌, subst, sym, ◌∙◌, arith, slice_set, slice_index_or}
use Rattle.std.proofs.lemmas.List.{length-set}
use Rattle.ic_arena.specs.Word.{name_word}
use Rattle.ic_arena.proofs.HeapPieces.{AreCopied, copied_more}
use Rattle.ic_arena.proofs.heap.copy_each.Goals as goal

pub loop-word-preserved : goal.loop-word-preserved
loop-word-preserved c =
    let old = c.args.words.now in
    let more = c.args.more.now in
    let i = c.loop-word.word-index in
    let word = slice_index_or more i (name_word 0) in
    record {
      place = omega arith;
      copied = subst (λ x. AreCopied old more c.args.at (i + 1) (slice_set c.loop-word.words x word))
          (sym c.loop-word.invariant.place)
          (copied_more old more c.args.at i c.loop-word.words (name_word 0) c.loop-word-test.true c.requires.there
          c.loop-word.invariant.copied);
      len = length-set c.loop-word.words c.loop-word.place word ∙ c.loop-word.invariant.len;
    }
