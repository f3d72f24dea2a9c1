use Rattle.std.proofs.Common.{◌+◌, ◌∙◌, ap, arith}
use Rattle.ic_state.specs.Words.{word_bytes, IsKeptWord}
use Rattle.ic_state.proofs.ListLemmas.{mapped_next, all_next}
use Rattle.ic_state.proofs.words.number_all.Goals as goal

pub loop-word-preserved : goal.loop-word-preserved
loop-word-preserved g c = record {
  numbers = mapped_next (word_bytes c.args.narrow) c.args.words.now c.loop-word.word-index _ c.loop-word.numbers.items c.push_reserved.new.self.items c.in-Some.bytes c.loop-word-test.true
      c.loop-word.invariant.numbers c.push_reserved.ensures.items c.in-Some.ensures.some.0;
  kept = all_next (IsKeptWord c.args.narrow) c.args.words.now c.loop-word.word-index _ c.loop-word-test.true c.loop-word.invariant.kept c.in-Some.ensures.some.1;
  count = c.push_reserved.ensures.len ∙ ap (λ n. n + 1) c.loop-word.invariant.count;
  room = omega (arith, c.push_reserved.ensures.capacity, c.loop-word.invariant.room);
}
