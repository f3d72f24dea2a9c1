use Rattle.std.proofs.Common.{arith}
use Rattle.ic_flat_round.proofs.RunWords.{run-none, run-both}
use Rattle.ic_flat_round.proofs.StackedSpans.{span_there}
use Rattle.ic_flat_round.proofs.rebuilding.after_words.Goals as goal

pub loop-rest-init : goal.loop-rest-init
loop-rest-init c = record { run = run-none c.args.words.now c.args.bound.now.entries c.args.span c.requires.span }

pub after_word-requires-clause-span : goal.after_word-requires-clause-span
after_word-requires-clause-span c = c.loop-rest.invariant.run.left

pub loop-rest-smaller : goal.loop-rest-smaller
loop-rest-smaller c =
    let next = c.in-Some.ensures.next in
    omega (arith, next, span_there c.args.words.now c.loop-rest.rest c.loop-rest.invariant.run.left c.loop-rest-test.true)

pub loop-rest-preserved : goal.loop-rest-preserved
loop-rest-preserved c = record {
  run = run-both c.args.words.now c.args.bound.now.entries c.args.span c.loop-rest.rest c.in-Some.next c.loop-rest.invariant.run c.in-Some.ensures.run;
}
