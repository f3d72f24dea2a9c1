use Rattle.std.proofs.Common.{◌∙◌, drop}
use Rattle.std.proofs.lemmas.List.{drop-drop}
use Rattle.ic_flat.specs.Words.{forest}
use Rattle.ic_flat.proofs.PlaceLemmas.{more_there}
use Rattle.ic_flat.proofs.places.end_of_terms.Goals as goal

pub end_of_term-end-requires-clause-there : goal.end_of_term-end-requires-clause-there
end_of_term-end-requires-clause-there c =
    more_there c.args.words.now c.loop.end c.loop.counter c.args.count c.requires.there c.loop-test.true c.loop.invariant.rest

pub loop-preserved : goal.loop-preserved
loop-preserved c = record {
  within = c.end_of_term-end.ensures.within;
  rest = c.end_of_term-end.ensures.rest ∙ (λ i. drop 1 (c.loop.invariant.rest i)) ∙ drop-drop 1 c.loop.counter (forest c.args.words.now);
}
