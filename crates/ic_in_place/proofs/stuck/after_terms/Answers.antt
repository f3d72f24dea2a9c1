use Rattle.std.proofs.Common.{length, drop, ap, ◌∙◌, arith, length-drop, drop-drop}
use Rattle.ic_flat.specs.Words.{forest}
use Rattle.ic_in_place.proofs.Words.{word_there}
use Rattle.ic_in_place.proofs.stuck.after_terms.Goals as goal

pub end_of_term-place-requires-clause-there : goal.end_of_term-place-requires-clause-there
end_of_term-place-requires-clause-there c =
    let ws = c.args.words.now in
    let left = length-drop c.loop-term.term (forest ws) in
    word_there ws c.loop-term.place 1 (omega (arith, ap length c.loop-term.invariant, left, c.requires.there, c.loop-term-test.true)) (omega arith)

pub loop-term-preserved : goal.loop-term-preserved
loop-term-preserved c =
    c.end_of_term-place.ensures.rest ∙ ap (drop 1) c.loop-term.invariant ∙ drop-drop 1 c.loop-term.term (forest c.args.words.now)
