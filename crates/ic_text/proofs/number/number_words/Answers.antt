use Rattle.std.proofs.Common.{refl}
use Rattle.std.proofs.lemmas.Result.{err_from_is_err_and}
use Rattle.ic_text.specs.inner.Numbered.{numbered_words}
use Rattle.ic_text.specs.inner.Prefix.{nodes_of}
use Rattle.ic_text.proofs.NumberedSoFar.{begins, goes_on, is_word_there, refused_counted, rest_there, stops_counted, stops_there}
use Rattle.ic_text.proofs.number.number_words.Goals as goal

pub loop-word-init : goal.loop-word-init
loop-word-init c = begins c.args.limits (nodes_of c.args.nodes.now) _ c.new-symbols.ensures c.in_ok-words.ensures.items refl

pub returns-in-Some : goal.returns-in-Some
returns-in-Some c = stops_counted c.args.limits (nodes_of c.args.nodes.now) c.args.excess c.limit_at.result c.in-Some.limit c.passed.result.fault c.limit_at.ensures c.in-Some.is c.passed.ensures

pub take-requires-clause-word : goal.take-requires-clause-word
take-requires-clause-word c = is_word_there c.args.nodes.now c.loop-word.word _ c.loop-word-test.true c.requires

pub take-requires-clause-few : goal.take-requires-clause-few
take-requires-clause-few c = c.loop-word.invariant.few

pub loop-word-preserved : goal.loop-word-preserved
loop-word-preserved c =
    goes_on c.args.limits (numbered_words c.args.limits (nodes_of c.args.nodes.now)) (nodes_of c.args.nodes.now) c.loop-word.word _ (rest_there c.args.nodes.now c.loop-word.word _ c.loop-word-test.true) c.loop-word.numbering c.loop-word.invariant _ c.in_ok-take.ensures.went

pub returns-in_err-take : goal.returns-in_err-take
returns-in_err-take c =
    let e = err_from_is_err_and c.from_residual-in_err-take.result c.from_residual-in_err-take.ensures.1 in
    let stopped = c.in_err-take.ensures.stopped in
    rw (e.1, e.2)
    (refused_counted c.args.limits (nodes_of c.args.nodes.now) c.args.excess _ c.in_err-take.field-0.0.fault stopped
    (stops_there c.args.limits (numbered_words c.args.limits (nodes_of c.args.nodes.now)) (nodes_of c.args.nodes.now) c.loop-word.word _ (rest_there c.args.nodes.now c.loop-word.word _ c.loop-word-test.true) c.loop-word.numbering c.loop-word.invariant c.in_err-take.field-0.0.fault stopped))
