use Rattle.std.proofs.Common.{arith}
use Rattle.std.proofs.lemmas.Result.{err_from_is_err_and}
use Rattle.ic_codec.proofs.WordReading.{IsReading-next, words_begin, none_without_word, none_without_room, none_too_many}
use Rattle.ic_codec.proofs.words.words_at.Goals as goal

pub returns-in_err-word-clause-refused : goal.returns-in_err-word-clause-refused
returns-in_err-word-clause-refused c =
    let e = err_from_is_err_and c.from_residual.result c.from_residual.ensures.1 in
    rw (e.1, e.2) (λ same. none_without_word c.requires c.loop-due.invariant c.loop-due-test.true (c.in_err-word.ensures.refused same))

pub returns-clause-read : goal.returns-clause-read
returns-clause-read c = words_begin c.loop-due.invariant (omega (arith, c.loop-due-test.false))

pub returns-then-terms-most-clause-refused : goal.returns-then-terms-most-clause-refused
returns-then-terms-most-clause-refused c = λ same. none_too_many c.args.symbols.now c.args.terms c.args.bytes.now (omega (arith, c.if-terms-most.true))

pub returns-then-arguments-spare-clause-refused : goal.returns-then-arguments-spare-clause-refused
returns-then-arguments-spare-clause-refused c =
    λ same. none_without_room c.in_ok-word.word c.requires c.loop-due.invariant c.loop-due-test.true c.in_ok-word.ensures.read (omega (arith, c.if-arguments-spare.true, c.arguments-arguments.ensures))

pub loop-due-preserved : goal.loop-due-preserved
loop-due-preserved c =
    rw (c.in_ok-push.ensures.items, c.arguments-arguments.ensures)
    (IsReading-next c.in_ok-word.word c.loop-due.invariant c.loop-due-test.true c.in_ok-word.ensures.read (omega (arith, c.if-arguments-spare.false, c.arguments-arguments.ensures)))
