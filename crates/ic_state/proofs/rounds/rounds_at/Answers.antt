use Rattle.std.proofs.lemmas.Result.{err_from_is_err_and}
use Rattle.ic_state.proofs.StateLemmas.{made_said, none_said, short_front, short_said}
use Rattle.ic_state.proofs.rounds.rounds_at.Goals as goal

pub returns-in_err-format-clause-refused : goal.returns-in_err-format-clause-refused
returns-in_err-format-clause-refused c =
    let e = err_from_is_err_and c.from_residual.result c.from_residual.ensures.1 in
    rw e.1 (λ kept rest sound is. short_front c.args.bytes.now kept.rounds c.in_err-format.ensures.refused.1)

pub returns-then-format-ne-BY_ROUNDS-clause-told : goal.returns-then-format-ne-BY_ROUNDS-clause-told
returns-then-format-ne-BY_ROUNDS-clause-told c = λ kept rest sound is.
    none_said c.in_ok-format.format c.args.bytes.now c.in_ok-format.after.now rest kept c.in_ok-format.ensures.small c.in_ok-format.ensures.read c.if-format-ne-BY_ROUNDS.true is

pub returns-in_err-made-clause-refused : goal.returns-in_err-made-clause-refused
returns-in_err-made-clause-refused c =
    let e = err_from_is_err_and c.from_residual-in_err-made.result c.from_residual-in_err-made.ensures.1 in
    rw e.1 (λ kept rest sound is.
    short_said c.in_ok-format.format c.args.bytes.now c.in_ok-format.after.now rest kept c.if-format-ne-BY_ROUNDS.false c.in_ok-format.ensures.read c.in_err-made.ensures.refused.1 is)

pub returns-clause-told : goal.returns-clause-told
returns-clause-told c = λ kept rest sound is.
    made_said c.in_ok-format.format c.in_ok-made.made c.args.bytes.now c.in_ok-format.after.now c.in_ok-made.plain.now rest kept sound
    c.if-format-ne-BY_ROUNDS.false c.in_ok-made.ensures.small c.in_ok-format.ensures.read c.in_ok-made.ensures.read is
