use Rattle.std.proofs.lemmas.Result.{err_from_is_err_and}
use Rattle.ic_codec.proofs.HeadingReading.{none_such_name, none_state, none_rounds, none_budget, none_next}
use Rattle.ic_codec.proofs.form.heading_at.Goals as goal

pub returns-in_err-name-clause-refused : goal.returns-in_err-name-clause-refused
returns-in_err-name-clause-refused c =
    let e = err_from_is_err_and c.from_residual-in_err-name.result c.from_residual-in_err-name.ensures.1 in
    rw (e.1, e.2) (λ same. none_such_name c.args.form c.args.bytes.now c.in_ok-text.text.now c.in_ok-text.rest.now c.in_ok-text.ensures.read (c.in_err-name.ensures.refused same))

pub returns-in_err-state-clause-refused : goal.returns-in_err-state-clause-refused
returns-in_err-state-clause-refused c =
    let e = err_from_is_err_and c.from_residual-in_err-state.result c.from_residual-in_err-state.ensures.1 in
    rw (e.1, e.2) (λ same. none_state c.args.form c.args.bytes.now c.in_ok-text.text.now c.in_ok-text.rest.now c.in_ok-text.ensures.read (c.in_err-state.ensures.refused same))

pub returns-in_err-rounds-clause-refused : goal.returns-in_err-rounds-clause-refused
returns-in_err-rounds-clause-refused c =
    let e = err_from_is_err_and c.from_residual-in_err-rounds.result c.from_residual-in_err-rounds.ensures.1 in
    rw (e.1, e.2) (λ same. none_rounds c.args.form c.args.bytes.now c.in_ok-text.text.now c.in_ok-text.rest.now c.in_ok-state.state c.in_ok-state.rest.now
    c.in_ok-text.ensures.read c.in_ok-state.ensures.read c.in_err-rounds.ensures.refused.1)

pub returns-in-Err-clause-refused : goal.returns-in-Err-clause-refused
returns-in-Err-clause-refused c =
    λ same. none_budget c.args.form c.args.bytes.now c.in_ok-text.text.now c.in_ok-text.rest.now c.in_ok-state.state c.in_ok-state.rest.now c.in_ok-rounds.rounds c.in_ok-rounds.rest.now
    c.in_ok-text.ensures.read c.in_ok-state.ensures.read c.in_ok-rounds.ensures.read (c.in-Err.ensures.refused same)

pub returns-in_err-next-clause-refused : goal.returns-in_err-next-clause-refused
returns-in_err-next-clause-refused c =
    let e = err_from_is_err_and c.from_residual-in_err-next.result c.from_residual-in_err-next.ensures.1 in
    rw (e.1, e.2) (λ same. none_next c.args.form c.args.bytes.now c.in_ok-text.text.now c.in_ok-text.rest.now c.in_ok-state.state c.in_ok-state.rest.now c.in_ok-rounds.rounds c.in_ok-rounds.rest.now
    c.in-Ok.budget c.in-Ok.rest.now c.in_ok-text.ensures.read c.in_ok-state.ensures.read c.in_ok-rounds.ensures.read c.in-Ok.ensures.read c.in_err-next.ensures.refused.1)
