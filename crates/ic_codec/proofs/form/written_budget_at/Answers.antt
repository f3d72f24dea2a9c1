use Rattle.std.proofs.lemmas.Bool.{false≢true}
use Rattle.std.proofs.lemmas.Result.{err_from_is_err_and}
use Rattle.ic_codec.proofs.HeadingReading.{short_budget, no_budget}
use Rattle.ic_codec.proofs.form.written_budget_at.Goals as goal

pub returns-in_err-rounds-clause-refused : goal.returns-in_err-rounds-clause-refused
returns-in_err-rounds-clause-refused c =
    let e = err_from_is_err_and c.from_residual.result c.from_residual.ensures.1 in
    rw (e.1, e.2) (λ same. short_budget c.args.bytes.now c.in_err-rounds.ensures.refused.1)

pub returns-in-None-clause-refused : goal.returns-in-None-clause-refused
returns-in-None-clause-refused c =
    λ same. no_budget c.args.bytes.now c.in_ok-rounds.rest.now c.in_ok-rounds.rounds c.in_ok-rounds.ensures.read c.in_ok-rounds.ensures.small c.if-rounds-eq0.false
    (λ is. false≢true (c.in-None.ensures.budget.1 is))
