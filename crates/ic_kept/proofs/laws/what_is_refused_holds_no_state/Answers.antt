use Rattle.ic_kept.specs.lemmas.Refused.{refused_hold_none}
use Rattle.ic_kept.proofs.laws.what_is_refused_holds_no_state.Goals as goal

pub returns-clause-none : goal.returns-clause-none
returns-clause-none c cause state first second answers held = refused_hold_none cause first second state answers held

pub returns-clause-shut : goal.returns-clause-shut
returns-clause-shut c first second shut = (λ alike. shut.0.shut alike.opened.0, λ damaged. damaged.not_shut shut)

pub returns-clause-alike : goal.returns-clause-alike
returns-clause-alike c first second alike damaged = damaged.not_alike alike
