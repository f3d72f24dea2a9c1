use Rattle.std.proofs.Common.{◌≡◌, Some, map, sym, ◌∙◌, subst}
use Rattle.ic_jobs.specs.Events.{Outcome}
use Rattle.ic_jobs.specs.Transitions.{state_of}
use Rattle.ic_exact.proofs.jobs.a_command_leads_where_it_is_said_to.Goals as goal

one_outcome : (o p : Outcome) → Some o ≡ Some p → o ≡ p
one_outcome o p same = cc

pub returns : goal.returns
returns c = λ t d r names after o is applied.
    subst (λ (p : Outcome). (p.reply ≡ r) × (map (λ name. state_of name p.table) names ≡ after))
    (one_outcome is.outcome o (sym is.defined ∙ applied)) (is.replied, is.left)
