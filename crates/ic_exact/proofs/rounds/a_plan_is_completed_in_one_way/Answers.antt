use Rattle.std.proofs.Common.{sym, ◌∙◌}
use Rattle.ic_round.specs.Firing.{fired}
use Rattle.ic_exact.proofs.rounds.a_plan_is_completed_in_one_way.Goals as goal

pub returns-clause-same : goal.returns-clause-same
returns-clause-same c = λ rs d rest fs gs one other. one.gathers ∙ sym other.gathers

pub returns-clause-answered : goal.returns-clause-answered
returns-clause-answered c = λ rs d rest fs is. (
  fired rs d,
  is.gathers,
  is.valid (fired rs d) is.gathers,
  is.settles (fired rs d) (sym is.gathers),
  sym (is.answer (fired rs d) (sym is.gathers)),
)
