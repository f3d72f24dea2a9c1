use Rattle.ic_jobs.proofs.BudgetLemmas.{budget_stays}
use Rattle.ic_jobs.proofs.laws.budgets_are_kept.Goals as goal

pub returns-clause-events : goal.returns-clause-events
returns-clause-events c = budget_stays
