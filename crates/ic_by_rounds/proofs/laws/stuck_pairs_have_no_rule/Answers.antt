use Rattle.ic_by_rounds.proofs.Reductions.{none_told, stuck_unruled}
use Rattle.ic_by_rounds.proofs.laws.stuck_pairs_have_no_rule.Goals as goal

pub returns-clause-no_rule : goal.returns-clause-no_rule
returns-clause-no_rule c = stuck_unruled

pub returns-clause-none : goal.returns-clause-none
returns-clause-none c = none_told
