use Rattle.ic_term.proofs.Greatest.{above_each, one_above_some}
use Rattle.ic_term.proofs.laws.next_is_one_above_the_greatest_name.Goals as goal

pub returns-clause-above : goal.returns-clause-above
returns-clause-above c = above_each

pub returns-clause-some : goal.returns-clause-some
returns-clause-some c = one_above_some
