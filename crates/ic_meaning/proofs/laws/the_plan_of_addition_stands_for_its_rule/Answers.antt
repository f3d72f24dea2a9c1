use Rattle.ic_meaning.proofs.Added.{addition_stands}
use Rattle.ic_meaning.proofs.laws.the_plan_of_addition_stands_for_its_rule.Goals as goal

pub returns : goal.returns
returns c = addition_stands
