use Rattle.ic_kept.proofs.HeldLemmas.{either_held, either_is, other_way}
use Rattle.ic_kept.proofs.laws.one_of_two_is_held.Goals as goal

pub returns-clause-some : goal.returns-clause-some
returns-clause-some c = either_is

pub returns-clause-only : goal.returns-clause-only
returns-clause-only c = either_held

pub returns-clause-either_way : goal.returns-clause-either_way
returns-clause-either_way c = other_way
