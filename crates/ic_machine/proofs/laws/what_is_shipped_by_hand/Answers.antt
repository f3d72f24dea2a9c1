use Rattle.std.proofs.Common.{refl}
use Rattle.ic_machine.proofs.ByHand.{closed_ships, open_ships, open_waits, open_worth}
use Rattle.ic_machine.proofs.laws.what_is_shipped_by_hand.Goals as goal

pub returns-clause-whole : goal.returns-clause-whole
returns-clause-whole c = closed_ships

pub returns-clause-cut : goal.returns-clause-cut
returns-clause-cut c = open_ships

pub returns-clause-waits : goal.returns-clause-waits
returns-clause-waits c = open_waits

pub returns-clause-before : goal.returns-clause-before
returns-clause-before c = (refl, refl)

pub returns-clause-after : goal.returns-clause-after
returns-clause-after c = (refl, refl)

pub returns-clause-spelled : goal.returns-clause-spelled
returns-clause-spelled c = (refl, refl)

pub returns-clause-worth : goal.returns-clause-worth
returns-clause-worth c = open_worth
