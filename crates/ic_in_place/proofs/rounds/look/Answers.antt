use Rattle.ic_machine.specs.lemmas.GenerationsOn.{advances_on}
use Rattle.ic_in_place.proofs.Turns.{swept}
use Rattle.ic_in_place.proofs.rounds.look.Goals as goal

pub returns-clause-stays : goal.returns-clause-stays
returns-clause-stays g c =
    λ p h. advances_on p h h h c.args.machine.now c.sweep_if_due-looks.new.machine c.look-looks.new.machine
    (swept p h c.args.machine.now c.sweep_if_due-looks.new.machine (c.sweep_if_due-looks.ensures.ran p) c.sweep_if_due-looks.ensures.same
    (c.sweep_if_due-looks.ensures.steps p))
    (swept p h c.sweep_if_due-looks.new.machine c.look-looks.new.machine (c.look-looks.ensures.ran p) c.look-looks.ensures.same
    (c.look-looks.ensures.steps p))
