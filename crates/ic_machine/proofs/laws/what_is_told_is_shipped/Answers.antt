use Rattle.ic_machine.proofs.Waiting.{never_both}
use Rattle.ic_machine.proofs.laws.what_is_told_is_shipped.Goals as goal

pub returns : goal.returns
returns c = λ same. never_both c.args.machine.now c.args.borders.now c.args.told (c.what_borders_hold.ensures.cuts c.args.told.cut) c.requires.told (c.ship.ensures.none same)
