use Rattle.ic_kept.proofs.HeldLemmas.{found_held}
use Rattle.ic_kept.proofs.keeper.Keeper.open.Goals as goal

pub returns-then-in_second-clause-opened : goal.returns-then-in_second-clause-opened
returns-then-in_second-clause-opened g c keeps keeps_too =
    found_held c.in-Ok.found (g.D.Disk.content c.args.first) (g.D.Disk.content c.args.second) (c.in-Ok.ensures.found keeps keeps_too)

pub returns-else-in_second-clause-opened : goal.returns-else-in_second-clause-opened
returns-else-in_second-clause-opened g c keeps keeps_too =
    found_held c.in-Ok.found (g.D.Disk.content c.args.first) (g.D.Disk.content c.args.second) (c.in-Ok.ensures.found keeps keeps_too)
