use Rattle.std.proofs.Common.{ap}
use Rattle.ic_text.specs.inner.Built.{rules_in}
use Rattle.ic_text.proofs.build.rules_of.Goals as goal

pub loop-left-init : goal.loop-left-init
loop-left-init c = rw c.in_ok-rules.ensures.items (ap rules_in c.in_ok-sides.ensures)
