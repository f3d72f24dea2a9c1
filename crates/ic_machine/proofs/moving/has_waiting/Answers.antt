use Rattle.std.proofs.Common.{arith}
use Rattle.ic_machine.proofs.Opening.{names_idle}
use Rattle.ic_machine.proofs.moving.has_waiting.Goals as goal

pub returns : goal.returns
returns c = λ e. names_idle c.args.names.now.entries 0 (λ j lt. c.loop-index.invariant j (omega arith))
