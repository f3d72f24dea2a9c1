use Rattle.std.proofs.Common.{◌≡◌, ◌+◌, ◌-◌, map}
use Rattle.std.specs.List.{range_with_len}
use Rattle.ic_machine.proofs.unpacking.fill.Given as goal

abbrev pub invariant-loop-place : goal.invariant-loop-place
invariant-loop-place l = l.operands.items ≡ map (λ k. l.end - (k + 1)) (range_with_len 0 l.place)
