use Rattle.std.proofs.Common.{◌≡◌, ◌++◌, drop, map, slice_index_or}
use Rattle.ic_plans.proofs.first.read_registers.Given as goal

-- those so far and those of what is left are all
abbrev pub invariant-loop-place : goal.invariant-loop-place
invariant-loop-place l = l.registers.items ++ map (λ k. slice_index_or l.numbers k 0) (drop l.place-index l.places) ≡ map (λ k. slice_index_or l.numbers k 0) l.places
