use Rattle.std.proofs.Common.{◌≡◌, ℕ, [], take}
use Rattle.std.specs.List.{AllByRecursion}
use Rattle.ic_arena.specs.Tables.{blocks_pieces}
use Rattle.ic_machine.proofs.moving.has_agents.Given as goal

abbrev pub invariant-loop-heap : goal.invariant-loop-heap
invariant-loop-heap l = AllByRecursion (λ b. (s : ℕ) → blocks_pieces s b ≡ []) (take l.heap-index l.heaps)
