use Rattle.std.proofs.Common.{ℕ, ◌<◌, ◌≤◌}
use Rattle.ic_arena.specs.declared.word.TheConstants.{FREE, IDLE}
use Rattle.ic_arena.specs.Tables.{entry}
use Rattle.ic_machine.proofs.moving.has_waiting.Given as goal

abbrev pub invariant-loop-index : goal.invariant-loop-index
invariant-loop-index l = (j : ℕ) → j < l.index → (IDLE ≤ (entry l.names.entries j).tag) × ((entry l.names.entries j).tag ≤ FREE)
