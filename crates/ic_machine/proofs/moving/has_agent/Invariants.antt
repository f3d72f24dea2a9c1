use Rattle.std.proofs.Common.{◌≡◌, ℕ, ◌<◌}
use Rattle.ic_arena.specs.declared.word.TheConstants.{FREE}
use Rattle.ic_arena.specs.Tables.{first_word}
use Rattle.ic_machine.proofs.moving.has_agent.Given as goal

abbrev pub invariant-loop-block : goal.invariant-loop-block
invariant-loop-block l = (j : ℕ) → j < l.block → (first_word l.heap j).tag ≡ FREE
