use Rattle.std.proofs.Common.{◌≡◌, ◌+◌, ◌++◌, vec_len, vec_capacity}
use Rattle.ic_machine.specs.Runs.{given_words}
use Rattle.ic_machine.proofs.firing.push_given.Given as goal

abbrev pub invariant-loop-index : goal.invariant-loop-index
invariant-loop-index l = record {
  pushed : l.registers.items ≡ l.initial.registers.items ++ given_words l.index;
  len : vec_len l.registers ≡ vec_len l.initial.registers + l.index;
  capacity : vec_capacity l.registers ≡ vec_capacity l.initial.registers;
}
