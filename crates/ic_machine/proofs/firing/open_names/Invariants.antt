use Rattle.std.proofs.Common.{◌≡◌, ◌+◌, ◌≤◌, length, max, vec_len, vec_capacity}
use Rattle.ic_arena.specs.Tables.{names_pieces}
use Rattle.ic_machine.specs.inner.Firing.{Opened}
use Rattle.ic_machine.proofs.firing.open_names.Given as goal

abbrev pub invariant-loop-opened : goal.invariant-loop-opened
invariant-loop-opened l = record {
  opened : Opened l.opened l.initial.names.entries l.names.entries
      l.initial.registers.items l.registers.items;
  few : length l.names.entries ≤ length l.initial.names.entries + l.opened;
  places : length l.names.entries ≡ max (length l.initial.names.entries) (length (names_pieces 0 l.names.entries));
  memory : l.names.capacity ≡ l.initial.names.capacity;
  len : vec_len l.registers ≡ vec_len l.initial.registers + l.opened;
  capacity : vec_capacity l.registers ≡ vec_capacity l.initial.registers;
}
