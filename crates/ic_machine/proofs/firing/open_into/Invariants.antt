use Rattle.std.proofs.Common.{◌≡◌, ◌+◌, ◌≤◌, length, max, take}
use Rattle.ic_arena.specs.Tables.{names_pieces}
use Rattle.ic_machine.specs.inner.Firing.{Opened}
use Rattle.ic_machine.proofs.firing.open_into.Given as goal

abbrev pub invariant-loop-opened : goal.invariant-loop-opened
invariant-loop-opened l = record {
  next : l.next ≡ l.filled + l.opened;
  opened : Opened l.opened l.initial.names.entries l.names.entries
      (take l.filled l.initial.registers) (take l.next l.registers);
  few : length l.names.entries ≤ length l.initial.names.entries + l.opened;
  places : length l.names.entries ≡ max (length l.initial.names.entries) (length (names_pieces 0 l.names.entries));
  memory : l.names.capacity ≡ l.initial.names.capacity;
  len : length l.registers ≡ length l.initial.registers;
}
