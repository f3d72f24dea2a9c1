use Rattle.std.proofs.Common.{◌≡◌, ◌+◌, ◌-◌, ◌*◌, ◌^◌, ◌<◌, ◌≤◌, List, [], length, take}
use Rattle.std.specs.List.{AllByRecursion}
use Rattle.ic_machine.specs.declared.equation.Equation.{Equation}
use Rattle.ic_machine.specs.Net.{IsPair}
use Rattle.ic_machine.specs.Plan.{constants}
use Rattle.ic_machine.specs.Separate.{IsSeparate}
use Rattle.ic_machine.specs.inner.Firing.{arities_of}
use Rattle.ic_machine.specs.inner.Tables.{held, FiresEach, HasRoomFor}
use Rattle.ic_machine.proofs.tables.Tables.fire_each.Given as goal

abbrev pub invariant-loop-fired : goal.invariant-loop-fired
invariant-loop-fired g l = record {
  fires : (rest : List Equation) → AllByRecursion IsPair rest
      → FiresEach l.program l.fired l.initial.counts.items l.counts.items l.initial.self l.self rest;
  arities : arities_of l.self.heaps.items ≡ arities_of l.initial.self.heaps.items;
  few : length l.self.names.entries < 2 ^ 32;
  registers : take (length l.self.heaps.items) l.self.registers.items ≡ constants (length l.self.heaps.items);
  wide : length l.self.heaps.items + l.most ≤ length l.self.registers.items;
  separate : IsSeparate (arities_of l.self.heaps.items) [] (held l.self []);
  pairs : AllByRecursion IsPair l.self.pending.items;
  room : HasRoomFor (l.self.spare + (l.times - l.fired) * l.most) l.self;
  counts : AllByRecursion (λ k. k ≤ 2 ^ 64 - 1 - l.times + l.fired) l.counts.items;
}
