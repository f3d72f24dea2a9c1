use Rattle.std.proofs.Common.{◌<◌, ℕ}
use Rattle.ic_machine.specs.inner.Firing.{AreSame, HasBlocks, table}
use Rattle.ic_machine.proofs.firing.reserve_each.Given as goal

abbrev pub invariant-loop-symbol : goal.invariant-loop-symbol
invariant-loop-symbol l = record {
  same : AreSame l.initial.heaps.items l.heaps.items;
  room : (s : ℕ) → s < l.symbol → HasBlocks l.more (table l.heaps.items s);
}
