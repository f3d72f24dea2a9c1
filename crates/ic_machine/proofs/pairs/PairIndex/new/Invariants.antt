use Rattle.std.proofs.Common.{◌≡◌, ◌*◌, ◌≤◌, None, length, vec_capacity}
use Rattle.std.specs.List.{AllByRecursion}
use Rattle.ic_machine.proofs.pairs.PairIndex.new.Given as goal

-- the entries so far
abbrev pub invariant-loop-entry : goal.invariant-loop-entry
invariant-loop-entry l = record {
  count : length l.entries.items ≡ l.entry;
  room : l.rows * l.rows ≤ vec_capacity l.entries;
  none : AllByRecursion (λ e. e ≡ None) l.entries.items;
}
