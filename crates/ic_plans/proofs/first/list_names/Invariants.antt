use Rattle.std.proofs.Common.{◌≤◌, length, take}
use Rattle.ic_names.specs.Table.{found}
use Rattle.ic_plans.proofs.ListedLemmas.{AreListedSoFar}
use Rattle.ic_plans.proofs.first.list_names.Given as goal

-- the names so far
abbrev pub invariant-loop-name : goal.invariant-loop-name
invariant-loop-name l = record {
  few : length l.firsts.items ≤ l.name-index;
  listed : AreListedSoFar (take l.name-index l.names) l.firsts.items l.single.items l.places.items (found l.initial.table) (found l.table);
}
