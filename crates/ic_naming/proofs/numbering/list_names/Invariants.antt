use Rattle.std.proofs.Common.{◌≡◌, ◌≤◌, length}
use Rattle.ic_names.specs.Table.{found}
use Rattle.ic_naming.proofs.Marks.{AreMarksSoFar}
use Rattle.ic_naming.proofs.Places.{ArePlacesSoFar}
use Rattle.ic_naming.proofs.numbering.list_names.Given as goal

-- the names so far
abbrev pub invariant-loop-name : goal.invariant-loop-name
invariant-loop-name l = record {
  few : l.firsts ≤ l.name-index;
  many : l.firsts ≡ length l.single.items;
  places : ArePlacesSoFar l.names l.name-index (found l.places) l.firsts;
  marks : AreMarksSoFar l.names l.name-index (found l.places) l.single.items;
}
