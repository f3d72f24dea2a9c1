-- What the tables of places hold, and what they keep.
use Rattle.std.specs.Prelude.{◌≡◌, ◌+◌, ◌^◌, ◌<◌, ◌≤◌, ◌++◌, length, map, sum_by}
use Rattle.std.specs.List.{AllByRecursion}
use Rattle.ic_arena.specs.declared.word.TheConstants.{GIVEN}
use Rattle.ic_arena.specs.Tables.{AreBlocks, names_pieces}
use Rattle.ic_machine.specs.declared.places.Places.TheInside.{Inside}
use Rattle.ic_machine.specs.Held.{Held}
use Rattle.ic_machine.specs.inner.Firing.{heaps_pieces, arities_of}

abbrev pub held_of : Inside → Held
held_of p = record {
  arities = arities_of p.heaps.items;
  pieces = names_pieces 0 p.names.entries ++ heaps_pieces 0 p.heaps.items;
  names = length p.names.entries;
  agents = map (λ b. b.count) p.heaps.items;
}

-- There are numbers for all names and symbols, the agents are in whole blocks, and the places were counted, of which there are
-- at least as many as pieces.
pub record AreCounted (p : Inside) : Type 0 where
  pub names : length p.names.entries < 2 ^ 32
  pub symbols : length p.heaps.items < GIVEN
  pub blocks : AllByRecursion AreBlocks p.heaps.items
  pub count : p.count ≡ length p.names.entries + sum_by (λ b. b.count) p.heaps.items
  pub enough : length (names_pieces 0 p.names.entries ++ heaps_pieces 0 p.heaps.items) ≤ p.count
