-- The net that the tables of a machine hold, and what they keep.
use Rattle.std.specs.Prelude.{◌≡◌, ◌^◌, ◌<◌, ◌≤◌, ◌++◌, length, map, take}
use Rattle.std.specs.List.{AllByRecursion}
use Rattle.ic_arena.specs.declared.word.TheConstants.{GIVEN}
use Rattle.ic_arena.specs.Tables.{names_pieces}
use Rattle.ic_machine.specs.declared.machine.Machine.TheInside.{Inside}
use Rattle.ic_machine.specs.Plan.{constants}
use Rattle.ic_machine.specs.Net.{Net, pieces, IsPair}
use Rattle.ic_machine.specs.Separate.{IsSeparate}
use Rattle.ic_machine.specs.inner.Firing.{heaps_pieces, arities_of}
use Rattle.ic_machine.specs.inner.Tables.{HasSpare}

abbrev pub net_of : Inside → Net
net_of m = record {
  arities = arities_of m.tables.heaps.items;
  interface = m.interface.items;
  pending = m.tables.pending.items;
  aside = m.aside.items;
  places = names_pieces 0 m.tables.names.entries ++ heaps_pieces 0 m.tables.heaps.items;
  interactions = m.interactions;
  names = length m.tables.names.entries;
  agents = map (λ b. b.count) m.tables.heaps.items;
  counts = m.counts.items;
}

-- The net is separate, and no side of a pair that is pending or set aside is a name. There are numbers for all names and symbols, the first
-- registers hold the agents without arguments, what is spare is there, and no plan has fired more often than all.
pub record IsSound (m : Inside) : Type 0 where
  pub separate : IsSeparate (arities_of m.tables.heaps.items) m.interface.items (pieces (net_of m))
  pub pairs : AllByRecursion IsPair m.tables.pending.items
  pub aside : AllByRecursion IsPair m.aside.items
  pub names : length m.tables.names.entries < 2 ^ 32
  pub symbols : length m.tables.heaps.items < GIVEN
  pub registers : take (length m.tables.heaps.items) m.tables.registers.items
      ≡ constants (length m.tables.heaps.items)
  pub spare : HasSpare m.tables
  pub counts : AllByRecursion (λ k. k ≤ m.interactions) m.counts.items
