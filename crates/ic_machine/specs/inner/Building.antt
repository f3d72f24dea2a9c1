-- What the tables of a builder hold, and what they keep.
use Rattle.std.specs.Prelude.{◌≡◌, ℕ, ◌^◌, ◌<◌, ◌≤◌, [], length}
use Rattle.std.specs.List.{AllByRecursion}
use Rattle.ic_arena.specs.declared.word.TheConstants.{IDLE, GIVEN}
use Rattle.ic_arena.specs.Tables.{names_pieces}
use Rattle.ic_machine.specs.declared.building.Builder.TheInside.{Inside}
use Rattle.ic_machine.specs.Building.{Building}
use Rattle.ic_machine.specs.inner.Firing.{arities_of, heaps_pieces, table}
use Rattle.ic_machine.specs.inner.Making.{AreFull}

abbrev pub building_of : Inside → Building
building_of b = record {
  arities = arities_of b.tables.heaps.items;
  registers = b.tables.registers.items;
  names = names_pieces 0 b.tables.names.entries;
  agents = heaps_pieces 0 b.tables.heaps.items;
}

-- There are numbers for all names, symbols and blocks, no word is a mark, no place is free, and nothing is linked yet.
pub record IsBuilder (b : Inside) : Type 0 where
  pub names : length b.tables.names.entries < 2 ^ 32
  pub symbols : length b.tables.heaps.items < GIVEN
  pub words : AllByRecursion (λ w. w.tag < IDLE) b.tables.registers.items
  pub all_names : length b.tables.names.entries ≡ length (names_pieces 0 b.tables.names.entries)
  pub all_blocks : AreFull b.tables.heaps.items
  pub few : (s : ℕ) → (table b.tables.heaps.items s).count ≤ length b.tables.registers.items
  pub pending : b.tables.pending.items ≡ []
  pub spare : b.tables.spare ≡ 0
