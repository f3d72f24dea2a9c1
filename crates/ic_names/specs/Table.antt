-- What a table holds for names.
use Rattle.std.specs.Prelude.{ℕ, ◌-◌, ◌==◌, List, Option, None, Some, slice_get, nat_le, if◌then◌else◌}
use Rattle.std.specs.Ordering.{nat_cmp}
use Rattle.std.specs.BTreeMap.{get}
use Rattle.ic_names.specs.declared.row.Row.{Row}
use Rattle.ic_names.specs.declared.row.TheConstants.{NONE}
use Rattle.ic_names.specs.declared.table.NameTable.{NameTable}
use Rattle.ic_names.specs.Row.{column_of, row_of}

-- what stands at a column of a row
abbrev pub slot_in : Row → ℕ → Option ℕ
slot_in r c = if nat_le r.first c then slice_get r.slots.items (c - r.first) else None

-- what stands at a column of a row that there may be
abbrev pub slot_at : Option Row → ℕ → Option ℕ
slot_at None c = None
slot_at (Some r) c = slot_in r c

-- what stands in the place of a name
abbrev pub slot_of : List Row → ℕ → Option ℕ
slot_of rows x = slot_at (slice_get rows (row_of x)) (column_of x)

-- what a place says, and elsewhere what is said without it
abbrev pub told : Option ℕ → Option ℕ → Option ℕ
told None other = other
told (Some n) other = if n == NONE then None else Some n

-- the number that a name has
unfoldable pub found : NameTable → ℕ → Option ℕ
found table x = told (slot_of table.rows.items x) (get nat_cmp table.others x)
