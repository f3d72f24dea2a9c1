-- For private functions: rows without numbers.
use Rattle.std.specs.Prelude.{◌≡◌, ℕ, Some, slice_get}
use Rattle.ic_names.specs.declared.row.Row.{Row}
use Rattle.ic_names.specs.declared.row.TheConstants.{NONE}

-- a row with a mark at each column that there is no number
abbrev pub IsBlank : Row → Type 0
IsBlank r = (i n : ℕ) → slice_get r.slots.items i ≡ Some n → n ≡ NONE
