-- For private functions: a table of how often names stand somewhere.
use Rattle.std.specs.Prelude.{◌≡◌, ℕ, List, min, unwrap_or}
use Rattle.ic_names.specs.declared.table.NameTable.{NameTable}
use Rattle.ic_names.specs.Table.{found}
use Rattle.ic_term.specs.Configuration.{occurrences}

-- how often a name stands there, by the table
abbrev pub tallied : NameTable → ℕ → ℕ
tallied table name = unwrap_or (found table name) 0

-- each name of a list is counted, up to two
abbrev pub IsTally : List ℕ → NameTable → Type 0
IsTally names table = (name : ℕ) → tallied table name ≡ min (occurrences name names) 2
