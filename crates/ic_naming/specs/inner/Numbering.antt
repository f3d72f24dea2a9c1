-- For private functions: by what names are numbered.
use Rattle.std.specs.Prelude.{◌≡◌, ◌==◌, ◌&&◌, ℕ, ◌≤◌, Bool, false, List, length, get_or, nat_le, unwrap_or, if◌then◌else◌}
use Rattle.ic_term.specs.Configuration.{occurrences}
use Rattle.ic_rules.specs.Renaming.{first_occurrences, number_among}
use Rattle.ic_names.specs.declared.table.NameTable.{NameTable}
use Rattle.ic_names.specs.Table.{found}
use Rattle.ic_text.specs.declared.limits.TheConstants.{MAX_NAME}
use Rattle.ic_naming.specs.declared.numbering.Listed.{Listed}
use Rattle.ic_naming.specs.declared.numbering.Numbering.{Numbering}
use Rattle.ic_naming.specs.Naming.{spare_numbers}

-- the place of a name among those that are listed, or that after all
abbrev pub place_in : Listed → ℕ → ℕ
place_in l name = unwrap_or (found l.places name) l.firsts

-- whether a name is kept: it may stand in a text, and is marked
abbrev pub is_listed_kept : Listed → ℕ → Bool
is_listed_kept l name = nat_le name MAX_NAME && get_or l.single.items (place_in l name) false

-- the places of the names of a list among so many first occurrences
pub record ArePlaces (names : List ℕ) (places : NameTable) (firsts : ℕ) : Type 0 where
  pub many : firsts ≡ length (first_occurrences names)
  pub each : (name : ℕ) → unwrap_or (found places name) firsts ≡ number_among (first_occurrences names) name

-- the different names of a list, with marks at those that occur once
pub record AreListed (names : List ℕ) (l : Listed) : Type 0 where
  pub places : ArePlaces names l.places l.firsts
  pub single : (name : ℕ) → get_or l.single.items (place_in l name) false ≡ (occurrences name names == 1)

-- the numbers that are spare among the names of a list, up to this place
abbrev pub AreSpare : List ℕ → ℕ → List ℕ → Type 0
AreSpare names last spare = (k : ℕ) → k ≤ last → get_or spare k 0 ≡ get_or (spare_numbers names) k 0

-- the numbering of these names
pub record IsNumbering (names : List ℕ) (n : Numbering) : Type 0 where
  pub listed : AreListed names n.listed
  pub spare : AreSpare names n.listed.firsts n.spare.items

-- the name that a name is told by
abbrev pub told_by : Numbering → ℕ → ℕ
told_by n name = if is_listed_kept n.listed name then name else get_or n.spare.items (place_in n.listed name) 0
