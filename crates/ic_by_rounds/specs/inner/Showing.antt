-- For private functions: what was shown of the rounds that were told.
use Rattle.std.specs.Prelude.{◌≡◌, ℕ, ◌==◌, List, [], ◌∷◌, ◌++◌, Option, length, map, if◌then◌else◌}
use Rattle.std.specs.Option.{option_to_list}
use Rattle.std.specs.Io.KnownBytes.{Appends}
use Rattle.ic_machine.specs.Net.{equations_left}
use Rattle.ic_rules.specs.System.{SystemParts}
use Rattle.ic_in_place.specs.Told.{RoundFigures, RoundOver, figures_of}
use Rattle.ic_by_rounds.specs.inner.Amounts.{AreOrigins, Tells}
use Rattle.ic_by_rounds.specs.Tables.{table_of}
use Rattle.ic_by_rounds.specs.declared.row.Row.{Row}
use Rattle.ic_by_rounds.specs.declared.tracing.Format.TheVariants.{Table}
use Rattle.ic_by_rounds.specs.declared.tracing.Tracing.{Tracing}

-- These rows are shown, in part written and in part not yet, to a writer that held this at first and now.
pub record Shows (first t : Tracing) (before now : Option (List ℕ)) (shown : List Row) : Type 0 where
  pub format : t.format ≡ first.format
  pub written : List ℕ
  pub appends : Appends before now written
  pub lines : t.format ≡ Table → written ++ t.unwritten.items ≡ table_of shown

-- the number of a row's round, its pairs and equations
abbrev pub numbers_of : Row → RoundFigures
numbers_of row = record { round = row.round; pairs = row.pairs; equations = row.equations }

-- the nodes and names of a row are those of the net that is told, if all its plans are counted
abbrev pub IsRowOf : SystemParts → List ℕ → Row → RoundOver → Type 0
IsRowOf s numbers row o = length o.net.counts ≡ length numbers
    → Tells s numbers (equations_left o.net) o.net.counts row.nodes row.names

-- there is a row for each net
abbrev pub AreRowsOf : SystemParts → List ℕ → List Row → List RoundOver → Type 0
AreRowsOf s numbers [] [] = Unit {0}
AreRowsOf s numbers [] (o ∷ told) = ⊥
AreRowsOf s numbers (row ∷ rows) [] = ⊥
AreRowsOf s numbers (row ∷ rows) (o ∷ told) = IsRowOf s numbers row o × AreRowsOf s numbers rows told

-- all rows, but a first one without pairs that no other follows
abbrev pub shown_of : List Row → List Row
shown_of [] = []
shown_of (row ∷ []) = if row.pairs == 0 then [] else row ∷ []
shown_of (row ∷ next ∷ rows) = row ∷ next ∷ rows

-- There is a row for each round that was told. It is shown, or held.
pub record ToldRows (s : SystemParts) (rule_numbers : List ℕ) (first t : Tracing)
    (before now : Option (List ℕ)) (told : List RoundOver) : Type 0 where
  pub origins : AreOrigins s rule_numbers t.origins
  pub rows : List Row
  pub are_rows : AreRowsOf s rule_numbers rows told
  pub numbers : map numbers_of rows ≡ map figures_of told
  pub shows : Shows first t before now (shown_of rows)
  pub held : shown_of rows ++ option_to_list t.held ≡ rows
