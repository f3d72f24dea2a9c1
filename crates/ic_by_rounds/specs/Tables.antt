-- Rows of rounds as a table (this project's choice).
use Rattle.std.specs.Prelude.{ℕ, List, [], ◌∷◌, ◌++◌, codes, map}
use Rattle.std.specs.List.{flat_map, join_with_byte}
use Rattle.std.specs.Fmt.{decimal}
use Rattle.ic_by_rounds.specs.declared.row.Row.{Row}

-- texts with a tab (9) between them, and a line feed at the end
abbrev pub line_of_cells : List (List ℕ) → List ℕ
line_of_cells cells = join_with_byte 9 cells ++ 10 ∷ []

-- the line that names the numbers of a row
abbrev pub head_line : List ℕ
head_line = line_of_cells (codes "round" ∷ codes "pairs" ∷ codes "nodes" ∷ codes "equations"
    ∷ codes "names" ∷ [])

-- the numbers of a row in decimal
abbrev pub row_line : Row → List ℕ
row_line row = line_of_cells
    (map decimal (row.round ∷ row.pairs ∷ row.nodes ∷ row.equations ∷ row.names ∷ []))

-- the head line, and a line for each row
abbrev pub table_of : List Row → List ℕ
table_of rows = head_line ++ flat_map row_line rows
