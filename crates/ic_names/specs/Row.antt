-- Where names stand: those of texts, which are 26 times a number and a letter, by their letters.
use Rattle.std.specs.Prelude.{ℕ, ◌/◌, ◌%◌, ◌^◌, nat_lt, if◌then◌else◌}

-- the row that a name stands in
abbrev pub row_of : ℕ → ℕ
row_of x = if nat_lt x (2 ^ 32) then x % 26 else 26

-- where in its row it stands
abbrev pub column_of : ℕ → ℕ
column_of x = if nat_lt x (2 ^ 32) then x / 26 else x
