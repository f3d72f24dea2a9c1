-- The lines of a text.
use Rattle.std.specs.Prelude.{ℕ, ◌==◌, List, [], ◌∷◌, ◌++◌, Bool, if◌then◌else◌}
use Rattle.std.specs.List.{list_any, onto_first}

-- whether there is a line feed in it
abbrev pub has_feed : List ℕ → Bool
has_feed text = list_any (λ b. b == 10) text

-- a line with its line feed
abbrev pub ended : List ℕ → List ℕ
ended line = line ++ 10 ∷ []

-- The lines of a text: a line feed ends each, and the last may go without where it has a byte (this
-- project's choice).
abbrev pub lines : List ℕ → List (List ℕ)
lines [] = []
lines (b ∷ bs) = if b == 10 then [] ∷ lines bs else onto_first b (lines bs)
