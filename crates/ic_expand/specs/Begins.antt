-- With what a text begins (this project's choice).
use Rattle.std.specs.Prelude.{ℕ, ◌+◌, ◌==◌, List, [], ◌∷◌, Bool, true, ◌||◌, drop, if◌then◌else◌}
use Rattle.ic_text.specs.Token.{is_blank}

-- how many blanks a text begins with
abbrev pub blanks_before : List ℕ → ℕ
blanks_before [] = 0
blanks_before (b ∷ bs) = if is_blank b then blanks_before bs + 1 else 0

-- a text begins with `{` or `<`, or has no bytes
abbrev pub begins : List ℕ → Bool
begins [] = true
begins (b ∷ bs) = b == 123 || b == 60

-- so it is after its blanks
abbrev pub is_begun : List ℕ → Bool
is_begun text = begins (drop (blanks_before text) text)
