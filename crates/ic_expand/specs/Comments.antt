-- What a comment is (this project's choice).
use Rattle.std.specs.Prelude.{ℕ, ◌==◌, List, [], ◌∷◌, Bool, true, false, not, if◌then◌else◌}

-- whether a byte is of a comment, by whether the byte before it is: `#` begins one, and the end of the
-- line ends it
abbrev pub is_commented : (inside : Bool) → ℕ → Bool
is_commented inside b = if inside then not (b == 10) else b == 35

-- what of a text is no comment, where what stands before it is of one or not
abbrev pub uncommented_from : (inside : Bool) → List ℕ → List ℕ
uncommented_from inside [] = []
uncommented_from inside (b ∷ bs) = if is_commented inside b then uncommented_from true bs
    else b ∷ uncommented_from false bs

-- a text without its comments
abbrev pub uncommented : List ℕ → List ℕ
uncommented text = uncommented_from false text
