-- Texts as bytes (this project's choice).
use Rattle.std.specs.Prelude.{ℕ, List, ◌∷◌, length}

-- a text is its length in one byte, then its bytes
abbrev pub text_bytes : List ℕ → List ℕ
text_bytes text = length text ∷ text
