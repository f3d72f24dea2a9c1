-- Symbols as bytes (this project's choice).
use Rattle.std.specs.Prelude.{ℕ, List, [], ◌∷◌, ◌++◌, length}
use Rattle.std.specs.List.{flat_map}
use Rattle.ic_term.specs.Symbol.{Symbol}
use Rattle.ic_codec.specs.Texts.{text_bytes}

-- a symbol is its text, then its arity in one byte
abbrev pub symbol_bytes : Symbol → List ℕ
symbol_bytes s = text_bytes s.text ++ s.arity ∷ []

-- symbols are how many there are, in one byte, then each of them in order
abbrev pub symbols_bytes : List Symbol → List ℕ
symbols_bytes ss = length ss ∷ flat_map symbol_bytes ss
