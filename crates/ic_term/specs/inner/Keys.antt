-- The numbers by which the texts of symbols are found.
use Rattle.std.specs.Prelude.{◌≡◌, ℕ, ◌+◌, ◌*◌, ◌≤◌, List, [], ◌∷◌, length, take, drop, IsTrue}
use Rattle.std.specs.declared.cmp.Ordering.{Ordering}
use Rattle.std.specs.Ordering.{nat_cmp, ordering_then}
use Rattle.std.specs.BTreeMap.{BTreeMap, get}
use Rattle.ic_term.specs.Symbol.{Symbol, is_symbol_text, number_of_text}
use Rattle.ic_term.specs.declared.limits.TheConstants.{MAX_SYMBOL_TEXT}

-- bytes as digits of a number, the first one the lowest
abbrev pub packed : List ℕ → ℕ
packed [] = 0
packed (b ∷ bs) = packed bs * 256 + b

-- the key of a text: its first 16 bytes, and those after them
abbrev pub key_of : List ℕ → ℕ × ℕ
key_of text = (packed (take 16 text), packed (drop 16 text))

-- the order of the keys
abbrev pub key_cmp : ℕ × ℕ → ℕ × ℕ → Ordering
key_cmp x y = ordering_then (nat_cmp x.0 y.0) (nat_cmp x.1 y.1)

-- the map has the number of each symbol at the key of its text, and no other
abbrev pub AreNumbers : BTreeMap (ℕ × ℕ) ℕ → List Symbol → Type 0
AreNumbers numbers ss = (text : List ℕ) → IsTrue (is_symbol_text text)
    → length text ≤ MAX_SYMBOL_TEXT → get key_cmp numbers (key_of text) ≡ number_of_text ss text
