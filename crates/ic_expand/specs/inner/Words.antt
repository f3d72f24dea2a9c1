-- How the places of words are found.
use Rattle.std.specs.Prelude.{◌≡◌, ℕ, List, Option}
use Rattle.std.specs.Borrow.{Bor}
use Rattle.std.specs.Cmp.Lexicographic.{slice_cmp}
use Rattle.std.specs.List.{position}
use Rattle.std.specs.Ordering.{nat_cmp}
use Rattle.std.specs.Str.{bytes_eq}
use Rattle.std.specs.BTreeMap.{BTreeMap, get_by}

-- what a map has for a word
abbrev pub found : BTreeMap (Bor (List ℕ)) ℕ → List ℕ → Option ℕ
found places word = get_by (λ key. slice_cmp nat_cmp word key.now) places

-- the map has the place of each of these words, and no other
abbrev pub ArePlaces : BTreeMap (Bor (List ℕ)) ℕ → List (List ℕ) → Type 0
ArePlaces places words = (word : List ℕ) → found places word ≡ position (bytes_eq word) words
