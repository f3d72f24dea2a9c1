-- For private functions: symbols that grow by what rules make of them.
use Rattle.std.specs.Prelude.{◌≡◌, ◌⊎◌, ℕ, ◌<◌, ◌==◌, List, [], ◌∷◌, ◌++◌, Bool, IsTrue, length, slice_index_or, if◌then◌else◌}
use Rattle.std.specs.List.{AllByRecursion, list_any}
use Rattle.ic_rules.specs.Rule.{Rule}
use Rattle.ic_check.specs.Warnings.{made_symbols, AllAmong}
use Rattle.ic_check.specs.declared.reach.Making.{Making}

-- a symbol is among these
abbrev pub holds : List ℕ → ℕ → Bool
holds ss s = list_any (λ t. t == s) ss

-- a symbol more, if it isn't among these
abbrev pub with_symbol : List ℕ → ℕ → List ℕ
with_symbol ss s = if holds ss s then ss else ss ++ s ∷ []

-- the symbols of both, and no others
pub record Joins (old more new : List ℕ) : Type 0 where
  pub keeps : (s : ℕ) → IsTrue (holds old s) → IsTrue (holds new s)
  pub has : (s : ℕ) → IsTrue (holds more s) → IsTrue (holds new s)
  pub no_other : (s : ℕ) → IsTrue (holds new s) → IsTrue (holds old s) ⊎ IsTrue (holds more s)

-- this is what a rule makes
pub record IsMaking (r : Rule) (m : Making) : Type 0 where
  pub left : m.left ≡ r.left
  pub right : m.right ≡ r.right
  pub made : m.made.items ≡ made_symbols r

-- these are what rules make, in their order
abbrev pub AreMakings : List Rule → List Making → Type 0
AreMakings [] [] = Unit {0}
AreMakings (r ∷ rs) (m ∷ ms) = IsMaking r m × AreMakings rs ms
AreMakings [] (m ∷ ms) = ⊥
AreMakings (r ∷ rs) [] = ⊥

-- both symbols are seen
abbrev pub IsReady : List ℕ → Making → Type 0
IsReady seen m = IsTrue (holds seen m.left) × IsTrue (holds seen m.right)

-- both symbols of the one at this place are seen
abbrev pub IsReadyAt : List ℕ → List Making → ℕ → Type 0
IsReadyAt seen ms i = (i < length ms) × ((m : Making) → m ≡ slice_index_or ms i m → IsReady seen m)

abbrev pub HasNoReady : List ℕ → List Making → Type 0
HasNoReady seen ms = AllByRecursion (λ m. ¬ IsReady seen m) ms

-- where both symbols are among these, so are those that are made of them
abbrev pub IsKept : (ℕ → Bool) → Making → Type 0
IsKept among m = IsTrue (among m.left) → IsTrue (among m.right) → AllAmong among m.made.items

-- symbols have grown by what is made of them, and by nothing else
pub record Grows (ms : List Making) (old new : List ℕ) : Type 0 where
  pub keeps : (s : ℕ) → IsTrue (holds old s) → IsTrue (holds new s)
  pub closed : AllByRecursion (IsKept (holds new)) ms
  pub least : (other : ℕ → Bool) → AllByRecursion (IsKept other) ms
      → ((s : ℕ) → IsTrue (holds old s) → IsTrue (other s))
      → (s : ℕ) → IsTrue (holds new s) → IsTrue (other s)
