-- Interactions whose fresh names are any that don't occur, so that a name that is gone may be used
-- again.
use Rattle.std.specs.Prelude.{◌≡◌, ℕ, ◌<◌, ◌≤◌, List, [], ◌∷◌, ◌++◌, Some, map, slice_get, IsPermutation}
use Rattle.std.specs.Option.{option_map_or}
use Rattle.ic_term.specs.Tree.{Pair}
use Rattle.ic_term.specs.Configuration.{Configuration, configuration_names, occurrences}
use Rattle.ic_rules.specs.Renaming.{renamed}
use Rattle.ic_rules.specs.Rule.{Rule}
use Rattle.ic_round.specs.Firing.{Active, active_pair, products, count_of}

-- a rule with each name k turned into the k-th of these names
abbrev pub copied : Rule → (ℕ → ℕ) → Rule
copied r names = record r {
  left_args = map (renamed names) r.left_args;
  right_args = map (renamed names) r.right_args;
}

-- the products by the rule at a place with these names
abbrev pub products_with : List Rule → (ℕ → ℕ) → Active → List Pair
products_with rs names a =
    option_map_or (λ r. products (copied r names) a.left a.right) (slice_get rs a.rule) []

-- So many names are fresh where none occurs, no two are one, and each is below the bound.
pub record AreFresh (c : Configuration) (count bound : ℕ) (names : ℕ → ℕ) : Type 0 where
  pub absent : (k : ℕ) → k < count → occurrences (names k) (configuration_names c) ≡ 0
  pub apart : (j k : ℕ) → j < count → k < count → names j ≡ names k → j ≡ k
  pub below : (k : ℕ) → k < count → names k < bound

-- An active equation, wherever it stands among the others, is replaced by its products with these
-- fresh names, by the rule at this place.
pub record Fires (rs : List Rule) (c d : Configuration) (rule : ℕ) : Type 0 where
  pub equation : Pair
  pub others : List Pair
  pub active : Active
  pub names : ℕ → ℕ
  pub given : IsPermutation c.equations (equation ∷ others)
  pub has_rule : active_pair rs equation ≡ Some active
  pub by_rule : active.rule ≡ rule
  pub fresh : AreFresh c (count_of rs rule) d.next names
  pub higher : c.next ≤ d.next
  pub interface : d.interface ≡ c.interface
  pub equations : IsPermutation (products_with rs names active ++ others) d.equations
