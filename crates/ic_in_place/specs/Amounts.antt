-- What rounds make and spend of what agents amount to, each by its symbol.
use Rattle.std.specs.Prelude.{ℕ, ◌+◌, ◌*◌, List, [], ◌∷◌, map, sum_by}
use Rattle.ic_rules.specs.Rule.{Rule}
use Rattle.ic_generations.specs.Figures.{amount_made, amount_spent}
use Rattle.ic_meaning.specs.Plans.{rule_number}

-- what the rules make of all plans that fired, round by round
abbrev pub all_made : (ℕ → ℕ) → List Rule → List ℕ → List (List ℕ) → ℕ
all_made f rs numbers made =
    sum_by (λ fired. sum_by (amount_made f rs) (map (rule_number numbers) fired)) made

-- and what they spend
abbrev pub all_spent : (ℕ → ℕ) → List Rule → List ℕ → List (List ℕ) → ℕ
all_spent f rs numbers made =
    sum_by (λ fired. sum_by (amount_spent f rs) (map (rule_number numbers) fired)) made

-- what plans amount to that fired so often, from a place on, each by the number of its rule
abbrev pub by_counts : (ℕ → ℕ) → (numbers counts : List ℕ) → ℕ → ℕ
by_counts g numbers [] k = 0
by_counts g numbers (n ∷ counts) k =
    n * g (rule_number numbers k) + by_counts g numbers counts (k + 1)
