-- How often rules fired, by their plans.
use Rattle.std.specs.Prelude.{◌≡◌, ℕ, ◌+◌, ◌*◌, ◌^◌, ◌<◌, ◌==◌, List, [], ◌∷◌, ◌++◌, length, slice_index_or, if◌then◌else◌}
use Rattle.ic_rules.specs.Rule.{Rule}

-- the sum of the counts of plans of this rule, from a place on
abbrev pub sum_from : ℕ → List ℕ → List ℕ → ℕ → ℕ
sum_from r [] counts k = 0
sum_from r (n ∷ ns) counts k =
    (if n == r then slice_index_or counts k 0 else 0) + sum_from r ns counts (k + 1)

-- Of each of so many rules the counts of its plans are summed, if the sum is below 2^64.
pub record IsSummed (rules : ℕ) (numbers counts by_rule : List ℕ) : Type 0 where
  pub all : length by_rule ≡ rules
  pub each : (r : ℕ) → r < rules → sum_from r numbers counts 0 < 2 ^ 64
      → slice_index_or by_rule r 0 ≡ sum_from r numbers counts 0

-- the equations that rules make that fire so often, from a place on: one for each of their arguments
abbrev pub made_from : List Rule → List ℕ → ℕ → ℕ
made_from [] counts k = 0
made_from (r ∷ rs) counts k =
    slice_index_or counts k 0 * length (r.left_args ++ r.right_args) + made_from rs counts (k + 1)
