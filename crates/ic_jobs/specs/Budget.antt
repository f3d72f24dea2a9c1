-- Budgets: the greatest number of rounds that a job makes.
use Rattle.std.specs.Prelude.{◌≤◌, ◌==◌, ℕ, Bool, false, Option, None, Some}
use Rattle.std.specs.Option.{option_eq}
use Rattle.ic_jobs.specs.declared.limits.TheConstants.{MAX_BUDGET}

-- What each budget keeps.
pub record IsBudget (n : ℕ) : Type 0 where
  pub some : 1 ≤ n
  pub few : n ≤ MAX_BUDGET

-- whether a job of this budget, or of none, has used it up by so many rounds
abbrev pub is_used_up : Option ℕ → ℕ → Bool
is_used_up None rounds = false
is_used_up (Some budget) rounds = rounds == budget

-- whether two jobs have the same budget, or none
abbrev pub budget_eq : Option ℕ → Option ℕ → Bool
budget_eq = option_eq (λ a b. a == b)
