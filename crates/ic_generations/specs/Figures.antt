-- Figures of a configuration that add up over its agents, and what each rule changes in them.
use Rattle.std.specs.Prelude.{ℕ, ◌+◌, ◌++◌, List, slice_get, sum_by}
use Rattle.std.specs.List.{flat_map}
use Rattle.std.specs.Option.{option_map_or}
use Rattle.ic_term.specs.Configuration.{Configuration}
use Rattle.ic_term.specs.Symbol.{Symbol}
use Rattle.ic_rules.specs.Rule.{Rule}
use Rattle.ic_confluence.specs.Agents.{symbols, configuration_symbols}

-- the arity of the symbol with this number, or 0 without one
abbrev pub arity_of : List Symbol → ℕ → ℕ
arity_of ss s = option_map_or (λ z. z.arity) (slice_get ss s) 0

-- what all agents of a configuration amount to, each by its symbol
abbrev pub amount : (ℕ → ℕ) → Configuration → ℕ
amount f c = sum_by f (configuration_symbols c)

-- what the agents in the arguments of the rule at a place amount to
abbrev pub amount_made : (ℕ → ℕ) → List Rule → ℕ → ℕ
amount_made f rs i =
    option_map_or (λ r. sum_by f (flat_map symbols (r.left_args ++ r.right_args)))
    (slice_get rs i) 0

-- and what its two sides amount to
abbrev pub amount_spent : (ℕ → ℕ) → List Rule → ℕ → ℕ
amount_spent f rs i = option_map_or (λ r. f r.left + f r.right) (slice_get rs i) 0
