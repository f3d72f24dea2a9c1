-- Interactions one after another, and the equations that they replace.
use Rattle.std.specs.Prelude.{◌≡◌, ℕ, List, [], ◌∷◌, filter, is_some}
use Rattle.ic_term.specs.Tree.{Pair}
use Rattle.ic_term.specs.Configuration.{Configuration}
use Rattle.ic_rules.specs.Rule.{Rule}
use Rattle.ic_round.specs.Firing.{active_pair}
use Rattle.ic_round.specs.Steps.{Interaction}

-- the active equations of a configuration, in their order
abbrev pub active_equations : List Rule → Configuration → List Pair
active_equations rs c = filter (λ p. is_some (active_pair rs p)) c.equations

-- Interactions lead from one configuration to another, one for each of these equations, in this
-- order, and no other.
abbrev pub Interactions : List Rule → List Pair → Configuration → Configuration → Type 0
Interactions rs [] c d = c ≡ d
Interactions rs (p ∷ ps) c e =
    (d : Configuration) × (place : ℕ) × (step : Interaction rs c d place) × (step.equation ≡ p)
    × Interactions rs ps d e
