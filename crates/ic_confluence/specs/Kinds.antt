-- The kinds of steps, and chains of steps with their kinds in order.
use Rattle.std.specs.Prelude.{◌≡◌, ℕ, suc, List, [], ◌∷◌}
use Rattle.ic_term.specs.Configuration.{Configuration}
use Rattle.ic_rules.specs.Rule.{Rule}
use Rattle.ic_settle.specs.NameSteps.{NameStep}
use Rattle.ic_round.specs.Steps.{Interaction}

-- A step puts a term for a name (indirection or collect), or fires an equation by the rule at this
-- place among the rules.
pub data Kind : Type 0 where
  naming : Kind
  firing : ℕ → Kind

-- one step of this kind
abbrev pub StepOf : List Rule → Kind → Configuration → Configuration → Type 0
StepOf rs naming c d = NameStep c d
StepOf rs (firing i) c d =
    (place : ℕ) × (step : Interaction rs c d place) × (step.active.rule ≡ i)

-- steps of these kinds, one after another
abbrev pub Chain : List Rule → List Kind → Configuration → Configuration → Type 0
Chain rs [] c d = c ≡ d
Chain rs (k ∷ ks) c d = (e : Configuration) × StepOf rs k c e × Chain rs ks e d

-- how many of them fire an equation
abbrev pub firings : List Kind → ℕ
firings [] = 0
firings (naming ∷ ks) = firings ks
firings (firing i ∷ ks) = suc (firings ks)
