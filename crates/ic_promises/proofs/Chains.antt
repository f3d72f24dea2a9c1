-- Chains of steps, one step or the settling longer.
use Rattle.std.proofs.Common.{◌≡◌, ℕ, List, sym, subst}
use Rattle.ic_term.specs.Configuration.{Configuration}
use Rattle.ic_rules.specs.Rule.{Rule}
use Rattle.ic_settle.specs.Settling.{settled}
use Rattle.ic_round.specs.Steps.{Interaction, interaction, Steps, then_step}
use Rattle.ic_round.specs.lemmas.StepsLemmas.{settled_reached}

pub fired_after : (rs : List Rule) (c d e : Configuration) (place : ℕ) → Steps rs c d
    → Interaction rs d e place → Steps rs c e
fired_after rs c d e place steps i = then_step c d e steps (interaction d e place i)

pub settled_after : (rs : List Rule) (c d e : Configuration) → Steps rs c d → e ≡ settled d
    → Steps rs c e
settled_after rs c d e steps is =
    let P : Configuration → Type 0 = λ x. Steps rs c x in
    subst P (sym is) (settled_reached rs c d steps)
