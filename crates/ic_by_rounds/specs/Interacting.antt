-- How many steps of a chain are interactions.
use Rattle.std.specs.Prelude.{ℕ, suc, List}
use Rattle.ic_term.specs.Configuration.{Configuration}
use Rattle.ic_rules.specs.Rule.{Rule}
use Rattle.ic_round.specs.Steps.{Step, interaction, indirection, collect, Steps, no_steps, then_step}

-- one more where the step is an interaction
abbrev pub counted_with : (rs : List Rule) (c d : Configuration) → Step rs c d → ℕ → ℕ
counted_with rs c d (interaction x y place is) n = suc n
counted_with rs c d (indirection x y place is) n = n
counted_with rs c d (collect x y place is) n = n

-- how many steps of a chain are interactions
abbrev pub interactions_of : (rs : List Rule) (c d : Configuration) → Steps rs c d → ℕ
interactions_of rs c d (no_steps x) = 0
interactions_of rs c d (then_step x y z steps step) =
    counted_with rs y z step (interactions_of rs x y steps)
