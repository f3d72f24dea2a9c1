-- What the results of a plan's works, in whatever order they come, are good for.
use Rattle.std.specs.Prelude.{◌≡◌, List, Ok}
use Rattle.ic_term.specs.Configuration.{Configuration, IsConfiguration}
use Rattle.ic_rules.specs.Rule.{Rule}
use Rattle.ic_round.specs.Firing.{fired}
use Rattle.ic_settle.specs.Settling.{settled}
use Rattle.ic_round.specs.Rounds.{round, unless_unfit}
use Rattle.ic_round.specs.Works.{PlainFired}
use Rattle.ic_round.specs.Gathering.{Gapped, gathered}

-- The results fill the gaps. What comes of it is a configuration. Settled, it is the round, which
-- is what is answered.
pub record Completes (rs : List Rule) (c : Configuration) (rest : Gapped)
    (fs : List PlainFired) : Type 0 where
  pub gathers : gathered rest fs ≡ Ok (fired rs c)
  pub valid : (d : Configuration) → gathered rest fs ≡ Ok d → IsConfiguration d
  pub settles : (d : Configuration) → Ok d ≡ gathered rest fs → settled d ≡ round rs c
  pub answer : (d : Configuration) → Ok d ≡ gathered rest fs
      → Ok (settled d) ≡ unless_unfit rs c (round rs c)
