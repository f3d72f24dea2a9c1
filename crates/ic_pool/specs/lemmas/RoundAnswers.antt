-- A round whose works are made is one that is answered.
use Rattle.std.proofs.Common.{◌≡◌, List, Bool, true, false, Result, Ok, Err, cond, refl, ap, ◌∙◌}
use Rattle.ic_term.specs.Configuration.{Configuration}
use Rattle.ic_rules.specs.Rule.{Rule}
use Rattle.ic_round.specs.Firing.{fired}
use Rattle.ic_round.specs.Settling.{settled}
use Rattle.ic_round.specs.Rounds.{round, fits, is_small, names_suffice, unless_unfit}
use Rattle.ic_round.specs.declared.round_fault.RoundFault.{RoundFault}
use Rattle.ic_round.specs.declared.round_fault.RoundFault.TheVariants.{Overgrown, NamesOut}
use Rattle.ic_pool.specs.declared.fault.PoolFault.TheVariants as PoolFault
use Rattle.ic_pool.specs.Workers.{round_or_refusal}

abbrev answer_if : {T : Type 0} → Bool → Bool → T → Result T RoundFault
answer_if small named value = cond small (cond named (Ok value) (Err NamesOut)) (Err Overgrown)

both_tests : {T : Type 0} (small named : Bool) (a b : T) → Ok a ≡ answer_if small named b → ((small ≡ true) × (named ≡ true)) × (a ≡ b)
both_tests true true a b e = ((refl, refl), cc)
both_tests true false a b e = cc
both_tests false named a b e = cc

pub planned_fits : {T : Type 0} (rs : List Rule) (c : Configuration) (a b : T) → Ok a ≡ unless_unfit rs c b → (is_small rs c ≡ true) × (names_suffice rs c ≡ true)
planned_fits rs c a b e = (both_tests (is_small rs c) (names_suffice rs c) a b e).0

-- what is answered where the configuration fits
pub planned_is : {T : Type 0} (rs : List Rule) (c : Configuration) (a b : T) → Ok a ≡ unless_unfit rs c b → a ≡ b
planned_is rs c a b e = (both_tests (is_small rs c) (names_suffice rs c) a b e).1

-- where the configuration fits, its fired one settled is what is answered
pub round_answered : (rs : List Rule) (c d e : Configuration) → (is_small rs c ≡ true) × (names_suffice rs c ≡ true) → d ≡ fired rs c → e ≡ settled d → Ok e ≡ round_or_refusal rs c
round_answered rs c d e fit made is = rw (fit.0, fit.1) (ap (λ (r : Configuration). Ok r) (is ∙ ap settled made))

answered_at : (small named : Bool) (d e : Configuration) → Ok d ≡ (cond small (cond named (Ok e) (Err PoolFault.NamesOut)) (Err PoolFault.Overgrown))
    → ((small ≡ true) × (named ≡ true)) × (d ≡ e)
answered_at true true d e same = ((refl, refl), cc)
answered_at true false d e same = cc
answered_at false named d e same = cc

-- what was answered is the round, and the configuration fits
pub round_given : (rs : List Rule) (c d : Configuration) → Ok d ≡ round_or_refusal rs c → (fits rs c ≡ true) × (d ≡ round rs c)
round_given rs c d e =
    let at = answered_at (is_small rs c) (names_suffice rs c) d (round rs c) e in
    (rw (at.0.0, at.0.1) refl, at.1)
