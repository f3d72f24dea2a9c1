-- Rounds of the calculus (this project's choice).
use Rattle.std.specs.Prelude.{ℕ, zero, suc, ◌&&◌, List, Bool, Result, Ok, Err, nat_le, if◌then◌else◌}
use Rattle.ic_term.specs.Configuration.{Configuration, configuration_nodes}
use Rattle.ic_term.specs.declared.limits.TheConstants.{MAX_NODES, MAX_NEXT}
use Rattle.ic_rules.specs.Rule.{Rule}
use Rattle.ic_round.specs.Firing.{fired}
use Rattle.ic_settle.specs.Settling.{settled}
use Rattle.ic_round.specs.declared.round_fault.RoundFault.{RoundFault}
use Rattle.ic_round.specs.declared.round_fault.RoundFault.TheVariants.{Overgrown, NamesOut}

-- A round fires every equation that is active at its start, and then settles.
abbrev pub round : List Rule → Configuration → Configuration
round rs c = settled (fired rs c)

-- the nodes of the fired configuration are within the limit
abbrev pub is_small : List Rule → Configuration → Bool
is_small rs c = nat_le (configuration_nodes (fired rs c)) MAX_NODES

-- the names of the fired configuration are within the limit
abbrev pub names_suffice : List Rule → Configuration → Bool
names_suffice rs c = nat_le (fired rs c).next MAX_NEXT

-- A configuration fits where its fired one, before settling, is within the limits.
abbrev pub fits : List Rule → Configuration → Bool
fits rs c = is_small rs c && names_suffice rs c

-- the value, or the first refusal of a round
abbrev pub unless_unfit : {T : Type 0} → List Rule → Configuration → T → Result T RoundFault
unless_unfit rs c value =
    if is_small rs c then (if names_suffice rs c then Ok value else Err NamesOut)
    else Err Overgrown

-- the configuration after so many rounds
abbrev pub iterate : List Rule → ℕ → Configuration → Configuration
iterate rs zero c = c
iterate rs (suc n) c = round rs (iterate rs n c)
