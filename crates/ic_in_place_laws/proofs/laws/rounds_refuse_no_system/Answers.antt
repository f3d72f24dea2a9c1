use Rattle.std.proofs.Common.{ℕ, List, Err}
use Rattle.std.specs.Prelude.{◌↔◌}
use Rattle.ic_streams.specs.declared.fault.StreamFault.{StreamFault}
use Rattle.ic_streams.specs.declared.fault.StreamFault.TheVariants.{Read, Text, Round, Memory, Write}
use Rattle.ic_text.specs.declared.limits.Limits.{Limits}
use Rattle.ic_in_place.specs.Reductions.{ReducesInPlace}
use Rattle.ic_in_place.specs.Rounds.{ReducesByRounds}
use Rattle.ic_in_place.specs.declared.running.Bounds.{Bounds}
use Rattle.ic_in_place.specs.declared.stream.Asked.{Asked}
use Rattle.ic_in_place.specs.declared.stream.Asked.TheVariants.{Nothing}
use Rattle.ic_in_place_laws.proofs.laws.rounds_refuse_no_system.Goals as goal

none : Bounds
none = record { steps = 0; nodes = 0 }

pub returns-clause-taken : goal.returns-clause-taken
returns-clause-taken c = λ limits most asked input s fault. c.what_is_a_system_is_not_refused.ensures.taken limits none asked input s fault

pub returns-clause-traced : goal.returns-clause-traced
returns-clause-traced c = λ limits most format input s fault before after. c.what_is_a_system_is_not_refused.ensures.taken limits none Nothing input s fault

alike : (limits : Limits) (bounds : Bounds) (most : ℕ) (asked : Asked) (input : List ℕ) (fault : StreamFault)
    → ReducesByRounds limits most asked input (Err fault) ↔ ReducesInPlace limits bounds asked input (Err fault)
alike limits bounds most asked input (Text fault) = ((λ x. x), (λ x. x))
alike limits bounds most asked input (Round fault) = ((λ x. x), (λ x. x))
alike limits bounds most asked input Read = ((λ x. x), (λ x. x))
alike limits bounds most asked input Memory = ((λ x. x), (λ x. x))
alike limits bounds most asked input Write = ((λ x. x), (λ x. x))

pub returns-clause-alike : goal.returns-clause-alike
returns-clause-alike c = alike
