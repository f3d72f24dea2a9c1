use Rattle.std.proofs.Common.{◌≡◌, ◌∙◌, ◌++◌, List, ℕ, Result, Ok, Err, ap, subst}
use Rattle.ic_rules.specs.System.{SystemParts}
use Rattle.ic_text.specs.declared.fault.TextFault.{TextFault}
use Rattle.ic_text.specs.declared.limits.Limits.TheVariants.{Served}
use Rattle.ic_round.specs.Rounds.{round, unless_unfit}
use Rattle.ic_round.specs.declared.round_fault.RoundFault.{RoundFault}
use Rattle.ic_exact.proofs.answered.settle_and_once_write_so.Goals as goal

-- the round of what is read is refused with this fault
abbrev IsUnfitRound : RoundFault → Result SystemParts TextFault → Type 0
IsUnfitRound fault (Ok s) = unless_unfit s.rules.rules s.config (round s.rules.rules s.config) ≡ Err fault
IsUnfitRound fault (Err other) = Unit {0}

pub returns-clause-settled : goal.returns-clause-settled
returns-clause-settled c = λ text before after done symbols d is reads.
    let it = is.written in
    it.2 ∙ ap (λ (l : List ℕ). before ++ l) (c.what_is_answered_is_of_the_text.ensures.settled text it.0 symbols d reads it.1)

pub returns-clause-rounded : goal.returns-clause-rounded
returns-clause-rounded c = λ text before after done s is reads.
    let it = is.written in
    it.2 ∙ ap (λ (l : List ℕ). before ++ l) (c.what_is_answered_is_of_the_text.ensures.rounded text it.0 s reads it.1).1

pub returns-clause-unsettled : goal.returns-clause-unsettled
returns-clause-unsettled c = λ text fault old new is. is.refused.0

pub returns-clause-unrounded : goal.returns-clause-unrounded
returns-clause-unrounded c = λ text fault old new is. is.refused.0

pub returns-clause-unfit : goal.returns-clause-unfit
returns-clause-unfit c = λ text fault s old new is reads.
    let it = is.refused in
    subst (IsUnfitRound fault) (c.one_system_reading.ensures.answer Served text (Ok it.system) (Ok s) it.reads reads) it.refused

pub returns-clause-read : goal.returns-clause-read
returns-clause-read c = λ text fault old new is. (is.refused.system, is.refused.reads)

pub returns-clause-no_round : goal.returns-clause-no_round
returns-clause-no_round c = λ text fault old new is. is.refused
