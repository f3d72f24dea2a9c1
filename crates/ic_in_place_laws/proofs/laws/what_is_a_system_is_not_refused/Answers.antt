use Rattle.std.proofs.Common.{◌≡◌, Result, Ok, Err}
use Rattle.ic_rules.specs.System.{SystemParts}
use Rattle.ic_text.specs.declared.fault.TextFault.{TextFault}
use Rattle.ic_in_place_laws.proofs.laws.what_is_a_system_is_not_refused.Goals as goal

no_fault : (s : SystemParts) (fault : TextFault) → ◌≡◌ {A = Result SystemParts TextFault} (Ok s) (Err fault) → ⊥
no_fault s fault same = cc

pub returns-clause-taken : goal.returns-clause-taken
returns-clause-taken c = λ limits bounds asked input s fault reads refused.
    no_fault s fault (c.one_system_reading.ensures.answer limits input (Ok s) (Err fault) reads refused.0)

pub returns-clause-refused : goal.returns-clause-refused
returns-clause-refused c = λ limits bounds asked input fault refused. refused

pub returns-clause-never : goal.returns-clause-never
returns-clause-never c = λ limits bounds asked input fault. ((λ x. x), (λ x. x), (λ x. x), (λ x. x))
