use Rattle.std.proofs.Common.{◌≡◌, ℕ, List, Result, Ok, length, sym, subst}
use Rattle.ic_term.specs.Configuration.{Configuration}
use Rattle.ic_rules.specs.System.{SystemParts}
use Rattle.ic_reaching.specs.OneNet.{OneNet, SameButNext}
use Rattle.ic_reaching.specs.Reaching.{rules_fired}
use Rattle.ic_naming.specs.Naming.{renumbered}
use Rattle.ic_streams.specs.Streams.{line_of}
use Rattle.ic_text.specs.declared.fault.TextFault.{TextFault}
use Rattle.ic_in_place.specs.Reductions.{EndsOf}
use Rattle.ic_in_place_laws.proofs.laws.what_is_told_is_of_the_text.Goals as goal

pub returns-clause-quiet : goal.returns-clause-quiet
returns-clause-quiet c = λ limits bounds asked input line outcome s e kinds tells quiet some reads chain still.
    subst (λ (l : List ℕ). (answer : Configuration) × (l ≡ line_of s.rules.symbols (renumbered answer))
    × OneNet answer e × (length (rules_fired kinds) ≡ outcome.interactions)) (sym tells.2)
    (c.a_line_is_the_net_of_every_order.ensures.net limits bounds asked input tells.0 outcome s e kinds tells.1 quiet some reads chain still)

pub returns-clause-written : goal.returns-clause-written
returns-clause-written c = λ limits bounds asked input line outcome s e kinds tells quiet some reads chain still.
    subst (λ (l : List ℕ). (written : Configuration) × (l ≡ line_of s.rules.symbols written) × SameButNext written e) (sym tells.2)
    (c.a_line_is_the_net_of_every_order.ensures.written limits bounds asked input tells.0 outcome s e kinds tells.1 quiet some reads chain still)

one_system : (s t : SystemParts) → ◌≡◌ {A = Result SystemParts TextFault} (Ok s) (Ok t) → s ≡ t
one_system s t same = cc

pub returns-clause-ends : goal.returns-clause-ends
returns-clause-ends c = λ limits bounds asked input line outcome s is reads.
    subst (λ (t : SystemParts). EndsOf t bounds asked outcome line)
    (one_system is.system s (c.one_system_reading.ensures.answer limits input (Ok is.system) (Ok s) is.reads reads)) is.ends

pub returns-clause-told : goal.returns-clause-told
returns-clause-told c = λ limits bounds asked input outcome s old new tells reads. (
  tells.0,
  subst (λ (t : SystemParts). EndsOf t bounds asked outcome tells.0)
      (one_system tells.1.system s (c.one_system_reading.ensures.answer limits input (Ok tells.1.system) (Ok s) tells.1.reads reads))
      tells.1.ends,
  tells.2,
)

pub returns-clause-line : goal.returns-clause-line
returns-clause-line c = λ limits bounds asked input line s answers reads. (
  answers.0,
  subst (λ (t : SystemParts). EndsOf t bounds asked answers.0 line)
      (one_system answers.1.system s (c.one_system_reading.ensures.answer limits input (Ok answers.1.system) (Ok s) answers.1.reads reads))
      answers.1.ends,
)
