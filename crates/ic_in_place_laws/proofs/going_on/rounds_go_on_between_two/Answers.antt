use Rattle.std.proofs.Common.{◌≡◌, ◌+◌, Result, Ok, subst}
use Rattle.ic_term.specs.Configuration.{Configuration}
use Rattle.ic_rules.specs.System.{SystemParts}
use Rattle.ic_round.specs.Naming.{HasNames}
use Rattle.ic_round.specs.Rounds.{iterate}
use Rattle.ic_reaching.specs.OneNet.{SameButNext, raised}
use Rattle.ic_text.specs.declared.fault.TextFault.{TextFault}
use Rattle.ic_in_place_laws.proofs.GoingOn.{RoundLaws, named_above, net_on, pairs_on, rules_on}
use Rattle.ic_in_place_laws.proofs.going_on.rounds_go_on_between_two.Goals as goal
use Rattle.ic_in_place_laws.proofs.going_on.rounds_go_on_between_two.Goals.{After-a_line_by_rounds_is_the_net_after_them}

laws_of : After-a_line_by_rounds_is_the_net_after_them → RoundLaws
laws_of c = record {
  over = λ rs n d set over. c.chains_are_steps.ensures.over rs d (iterate rs.rules n d) set over (c.rounds_are_steps.ensures.iterate rs.rules n d);
  names = λ rs n d set over named. c.chains_are_steps.ensures.names rs d (iterate rs.rules n d) set over named (c.rounds_are_steps.ensures.iterate rs.rules n d);
  rounds = c.where_names_begin_is_no_matter_to_rounds.ensures.rounds;
  rules = c.where_names_begin_is_no_matter_to_rounds.ensures.rules;
}

one_system : (s t : SystemParts) → ◌≡◌ {A = Result SystemParts TextFault} (Ok s) (Ok t) → s ≡ t
one_system s t same = cc

pub returns-clause-net : goal.returns-clause-net
returns-clause-net c = λ rs n m d e set over named named_too same. net_on (laws_of c) rs n m d e set over named named_too same

pub returns-clause-rules : goal.returns-clause-rules
returns-clause-rules c = λ rs n m d e set over named named_too same. rules_on (laws_of c) rs n m d e set over named named_too same

pub returns-clause-pairs : goal.returns-clause-pairs
returns-clause-pairs c = λ rs n m d e set over named named_too same. pairs_on (laws_of c) rs n m d e set over named named_too same

pub returns-clause-line : goal.returns-clause-line
returns-clause-line c = λ limits most asked input line reached s m is either some reads one.
    let same : is.system ≡ s = one_system is.system s (c.one_system_reading.ensures.answer limits input (Ok is.system) (Ok s) is.reads reads) in
    let written = c.a_line_by_rounds_is_the_net_after_them.ensures.written limits most asked input line reached s is either some reads one in
    let before : HasNames (iterate s.rules.rules reached.rounds s.config) =
    subst (λ (t : SystemParts). HasNames (iterate t.rules.rules reached.rounds t.config)) same
    ((laws_of c).names is.system.rules reached.rounds is.system.config is.ends.rule_set is.ends.over is.ends.names) in
    let above = named_above c.same_nets_take_the_same_name_steps.ensures.names (iterate s.rules.rules reached.rounds s.config) written.0 before written.2 in
    let d : Configuration = raised written.2.others written.0 in
    let on : SameButNext (iterate s.rules.rules reached.rounds s.config) d → SameButNext (iterate s.rules.rules (m + reached.rounds) s.config) (iterate s.rules.rules m d) =
    subst (λ (t : SystemParts). SameButNext (iterate t.rules.rules reached.rounds t.config) d
    → SameButNext (iterate t.rules.rules (m + reached.rounds) t.config) (iterate t.rules.rules m d)) same
    (λ after. net_on (laws_of c) is.system.rules reached.rounds m is.system.config d is.ends.rule_set is.ends.over is.ends.names above.0 after) in
    (d, written.1, above.0, on above.1)
