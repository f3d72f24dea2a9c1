use Rattle.std.proofs.Common.{◌≡◌, ◌≤◌, ℕ, Result, Ok, subst, arith}
use Rattle.ic_term.specs.Configuration.{Configuration, configuration_names, occurrences}
use Rattle.ic_rules.specs.System.{SystemParts}
use Rattle.ic_round.specs.Rounds.{iterate}
use Rattle.ic_naming.specs.Naming.{renumbered}
use Rattle.ic_reaching.specs.OneNet.{OneNet, SameButNext}
use Rattle.ic_streams.specs.Streams.{line_of}
use Rattle.ic_text.specs.declared.fault.TextFault.{TextFault}
use Rattle.ic_text.specs.declared.limits.TheConstants.{MAX_NAME}
use Rattle.ic_in_place.proofs.LowNames.{low_name}
use Rattle.ic_in_place.proofs.LineByRounds.{LineLaws, printed, net, same}
use Rattle.ic_in_place.proofs.MadeRounds.{made_of}
use Rattle.ic_in_place.proofs.laws.a_line_by_rounds_is_the_net_after_them.Goals as goal

one_system : (s t : SystemParts) → ◌≡◌ {A = Result SystemParts TextFault} (Ok s) (Ok t) → s ≡ t
one_system s t same = cc

pub returns-clause-net : goal.returns-clause-net
returns-clause-net c =
    let laws : LineLaws = record {
      through = c.one_net_is_an_equivalence.ensures.through;
      other_way = c.one_net_is_an_equivalence.ensures.other_way;
      itself = c.same_is_an_equivalence.ensures.itself;
      same = c.where_names_begin_is_no_matter.ensures.same;
    } in
    let together = c.what_is_put_together_has_no_name_step.ensures in
    λ limits most asked input line reached s is either some reads.
    let system : is.system ≡ s = one_system is.system s (c.one_system_reading.ensures.answer limits input (Ok is.system) (Ok s) is.reads reads) in
    let answer = is.ends.answer in
    subst (λ (t : SystemParts). (d : Configuration) × (line ≡ line_of t.rules.symbols (renumbered d)) × OneNet d (iterate t.rules.rules reached.rounds t.config)
    × (1 ≤ reached.rounds → SameButNext d (iterate t.rules.rules reached.rounds t.config))) system (
      answer,
      printed limits most asked input line reached is either some,
      net laws together is.system most reached.rounds is.ends.answer reached.outcome.end reached.outcome.interactions reached.outcome.by_rule.items reached.outcome.name_steps (made_of limits most asked input line reached is) either,
      same laws together is.system most reached.rounds is.ends.answer reached.outcome.end reached.outcome.interactions reached.outcome.by_rule.items reached.outcome.name_steps (made_of limits most asked input line reached is) either,
    )

pub returns-clause-written : goal.returns-clause-written
returns-clause-written c =
    let laws : LineLaws = record {
      through = c.one_net_is_an_equivalence.ensures.through;
      other_way = c.one_net_is_an_equivalence.ensures.other_way;
      itself = c.same_is_an_equivalence.ensures.itself;
      same = c.where_names_begin_is_no_matter.ensures.same;
    } in
    let together = c.what_is_put_together_has_no_name_step.ensures in
    λ limits most asked input line reached s is either some reads one.
    let system : is.system ≡ s = one_system is.system s (c.one_system_reading.ensures.answer limits input (Ok is.system) (Ok s) is.reads reads) in
    let answer = is.ends.answer in
    let written : Configuration = renumbered answer in
    let free = c.free_names_stay.ensures.reached is.system.rules is.system.config answer is.ends.reached.fired is.ends.rule_set is.ends.over is.ends.names is.ends.reached.reached in
    let low : (x : ℕ) → occurrences x (configuration_names answer) ≡ 1 → x ≤ MAX_NAME =
    λ x once. low_name limits input is.system is.reads x (let here = (free x).1 once in omega (arith, here)) in
    let numbered : SameButNext answer written = c.a_renumbered_net_is_the_same_net.ensures.same answer low in
    let net : SameButNext answer (iterate is.system.rules.rules reached.rounds is.system.config) = same laws together is.system most reached.rounds is.ends.answer reached.outcome.end reached.outcome.interactions reached.outcome.by_rule.items reached.outcome.name_steps (made_of limits most asked input line reached is) either one in
    let turned = c.where_names_begin_is_no_matter.ensures.other_way answer (iterate is.system.rules.rules reached.rounds is.system.config) net in
    let all = c.where_names_begin_is_no_matter.ensures.through (iterate is.system.rules.rules reached.rounds is.system.config) answer written turned numbered in
    subst (λ (t : SystemParts). (d : Configuration) × (line ≡ line_of t.rules.symbols d) × SameButNext (iterate t.rules.rules reached.rounds t.config) d) system
    (written, printed limits most asked input line reached is either some, all)
