use Rattle.std.proofs.Common.{◌≡◌, ℕ, [], Result, Ok, length, sym, ap, ◌∙◌, subst, arith}
use Rattle.ic_term.specs.Tree.{Pair}
use Rattle.ic_term.specs.Configuration.{Configuration, configuration_names, occurrences}
use Rattle.ic_rules.specs.System.{SystemParts}
use Rattle.ic_round.specs.Rounds.{iterate}
use Rattle.ic_round.specs.Quiet.{IsQuiet}
use Rattle.ic_confluence.specs.Kinds.{Chain}
use Rattle.ic_naming.specs.Naming.{renumbered}
use Rattle.ic_reaching.specs.OneNet.{OneNet, SameButNext}
use Rattle.ic_reaching.specs.Reaching.{rules_fired}
use Rattle.ic_streams.specs.Streams.{line_of}
use Rattle.ic_text.specs.declared.fault.TextFault.{TextFault}
use Rattle.ic_in_place.specs.declared.running.End.{End}
use Rattle.ic_in_place.specs.Reducing.{IsReached}
use Rattle.ic_in_place.specs.Reductions.{line_reached}
use Rattle.ic_in_place.proofs.LowNames.{low_name}
use Rattle.ic_in_place.proofs.Written.{asked_for, nothing_left}
use Rattle.ic_in_place.proofs.laws.a_line_is_the_net_of_every_order.Goals as goal

one_system : (s t : SystemParts) → ◌≡◌ {A = Result SystemParts TextFault} (Ok s) (Ok t) → s ≡ t
one_system s t same = cc

pub returns-clause-net : goal.returns-clause-net
returns-clause-net c = λ limits bounds asked input line outcome s e kinds is quiet some reads chain still.
    let same : is.system ≡ s = one_system is.system s (c.one_system_reading.ensures.answer limits input (Ok is.system) (Ok s) is.reads reads) in
    let reached = subst (λ (x : End). IsReached is.system bounds is.ends.answer x outcome.interactions outcome.by_rule.items) quiet is.ends.reached in
    let every : Chain is.system.rules.rules kinds is.system.config e → IsQuiet is.system.rules.rules e
    → (line ≡ line_of is.system.rules.symbols (renumbered is.ends.answer)) × OneNet is.ends.answer e × (length (rules_fired kinds) ≡ outcome.interactions) =
    (λ chain still.
    let order = c.a_quiet_end_is_that_of_every_order.ensures.every_order is.system bounds is.ends.answer e outcome.interactions outcome.by_rule.items kinds
    is.ends.rule_set is.ends.over is.ends.names reached chain still in
    (is.ends.prints ∙ ap (λ (x : End). line_reached asked x is.system.rules.symbols is.ends.answer) quiet ∙ asked_for asked some _, order.0, order.1)) in
    let all = subst (λ (t : SystemParts). Chain t.rules.rules kinds t.config e → IsQuiet t.rules.rules e
    → (line ≡ line_of t.rules.symbols (renumbered is.ends.answer)) × OneNet is.ends.answer e × (length (rules_fired kinds) ≡ outcome.interactions)) same every chain still in
    (is.ends.answer, all.0, all.1, all.2)

pub returns-clause-written : goal.returns-clause-written
returns-clause-written c = λ limits bounds asked input line outcome s e kinds is quiet some reads chain still.
    let same : is.system ≡ s = one_system is.system s (c.one_system_reading.ensures.answer limits input (Ok is.system) (Ok s) is.reads reads) in
    let reached = subst (λ (x : End). IsReached is.system bounds is.ends.answer x outcome.interactions outcome.by_rule.items) quiet is.ends.reached in
    let written : Configuration = renumbered is.ends.answer in
    let printed : line ≡ line_of is.system.rules.symbols written =
    is.ends.prints ∙ ap (λ (x : End). line_reached asked x is.system.rules.symbols is.ends.answer) quiet ∙ asked_for asked some _ in
    let free = c.free_names_stay.ensures.reached is.system.rules is.system.config is.ends.answer reached.fired is.ends.rule_set is.ends.over is.ends.names reached.reached in
    let low = (λ (x : ℕ) (once : occurrences x (configuration_names is.ends.answer) ≡ 1).
    low_name limits input is.system is.reads x (omega (arith, (free x).1 once))) in
    let numbered : SameButNext is.ends.answer written = c.a_renumbered_net_is_the_same_net.ensures.same is.ends.answer low in
    let every : Chain is.system.rules.rules kinds is.system.config e → IsQuiet is.system.rules.rules e
    → (line ≡ line_of is.system.rules.symbols written) × SameButNext written e =
    (λ chain still.
    let net = (c.what_is_reached_quiet_is_the_end_of_every_order.ensures.every_order is.system.rules is.system.config is.ends.answer e reached.fired kinds
    is.ends.rule_set is.ends.over is.ends.names reached.reached reached.ended.0 chain still).0 in
    (printed, c.where_names_begin_is_no_matter.ensures.through written is.ends.answer e (c.where_names_begin_is_no_matter.ensures.other_way is.ends.answer written numbered) net)) in
    let all = subst (λ (t : SystemParts). Chain t.rules.rules kinds t.config e → IsQuiet t.rules.rules e
    → (line ≡ line_of t.rules.symbols written) × SameButNext written e) same every chain still in
    (written, all.0, all.1)

pub returns-clause-text : goal.returns-clause-text
returns-clause-text c = λ limits bounds asked input line outcome s e kinds is quiet some reads chain still bare.
    let same : is.system ≡ s = one_system is.system s (c.one_system_reading.ensures.answer limits input (Ok is.system) (Ok s) is.reads reads) in
    let reached = subst (λ (x : End). IsReached is.system bounds is.ends.answer x outcome.interactions outcome.by_rule.items) quiet is.ends.reached in
    let printed : line ≡ line_of is.system.rules.symbols (renumbered is.ends.answer) =
    is.ends.prints ∙ ap (λ (x : End). line_reached asked x is.system.rules.symbols is.ends.answer) quiet ∙ asked_for asked some _ in
    let every : Chain is.system.rules.rules kinds is.system.config e → IsQuiet is.system.rules.rules e → line ≡ line_of is.system.rules.symbols (renumbered e) =
    (λ chain still.
    let net = (c.what_is_reached_quiet_is_the_end_of_every_order.ensures.every_order is.system.rules is.system.config is.ends.answer e reached.fired kinds
    is.ends.rule_set is.ends.over is.ends.names reached.reached reached.ended.0 chain still).0 in
    let many = c.where_names_begin_is_all_that_differs.ensures.equations is.ends.answer e net in
    let none : is.ends.answer.equations ≡ [] = nothing_left is.ends.answer.equations (sym many ∙ ap (length {A = Pair}) bare) in
    let one = c.without_equations_every_order_has_one_text.ensures is.system bounds is.ends.answer e outcome.interactions outcome.by_rule.items kinds
    is.ends.rule_set is.ends.over is.ends.names reached none chain still in
    printed ∙ ap (line_of is.system.rules.symbols) one) in
    subst (λ (t : SystemParts). Chain t.rules.rules kinds t.config e → IsQuiet t.rules.rules e → line ≡ line_of t.rules.symbols (renumbered e)) same every chain still

pub returns-clause-counted : goal.returns-clause-counted
returns-clause-counted c = λ limits bounds asked input line outcome s e kinds is quiet reads chain still.
    let same : is.system ≡ s = one_system is.system s (c.one_system_reading.ensures.answer limits input (Ok is.system) (Ok s) is.reads reads) in
    let reached = subst (λ (x : End). IsReached is.system bounds is.ends.answer x outcome.interactions outcome.by_rule.items) quiet is.ends.reached in
    let every : Chain is.system.rules.rules kinds is.system.config e → IsQuiet is.system.rules.rules e → length (rules_fired kinds) ≡ outcome.interactions =
    (λ chain still. (c.a_quiet_end_is_that_of_every_order.ensures.every_order is.system bounds is.ends.answer e outcome.interactions outcome.by_rule.items kinds
    is.ends.rule_set is.ends.over is.ends.names reached chain still).1) in
    subst (λ (t : SystemParts). Chain t.rules.rules kinds t.config e → IsQuiet t.rules.rules e → length (rules_fired kinds) ≡ outcome.interactions) same every chain still

pub returns-clause-rounds : goal.returns-clause-rounds
returns-clause-rounds c = λ limits bounds asked input line outcome s is quiet reads.
    let same : is.system ≡ s = one_system is.system s (c.one_system_reading.ensures.answer limits input (Ok is.system) (Ok s) is.reads reads) in
    let reached = subst (λ (x : End). IsReached is.system bounds is.ends.answer x outcome.interactions outcome.by_rule.items) quiet is.ends.reached in
    let some = c.a_quiet_end_is_that_of_every_order.ensures.some_rounds is.system bounds is.ends.answer outcome.interactions outcome.by_rule.items is.ends.rule_set is.ends.over is.ends.names reached in
    subst (λ (t : SystemParts). (n : ℕ) × IsQuiet t.rules.rules (iterate t.rules.rules n t.config)) same some
