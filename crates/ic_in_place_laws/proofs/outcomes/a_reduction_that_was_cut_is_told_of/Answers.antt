use Rattle.std.proofs.Common.{◌++◌, subst, arith}
use Rattle.std.proofs.lemmas.List.{length-append}
use Rattle.ic_rules.specs.RuleSet.{Rules}
use Rattle.ic_round.specs.Quiet.{IsQuiet}
use Rattle.ic_reaching.specs.Reaching.{Reaches, rules_fired}
use Rattle.ic_in_place_laws.proofs.Again.{as_many, quiet_end}
use Rattle.ic_in_place_laws.proofs.outcomes.a_reduction_that_was_cut_is_told_of.Goals as goal

pub returns-clause-reached : goal.returns-clause-reached
returns-clause-reached c = λ s t bounds more asked then cut last line after first rules net second.
    let a = first.reached in
    let b = second.reached in
    let middle = c.what_is_reached_is_one_net.ensures.net s.rules.rules s.config first.answer t.config a.fired a.reached net in
    let onward = subst (λ (r : Rules). Reaches r.rules t.config second.answer b.fired) rules b.reached in
    let many = length-append a.fired b.fired in (
      a.fired ++ b.fired,
      c.what_is_reached_goes_on.ensures.reached s.rules s.config t.config second.answer a.fired b.fired first.rule_set first.over first.names middle onward,
      omega (arith, many, a.counted, b.counted),
    )

pub returns-clause-every_order : goal.returns-clause-every_order
returns-clause-every_order c = λ s t bounds more asked then cut last line after e kinds first rules net second quiet chain still.
    let a = first.reached in
    let b = second.reached in
    let middle = c.what_is_reached_is_one_net.ensures.net s.rules.rules s.config first.answer t.config a.fired a.reached net in
    let onward = subst (λ (r : Rules). Reaches r.rules t.config second.answer b.fired) rules b.reached in
    let all = c.what_is_reached_goes_on.ensures.reached s.rules s.config t.config second.answer a.fired b.fired first.rule_set first.over first.names middle onward in
    let ended = subst (λ (r : Rules). IsQuiet r.rules second.answer) rules (quiet_end t more second.answer last.interactions last.end b.ended quiet) in
    let so = c.what_is_reached_quiet_is_the_end_of_every_order.ensures.every_order s.rules s.config second.answer e (a.fired ++ b.fired) kinds
    first.rule_set first.over first.names all ended chain still in
    let many = length-append a.fired b.fired in
    (so.0, omega (arith, as_many (a.fired ++ b.fired) (rules_fired kinds) so.1, many, a.counted, b.counted))
