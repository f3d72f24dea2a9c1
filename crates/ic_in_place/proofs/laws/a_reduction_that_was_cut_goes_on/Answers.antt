use Rattle.std.proofs.Common.{◌++◌, arith, subst}
use Rattle.std.proofs.lemmas.List.{length-append}
use Rattle.ic_rules.specs.RuleSet.{Rules}
use Rattle.ic_round.specs.Quiet.{IsQuiet}
use Rattle.ic_reaching.specs.Reaching.{Reaches}
use Rattle.ic_in_place.proofs.Orders.{OrderLaws, every_order_so, reached_through}
use Rattle.ic_in_place.proofs.laws.a_reduction_that_was_cut_goes_on.Goals as goal

pub returns-clause-reached : goal.returns-clause-reached
returns-clause-reached c =
    let laws : OrderLaws = record {
      itself = c.what_is_reached_is_one_net.ensures.itself;
      net = c.what_is_reached_is_one_net.ensures.net;
      names = c.what_is_reached_is_one_net.ensures.names;
      chain = c.what_is_reached_goes_on.ensures.chain;
      every_order = c.what_is_reached_quiet_is_the_end_of_every_order.ensures.every_order;
    } in
    λ s t bounds more middle answer end last i j p q set over named cut rules net is.
    let first : Reaches s.rules.rules s.config t.config cut.fired = laws.net s.rules.rules s.config middle t.config cut.fired cut.reached net in
    let second : Reaches s.rules.rules t.config answer is.fired = subst (λ (r : Rules). Reaches r.rules t.config answer is.fired) rules is.reached in
    let many = length-append cut.fired is.fired in (
      cut.fired ++ is.fired,
      reached_through laws s.rules s.config t.config answer cut.fired is.fired set over named first second,
      omega (arith, many, cut.counted, is.counted),
    )

pub returns-clause-every_order : goal.returns-clause-every_order
returns-clause-every_order c =
    let laws : OrderLaws = record {
      itself = c.what_is_reached_is_one_net.ensures.itself;
      net = c.what_is_reached_is_one_net.ensures.net;
      names = c.what_is_reached_is_one_net.ensures.names;
      chain = c.what_is_reached_goes_on.ensures.chain;
      every_order = c.what_is_reached_quiet_is_the_end_of_every_order.ensures.every_order;
    } in
    λ s t bounds more middle answer e end i j p q kinds set over named cut rules net is chain still.
    let first : Reaches s.rules.rules s.config t.config cut.fired = laws.net s.rules.rules s.config middle t.config cut.fired cut.reached net in
    let second : Reaches s.rules.rules t.config answer is.fired = subst (λ (r : Rules). Reaches r.rules t.config answer is.fired) rules is.reached in
    let both = reached_through laws s.rules s.config t.config answer cut.fired is.fired set over named first second in
    let so = every_order_so laws s.rules s.config answer e (cut.fired ++ is.fired) kinds set over named both
    (subst (λ (r : Rules). IsQuiet r.rules answer) rules is.ended.0) chain still in
    let many = length-append cut.fired is.fired in
    (so.0, omega (arith, so.1, many, cut.counted, is.counted))
