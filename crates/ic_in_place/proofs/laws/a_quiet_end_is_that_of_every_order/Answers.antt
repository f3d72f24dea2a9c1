use Rattle.std.proofs.Common.{◌∙◌, sym}
use Rattle.ic_in_place.proofs.Orders.{OrderLaws, every_order_so}
use Rattle.ic_in_place.proofs.laws.a_quiet_end_is_that_of_every_order.Goals as goal

pub returns-clause-every_order : goal.returns-clause-every_order
returns-clause-every_order c =
    let laws : OrderLaws = record {
      itself = c.what_is_reached_is_one_net.ensures.itself;
      net = c.what_is_reached_is_one_net.ensures.net;
      names = c.what_is_reached_is_one_net.ensures.names;
      chain = c.what_is_reached_goes_on.ensures.chain;
      every_order = c.what_is_reached_quiet_is_the_end_of_every_order.ensures.every_order;
    } in
    λ s bounds answer e interactions by_rule kinds set over named is chain still.
    let so = every_order_so laws s.rules s.config answer e is.fired kinds set over named is.reached is.ended.0 chain still in
    (so.0, so.1 ∙ sym is.counted)

pub returns-clause-rounds : goal.returns-clause-rounds
returns-clause-rounds c = λ s bounds answer interactions n by_rule set over named is still.
    c.what_is_reached_quiet_is_the_end_of_every_order.ensures.rounds s.rules n s.config answer is.fired set over named is.reached is.ended.0 still

pub returns-clause-some_rounds : goal.returns-clause-some_rounds
returns-clause-some_rounds c = λ s bounds answer interactions by_rule set over named is.
    c.what_is_reached_quiet_is_the_end_of_every_order.ensures.some_rounds s.rules s.config answer is.fired set over named is.reached is.ended.0
