use Rattle.ic_nets.proofs.CircleLemmas.{circles_alike, cuts_alike}
use Rattle.ic_nets.proofs.LikeLemmas.{alike_nets}
use Rattle.ic_nets.proofs.PortNames.{one_net}
use Rattle.ic_nets.proofs.laws.alike_nets_settle_to_one.Goals as goal

pub returns-clause-one : goal.returns-clause-one
returns-clause-one c = one_net (record {
  back = c.same_is_an_equivalence.ensures.other_way;
  keep = c.same_nets_take_the_same_name_steps.ensures.names;
  settle = c.same_nets_have_the_same_rounds.ensures.settled;
  ends = c.every_order_settles_to_the_same_net.ensures.settled;
})

pub returns-clause-settled : goal.returns-clause-settled
returns-clause-settled c = alike_nets (record {
  back = c.same_is_an_equivalence.ensures.other_way;
  keep = c.same_nets_take_the_same_name_steps.ensures.names;
  settle = c.same_nets_have_the_same_rounds.ensures.settled;
  ends = c.every_order_settles_to_the_same_net.ensures.settled;
})

pub returns-clause-circle : goal.returns-clause-circle
returns-clause-circle c = circles_alike

pub returns-clause-cut : goal.returns-clause-cut
returns-clause-cut c = cuts_alike
