use Rattle.ic_reaching.proofs.Nets.{net_itself, net_other_way, net_through}
use Rattle.ic_reaching.proofs.laws.one_net_is_an_equivalence.Goals as goal

pub returns-clause-itself : goal.returns-clause-itself
returns-clause-itself c = net_itself (record {
  itself = c.same_is_an_equivalence.ensures.itself;
  other_way = c.same_is_an_equivalence.ensures.other_way;
  names = c.same_nets_take_the_same_name_steps.ensures.names;
  steps = c.same_nets_take_the_same_name_steps.ensures.steps;
})

pub returns-clause-other_way : goal.returns-clause-other_way
returns-clause-other_way c = net_other_way (record {
  itself = c.same_is_an_equivalence.ensures.itself;
  other_way = c.same_is_an_equivalence.ensures.other_way;
  names = c.same_nets_take_the_same_name_steps.ensures.names;
  steps = c.same_nets_take_the_same_name_steps.ensures.steps;
})

pub returns-clause-through : goal.returns-clause-through
returns-clause-through c = net_through (record {
  nets = record {
    itself = c.same_is_an_equivalence.ensures.itself;
    other_way = c.same_is_an_equivalence.ensures.other_way;
    names = c.same_nets_take_the_same_name_steps.ensures.names;
    steps = c.same_nets_take_the_same_name_steps.ensures.steps;
  };
  goes_on = c.every_order_settles_to_the_same_net.ensures.goes_on;
})
