use Rattle.ic_reaching.proofs.Nets.{from_same, from_step, from_next, least}
use Rattle.ic_reaching.proofs.laws.a_name_step_leads_to_one_net.Goals as goal

pub returns-clause-same : goal.returns-clause-same
returns-clause-same c = from_same (record {
  itself = c.same_is_an_equivalence.ensures.itself;
  other_way = c.same_is_an_equivalence.ensures.other_way;
  names = c.same_nets_take_the_same_name_steps.ensures.names;
  steps = c.same_nets_take_the_same_name_steps.ensures.steps;
})

pub returns-clause-step : goal.returns-clause-step
returns-clause-step c = from_step (record {
  itself = c.same_is_an_equivalence.ensures.itself;
  other_way = c.same_is_an_equivalence.ensures.other_way;
  names = c.same_nets_take_the_same_name_steps.ensures.names;
  steps = c.same_nets_take_the_same_name_steps.ensures.steps;
})

pub returns-clause-next : goal.returns-clause-next
returns-clause-next c = from_next (record {
  itself = c.same_is_an_equivalence.ensures.itself;
  other_way = c.same_is_an_equivalence.ensures.other_way;
  names = c.same_nets_take_the_same_name_steps.ensures.names;
  steps = c.same_nets_take_the_same_name_steps.ensures.steps;
})

pub returns-clause-least : goal.returns-clause-least
returns-clause-least c = least
