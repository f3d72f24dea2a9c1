use Rattle.ic_in_place.proofs.MadeRounds.{made_of}
use Rattle.ic_in_place.proofs.RoundsEnough.{EnoughLaws, first as first_needed, later as later_needed, quiet as quiet_then, steps as more_then, within as so_many}
use Rattle.ic_in_place.proofs.laws.rounds_are_made_while_a_step_is_possible.Goals as goal
use Rattle.ic_in_place.proofs.laws.rounds_are_made_while_a_step_is_possible.Goals.{After-what_is_put_together_has_no_name_step}

laws_of : After-what_is_put_together_has_no_name_step → EnoughLaws
laws_of c = record {
  alike = c.same_nets_take_the_same_steps.ensures.quiet;
  other_way = c.one_net_is_an_equivalence.ensures.other_way;
  through = c.one_net_is_an_equivalence.ensures.through;
  equations = c.where_names_begin_is_all_that_differs.ensures.equations;
  itself = c.what_is_reached_is_one_net.ensures.itself;
  net = c.what_is_reached_is_one_net.ensures.net;
  names = c.what_is_reached_is_one_net.ensures.names;
  over = c.what_is_reached_is_one_net.ensures.over;
  interaction = c.what_is_reached_goes_on.ensures.interaction;
  every_order = c.what_is_reached_quiet_is_the_end_of_every_order.ensures.every_order;
  told = c.name_steps_are_those_of_every_order.ensures.told;
  together = c.what_is_put_together_has_no_name_step.ensures;
}

pub returns-clause-within : goal.returns-clause-within
returns-clause-within c = λ limits most asked input line reached is. so_many (laws_of c) is.system most reached.rounds is.ends.answer reached.outcome.end reached.outcome.interactions reached.outcome.by_rule.items reached.outcome.name_steps (made_of limits most asked input line reached is)

pub returns-clause-later : goal.returns-clause-later
returns-clause-later c = λ limits most asked input line reached n is one low. later_needed (laws_of c) is.system most reached.rounds is.ends.answer reached.outcome.end reached.outcome.interactions reached.outcome.by_rule.items reached.outcome.name_steps (made_of limits most asked input line reached is) n one low

pub returns-clause-first : goal.returns-clause-first
returns-clause-first c = λ limits most asked input line reached is one. first_needed (laws_of c) is.system most reached.rounds is.ends.answer reached.outcome.end reached.outcome.interactions reached.outcome.by_rule.items reached.outcome.name_steps (made_of limits most asked input line reached is) one

pub returns-clause-quiet : goal.returns-clause-quiet
returns-clause-quiet c = λ limits most asked input line reached is at some. quiet_then (laws_of c) is.system most reached.rounds is.ends.answer reached.outcome.end reached.outcome.interactions reached.outcome.by_rule.items reached.outcome.name_steps (made_of limits most asked input line reached is) at some

pub returns-clause-steps : goal.returns-clause-steps
returns-clause-steps c = λ limits most asked input line reached is at. more_then (laws_of c) is.system most reached.rounds is.ends.answer reached.outcome.end reached.outcome.interactions reached.outcome.by_rule.items reached.outcome.name_steps (made_of limits most asked input line reached is) at
