use Rattle.ic_workers.proofs.Given.{NetLaws, StepLaws}
use Rattle.ic_machine.specs.lemmas.InRooms.{steps_in_room}
use Rattle.ic_workers.proofs.Handing.{shared, shipped_on_parts}
use Rattle.ic_workers.proofs.Gathered.{gathered}
use Rattle.ic_workers.proofs.laws.what_a_part_sends_stays_one_net.Goals as goal
use Rattle.ic_workers.proofs.laws.what_a_part_sends_stays_one_net.Goals.{After-what_is_reached_has_the_same_free_names}

laws : After-what_is_reached_has_the_same_free_names → NetLaws
laws c = record {
  itself = c.one_net_is_an_equivalence.ensures.itself;
  other_way = c.one_net_is_an_equivalence.ensures.other_way;
  through = c.one_net_is_an_equivalence.ensures.through;
  next = c.a_name_step_leads_to_one_net.ensures.next;
  order = c.the_order_of_equations_is_no_matter.ensures.order;
  turned = c.the_order_of_equations_is_no_matter.ensures.turned;
  anywhere = c.a_piece_is_put_for_its_name.ensures.anywhere;
  in_one = c.a_piece_is_put_for_its_name.ensures.equation;
}

steps : After-what_is_reached_has_the_same_free_names → StepLaws
steps c = record {
  in_room = steps_in_room;
  order = c.steps_that_fire_nothing_keep_the_net.ensures.order;
  linked = c.steps_that_fire_nothing_keep_the_net.ensures.linked;
  reached = c.steps_of_pieces_are_steps_of_the_net.ensures.reached;
  kept = c.steps_of_pieces_are_steps_of_the_net.ensures.kept;
  net = c.what_is_reached_is_one_net.ensures.net;
  names = c.what_is_reached_is_one_net.ensures.names;
  free = c.what_is_reached_has_the_same_free_names.ensures;
}

pub returns-clause-given : goal.returns-clause-given
returns-clause-given c = shared (laws c) (steps c)

pub returns-clause-shipped : goal.returns-clause-shipped
returns-clause-shipped c = shipped_on_parts (laws c) (steps c)

pub returns-clause-gathered : goal.returns-clause-gathered
returns-clause-gathered c = gathered (laws c) (steps c)
