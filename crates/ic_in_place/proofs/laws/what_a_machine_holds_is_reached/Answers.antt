use Rattle.ic_in_place.proofs.Holding.{HeldLaws, held_so, ends_so}
use Rattle.ic_in_place.proofs.laws.what_a_machine_holds_is_reached.Goals.{After-what_is_reached_is_one_net}
use Rattle.ic_in_place.proofs.laws.what_a_machine_holds_is_reached.Goals as goal

laws : After-what_is_reached_is_one_net → HeldLaws
laws c = record {
  itself = c.what_is_reached_is_one_net.ensures.itself;
  net = c.what_is_reached_is_one_net.ensures.net;
  names = c.what_is_reached_is_one_net.ensures.names;
  begun = c.a_machine_begins_with_its_configuration.ensures.net;
  first = c.a_machine_begins_with_its_configuration.ensures.pieces;
  reached = c.steps_of_pieces_are_steps_of_the_net.ensures.reached;
  kept = c.steps_of_pieces_are_steps_of_the_net.ensures.kept;
  free = c.what_is_reached_has_the_same_free_names.ensures;
  quiet = c.where_all_pairs_are_stuck_the_net_is_quiet.ensures;
}

pub returns-clause-reached : goal.returns-clause-reached
returns-clause-reached c = held_so (laws c)

pub returns-clause-ends : goal.returns-clause-ends
returns-clause-ends c = ends_so (laws c)
