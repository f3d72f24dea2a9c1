use Rattle.std.proofs.Common.{[]}
use Rattle.ic_workers.proofs.Given.{StepLaws}
use Rattle.ic_machine.specs.lemmas.InRooms.{steps_in_room}
use Rattle.ic_workers.proofs.Begun.{BeginLaws, alone, begun_hold}
use Rattle.ic_workers.proofs.Ending.{all_has, ran_has}
use Rattle.ic_workers.proofs.Workings.{come_on}
use Rattle.ic_workers.proofs.laws.what_parts_come_to_is_reached.Goals as goal
use Rattle.ic_workers.proofs.laws.what_parts_come_to_is_reached.Goals.{After-a_machine_begins_with_its_configuration}

steps : After-a_machine_begins_with_its_configuration → StepLaws
steps c = record {
  in_room = steps_in_room;
  order = c.steps_that_fire_nothing_keep_the_net.ensures.order;
  linked = c.steps_that_fire_nothing_keep_the_net.ensures.linked;
  reached = c.steps_of_pieces_are_steps_of_the_net.ensures.reached;
  kept = c.steps_of_pieces_are_steps_of_the_net.ensures.kept;
  net = c.what_is_reached_is_one_net.ensures.net;
  names = c.what_is_reached_is_one_net.ensures.names;
  free = c.what_is_reached_has_the_same_free_names.ensures;
}

pub returns-clause-begun : goal.returns-clause-begun
returns-clause-begun c =
    let begin : BeginLaws = record {
      net = c.a_machine_begins_with_its_configuration.ensures.net;
      pieces = c.a_machine_begins_with_its_configuration.ensures.pieces;
      itself = c.what_is_reached_is_one_net.ensures.itself;
    } in
    λ rs p d given plan operands m b named plans few is_plan stands start starts separate arities none two.
    begun_hold begin (steps c) rs [] p d given plan operands m b named plans few is_plan stands start starts separate arities none (λ x. alone m b x (two x))

pub returns-clause-all : goal.returns-clause-all
returns-clause-all c = all_has (steps c)

pub returns-clause-ran : goal.returns-clause-ran
returns-clause-ran c = ran_has (steps c)

pub returns-clause-further : goal.returns-clause-further
returns-clause-further c = come_on
