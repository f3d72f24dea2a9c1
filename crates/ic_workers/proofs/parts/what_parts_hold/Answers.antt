use Rattle.std.proofs.Common.{[]}
use Rattle.ic_machine.specs.lemmas.InRooms.{steps_in_room}
use Rattle.ic_workers.proofs.Begun.{BeginLaws, alone, begun_hold}
use Rattle.ic_workers.proofs.Given.{StepLaws}
use Rattle.ic_workers.proofs.Holding.{one_runs, other_end}
use Rattle.ic_workers.proofs.Whole.{alone_no_ends, whole_holds}
use Rattle.ic_workers.proofs.parts.what_parts_hold.Goals as goal

pub returns-clause-begun : goal.returns-clause-begun
returns-clause-begun c =
    let begin : BeginLaws = record {
      net = c.a_machine_begins_with_its_configuration.ensures.net;
      pieces = c.a_machine_begins_with_its_configuration.ensures.pieces;
      itself = c.what_is_reached_is_one_net.ensures.itself;
    } in
    let steps : StepLaws = record {
      in_room = steps_in_room;
      order = c.steps_that_fire_nothing_keep_the_net.ensures.order;
      linked = c.steps_that_fire_nothing_keep_the_net.ensures.linked;
      reached = c.steps_of_pieces_are_steps_of_the_net.ensures.reached;
      kept = c.steps_of_pieces_are_steps_of_the_net.ensures.kept;
      net = c.what_is_reached_is_one_net.ensures.net;
      names = c.what_is_reached_is_one_net.ensures.names;
      free = c.what_is_reached_has_the_same_free_names.ensures;
    } in
    λ rs p d given plan operands m b named plans few is_plan stands start starts separate arities none two.
    begun_hold begin steps rs [] p d given plan operands m b named plans few is_plan stands start starts separate arities none (λ x. alone m b x (two x))

pub returns-clause-runs : goal.returns-clause-runs
returns-clause-runs c =
    let steps : StepLaws = record {
      in_room = steps_in_room;
      order = c.steps_that_fire_nothing_keep_the_net.ensures.order;
      linked = c.steps_that_fire_nothing_keep_the_net.ensures.linked;
      reached = c.steps_of_pieces_are_steps_of_the_net.ensures.reached;
      kept = c.steps_of_pieces_are_steps_of_the_net.ensures.kept;
      net = c.what_is_reached_is_one_net.ensures.net;
      names = c.what_is_reached_is_one_net.ensures.names;
      free = c.what_is_reached_has_the_same_free_names.ensures;
    } in
    λ rs numbers p d given fired q qs n set over named plans of_rules held ran.
    one_runs steps rs numbers p d given fired q qs n set over named plans of_rules held ran

pub returns-clause-alone : goal.returns-clause-alone
returns-clause-alone c =
    let steps : StepLaws = record {
      in_room = steps_in_room;
      order = c.steps_that_fire_nothing_keep_the_net.ensures.order;
      linked = c.steps_that_fire_nothing_keep_the_net.ensures.linked;
      reached = c.steps_of_pieces_are_steps_of_the_net.ensures.reached;
      kept = c.steps_of_pieces_are_steps_of_the_net.ensures.kept;
      net = c.what_is_reached_is_one_net.ensures.net;
      names = c.what_is_reached_is_one_net.ensures.names;
      free = c.what_is_reached_has_the_same_free_names.ensures;
    } in
    λ rs p d given fired q set over named free held.
    (whole_holds steps rs p d given fired q set over named free held, alone_no_ends p.arities held.cuts q held.placed)

pub returns-clause-ends : goal.returns-clause-ends
returns-clause-ends c = λ arities cuts q qs e placed there. other_end arities cuts q qs e placed there

pub returns-clause-symbols : goal.returns-clause-symbols
returns-clause-symbols c = λ rs p d given fired qs held. held.placed.arities_are
