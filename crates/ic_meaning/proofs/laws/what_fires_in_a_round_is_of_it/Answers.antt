use Rattle.ic_meaning.proofs.Given.{NetLaws, ReachLaws}
use Rattle.ic_meaning.proofs.Going.{GoingLaws}
use Rattle.ic_meaning.proofs.InPlace.{round_under_way}
use Rattle.ic_meaning.proofs.Rounds.{RoundLaws}
use Rattle.ic_meaning.proofs.laws.what_fires_in_a_round_is_of_it.Goals as goal

pub returns : goal.returns
returns c =
    let nets : NetLaws = record {
      itself = c.one_net_is_an_equivalence.ensures.itself;
      through = c.one_net_is_an_equivalence.ensures.through;
      next = c.a_name_step_leads_to_one_net.ensures.next;
      order = c.the_order_of_equations_is_no_matter.ensures.order;
      turned = c.the_order_of_equations_is_no_matter.ensures.turned;
      anywhere = c.a_piece_is_put_for_its_name.ensures.anywhere;
      in_one = c.a_piece_is_put_for_its_name.ensures.equation;
      taken = c.pieces_are_put_in_turn.ensures.taken;
    } in
    let reach : ReachLaws = record {
      nets = nets;
      net = λ rs d e f fired reached net. c.what_is_reached_is_one_net.ensures.net rs.rules d e f fired reached net;
      names = λ rs d e fired reached. c.what_is_reached_is_one_net.ensures.names rs.rules d e fired reached;
      over = c.what_is_reached_is_one_net.ensures.over;
      fires = c.what_is_reached_goes_on.ensures.fires;
    } in
    let going : GoingLaws = record {
      reach = reach;
      start = λ rs d named. c.what_is_reached_is_one_net.ensures.itself rs.rules d named;
      other_way = c.one_net_is_an_equivalence.ensures.other_way;
      either = c.active_equations_fire_in_any_order.ensures.one;
    } in
    let laws : RoundLaws = record {
      going = going;
      free_reached = c.free_names_stay.ensures.reached;
      free = c.free_names_stay.ensures.net;
      equations = c.where_names_begin_is_all_that_differs.ensures.equations;
      same = c.where_names_begin_is_no_matter.ensures.same;
      in_turn = c.where_names_begin_is_no_matter.ensures.through;
      settled = c.where_names_begin_is_no_matter_to_rounds.ensures.settled;
      rules = c.where_names_begin_is_no_matter_to_rounds.ensures.rules;
      ends = c.every_order_settles_to_the_same_net.ensures.ends;
      elsewhere = c.name_steps_may_wait_for_a_round.ensures.elsewhere;
      round = c.a_generation_is_a_round.ensures.round;
    } in
    λ rs numbers given operands p d plan pairs first m over now g set over_symbols named plans of_rules few is_plan stands free parted starts separate none_aside so_far are_pairs.
    round_under_way laws rs numbers given operands p d plan pairs first set over_symbols named plans of_rules few is_plan stands parted starts separate none_aside free over now g m so_far are_pairs
