use Rattle.ic_meaning.proofs.Given.{NetLaws, ReachLaws}
use Rattle.ic_meaning.proofs.Reached.{steps_reach}
use Rattle.ic_meaning.proofs.Once.{net_pieces_kept}
use Rattle.ic_meaning.proofs.laws.steps_of_pieces_are_steps_of_the_net.Goals as goal

pub returns-clause-reached : goal.returns-clause-reached
returns-clause-reached c =
    let nets : NetLaws = record {
      itself = c.one_net_is_an_equivalence.ensures.itself;
      through = c.one_net_is_an_equivalence.ensures.through;
      next = c.a_name_step_leads_to_one_net.ensures.next;
      order = c.the_order_of_equations_is_no_matter.ensures.order;
      turned = c.the_order_of_equations_is_no_matter.ensures.turned;
      anywhere = c.a_piece_is_put_for_its_name.ensures.anywhere;
      in_one = c.a_piece_is_put_for_its_name.ensures.equation;
      taken = c.pieces_are_put_in_turn.ensures.taken;
    } in
    let laws : ReachLaws = record {
      nets = nets;
      net = λ rs d e f fired reached net. c.what_is_reached_is_one_net.ensures.net rs.rules d e f fired reached net;
      names = λ rs d e fired reached. c.what_is_reached_is_one_net.ensures.names rs.rules d e fired reached;
      over = c.what_is_reached_is_one_net.ensures.over;
      fires = c.what_is_reached_goes_on.ensures.fires;
    } in
    λ rs numbers p n d i fired xs ys before set over named plans of_rules sound same are reached steps.
    steps_reach laws rs numbers p n d i fired xs ys before set over named plans of_rules sound same are.separate are.each reached steps

pub returns-clause-kept : goal.returns-clause-kept
returns-clause-kept c =
    net_pieces_kept
