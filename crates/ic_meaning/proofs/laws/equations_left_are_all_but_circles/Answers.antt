use Rattle.ic_meaning.proofs.Given.{NetLaws}
use Rattle.ic_meaning.proofs.Circles.{left_beside}
use Rattle.ic_meaning.proofs.laws.equations_left_are_all_but_circles.Goals as goal

pub returns : goal.returns
returns c =
    let nets : NetLaws = record {
      itself = c.one_net_is_an_equivalence.ensures.itself;
      through = c.one_net_is_an_equivalence.ensures.through;
      next = c.a_name_step_leads_to_one_net.ensures.next;
      order = c.the_order_of_equations_is_no_matter.ensures.order;
      turned = c.the_order_of_equations_is_no_matter.ensures.turned;
      anywhere = c.a_piece_is_put_for_its_name.ensures.anywhere;
      in_one = c.a_piece_is_put_for_its_name.ensures.equation;
      taken = c.pieces_are_put_in_turn.ensures.taken;
    } in
    λ n m d sound are named free pending aside places net settled.
    left_beside nets n m d sound are named free pending aside places net settled c.one_net_is_an_equivalence.ensures.other_way
