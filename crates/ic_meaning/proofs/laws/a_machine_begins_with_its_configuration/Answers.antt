use Rattle.ic_meaning.proofs.Begun.{begun_net, begun_pieces}
use Rattle.ic_meaning.proofs.Given.{NetLaws}
use Rattle.ic_meaning.proofs.laws.a_machine_begins_with_its_configuration.Goals as goal

pub returns-clause-net : goal.returns-clause-net
returns-clause-net c =
    let nets : NetLaws = record {
      itself = c.one_net_is_an_equivalence.ensures.itself;
      through = c.one_net_is_an_equivalence.ensures.through;
      next = c.a_name_step_leads_to_one_net.ensures.next;
      order = c.the_order_of_equations_is_no_matter.ensures.order;
      turned = c.the_order_of_equations_is_no_matter.ensures.turned;
      anywhere = c.a_piece_is_put_for_its_name.ensures.anywhere;
      in_one = c.a_piece_is_put_for_its_name.ensures.equation;
      taken = c.pieces_are_put_in_turn.ensures.taken;
    } in
    begun_net nets

pub returns-clause-pieces : goal.returns-clause-pieces
returns-clause-pieces c = begun_pieces
