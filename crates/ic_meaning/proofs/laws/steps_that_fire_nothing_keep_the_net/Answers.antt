use Rattle.ic_meaning.proofs.Given.{NetLaws}
use Rattle.ic_meaning.proofs.Reached.{linked_net}
use Rattle.ic_meaning.proofs.Wholes.{order_net, turns_net, puts_net, meets_net, joins_net}
use Rattle.ic_meaning.proofs.laws.steps_that_fire_nothing_keep_the_net.Goals as goal

pub returns : goal.returns
returns c =
    let nets : NetLaws = record {
      itself = c.one_net_is_an_equivalence.ensures.itself;
      through = c.one_net_is_an_equivalence.ensures.through;
      next = c.a_name_step_leads_to_one_net.ensures.next;
      order = c.the_order_of_equations_is_no_matter.ensures.order;
      turned = c.the_order_of_equations_is_no_matter.ensures.turned;
      anywhere = c.a_piece_is_put_for_its_name.ensures.anywhere;
      in_one = c.a_piece_is_put_for_its_name.ensures.equation;
      taken = c.pieces_are_put_in_turn.ensures.taken;
    } in
    record {
      order = order_net nets;
      turns = turns_net nets;
      puts = puts_net nets;
      meets = meets_net nets;
      joins = joins_net nets;
      linked = λ p n i xs ys named are steps. linked_net nets n i p xs ys named are steps;
    }
