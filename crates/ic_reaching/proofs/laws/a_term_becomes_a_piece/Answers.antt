use Rattle.ic_reaching.proofs.Given.{SettlingLaws}
use Rattle.ic_reaching.proofs.Pieces.{taken_from_one, taken_from_interface}
use Rattle.ic_reaching.proofs.laws.a_term_becomes_a_piece.Goals as goal

pub returns : goal.returns
returns c =
    let settling : SettlingLaws = record {
      nets = record {
        itself = c.same_is_an_equivalence.ensures.itself;
        other_way = c.same_is_an_equivalence.ensures.other_way;
        names = c.same_nets_take_the_same_name_steps.ensures.names;
        steps = c.same_nets_take_the_same_name_steps.ensures.steps;
      };
      goes_on = c.every_order_settles_to_the_same_net.ensures.goes_on;
    } in
    record {
      equation = taken_from_one settling;
      interface = taken_from_interface settling;
    }
