use Rattle.ic_reaching.proofs.Given.{SettlingLaws}
use Rattle.ic_reaching.proofs.Pieces.{put_anywhere, put_in_one, put_in_interface}
use Rattle.ic_reaching.proofs.laws.a_piece_is_put_for_its_name.Goals as goal

pub returns : goal.returns
returns c =
    let settling : SettlingLaws = record {
      nets = record {
        itself = c.same_is_an_equivalence.ensures.itself;
        other_way = c.same_is_an_equivalence.ensures.other_way;
        names = c.same_nets_take_the_same_name_steps.ensures.names;
        steps = c.same_nets_take_the_same_name_steps.ensures.steps;
      };
      goes_on = c.every_order_settles_to_the_same_net.ensures.goes_on;
    } in
    record {
      anywhere = put_anywhere settling;
      equation = put_in_one settling;
      interface = put_in_interface settling;
    }
