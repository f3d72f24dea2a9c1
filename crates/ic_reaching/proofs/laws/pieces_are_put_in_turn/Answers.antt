use Rattle.ic_reaching.proofs.Given.{SettlingLaws}
use Rattle.ic_reaching.proofs.InTurn.{put_so, taken_apart}
use Rattle.ic_reaching.proofs.laws.pieces_are_put_in_turn.Goals as goal

pub returns : goal.returns
returns c =
    let settling : SettlingLaws = record {
      nets = record {
        itself = c.same_is_an_equivalence.ensures.itself;
        other_way = c.same_is_an_equivalence.ensures.other_way;
        names = c.same_nets_take_the_same_name_steps.ensures.names;
        steps = c.same_nets_take_the_same_name_steps.ensures.steps;
      };
      goes_on = c.every_order_settles_to_the_same_net.ensures.goes_on;
    } in
    record {
      put = put_so settling;
      taken = taken_apart settling;
    }
