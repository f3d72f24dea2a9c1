use Rattle.ic_reaching.proofs.Given.{NetLaws, SettlingLaws}
use Rattle.ic_reaching.proofs.Reached.{begins, goes_to_net, reached_sound}
use Rattle.ic_reaching.proofs.laws.what_is_reached_is_one_net.Goals as goal

pub returns-clause-itself : goal.returns-clause-itself
returns-clause-itself c =
    let nets : NetLaws = record {
      itself = c.same_is_an_equivalence.ensures.itself;
      other_way = c.same_is_an_equivalence.ensures.other_way;
      names = c.same_nets_take_the_same_name_steps.ensures.names;
      steps = c.same_nets_take_the_same_name_steps.ensures.steps;
    } in
    begins nets

pub returns-clause-net : goal.returns-clause-net
returns-clause-net c =
    let settling : SettlingLaws = record {
      nets = record {
        itself = c.same_is_an_equivalence.ensures.itself;
        other_way = c.same_is_an_equivalence.ensures.other_way;
        names = c.same_nets_take_the_same_name_steps.ensures.names;
        steps = c.same_nets_take_the_same_name_steps.ensures.steps;
      };
      goes_on = c.every_order_settles_to_the_same_net.ensures.goes_on;
    } in
    goes_to_net settling

pub returns-clause-names : goal.returns-clause-names
returns-clause-names c = λ rs x y fired r. r.net.names_too

pub returns-clause-over : goal.returns-clause-over
returns-clause-over c = λ rs x y fired set over named r. (reached_sound rs x y fired set (record { over = over; named = named }) r).over
