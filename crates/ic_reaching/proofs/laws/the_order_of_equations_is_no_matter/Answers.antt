use Rattle.ic_reaching.proofs.Given.{NetLaws, SettlingLaws}
use Rattle.ic_reaching.proofs.Pieces.{in_any_order, turned_round}
use Rattle.ic_reaching.proofs.laws.the_order_of_equations_is_no_matter.Goals as goal

pub returns-clause-order : goal.returns-clause-order
returns-clause-order c =
    let nets : NetLaws = record {
      itself = c.same_is_an_equivalence.ensures.itself;
      other_way = c.same_is_an_equivalence.ensures.other_way;
      names = c.same_nets_take_the_same_name_steps.ensures.names;
      steps = c.same_nets_take_the_same_name_steps.ensures.steps;
    } in
    in_any_order nets

pub returns-clause-turned : goal.returns-clause-turned
returns-clause-turned c =
    let settling : SettlingLaws = record {
      nets = record {
        itself = c.same_is_an_equivalence.ensures.itself;
        other_way = c.same_is_an_equivalence.ensures.other_way;
        names = c.same_nets_take_the_same_name_steps.ensures.names;
        steps = c.same_nets_take_the_same_name_steps.ensures.steps;
      };
      goes_on = c.every_order_settles_to_the_same_net.ensures.goes_on;
    } in
    turned_round settling
