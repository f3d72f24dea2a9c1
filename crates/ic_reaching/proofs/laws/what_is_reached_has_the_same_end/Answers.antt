use Rattle.ic_reaching.proofs.Given.{SettlingLaws, StepLaws, OrderLaws}
use Rattle.ic_reaching.proofs.Ends.{further, same_end}
use Rattle.ic_reaching.proofs.laws.what_is_reached_has_the_same_end.Goals as goal

pub returns-clause-further : goal.returns-clause-further
returns-clause-further c = further

pub returns-clause-end : goal.returns-clause-end
returns-clause-end c =
    let steps : StepLaws = record {
      nets = record {
        itself = c.same_is_an_equivalence.ensures.itself;
        other_way = c.same_is_an_equivalence.ensures.other_way;
        names = c.same_nets_take_the_same_name_steps.ensures.names;
        steps = c.same_nets_take_the_same_name_steps.ensures.steps;
      };
      steps = c.same_nets_take_the_same_steps.ensures.steps;
      quiet = c.same_nets_take_the_same_steps.ensures.quiet;
      meet = c.two_steps_meet.ensures;
    } in
    let settling : SettlingLaws = record {
      nets = record {
        itself = c.same_is_an_equivalence.ensures.itself;
        other_way = c.same_is_an_equivalence.ensures.other_way;
        names = c.same_nets_take_the_same_name_steps.ensures.names;
        steps = c.same_nets_take_the_same_name_steps.ensures.steps;
      };
      goes_on = c.every_order_settles_to_the_same_net.ensures.goes_on;
    } in
    let orders : OrderLaws = record {
      steps = λ rs kinds d e chain. (c.steps_are_of_kinds.ensures.chains rs d e).1 (kinds, chain);
      ends = c.every_order_ends_in_the_same_net.ensures.ends;
      rounds = c.rounds_end_in_the_net_of_every_order.ensures.end;
      some_rounds = c.rounds_end_in_the_net_of_every_order.ensures.reached;
    } in
    λ rs x y z w fired ks ls set over named r one quiet other also. same_end steps settling orders rs x y z w fired ks ls set (record { over = over; named = named }) r one quiet other also
