use Rattle.ic_reaching.proofs.Given.{StepLaws, OrderLaws}
use Rattle.ic_reaching.proofs.Reached.{reached_sound}
use Rattle.ic_reaching.proofs.Ends.{reached_quiet, every_order, rounds_too, some_rounds, fired_count}
use Rattle.ic_reaching.proofs.laws.what_is_reached_quiet_is_the_end_of_every_order.Goals as goal

pub returns : goal.returns
returns c =
    let steps : StepLaws = record {
      nets = record {
        itself = c.same_is_an_equivalence.ensures.itself;
        other_way = c.same_is_an_equivalence.ensures.other_way;
        names = c.same_nets_take_the_same_name_steps.ensures.names;
        steps = c.same_nets_take_the_same_name_steps.ensures.steps;
      };
      steps = c.same_nets_take_the_same_steps.ensures.steps;
      quiet = c.same_nets_take_the_same_steps.ensures.quiet;
      meet = c.two_steps_meet.ensures;
    } in
    let orders : OrderLaws = record {
      steps = λ rs kinds d e chain. (c.steps_are_of_kinds.ensures.chains rs d e).1 (kinds, chain);
      ends = c.every_order_ends_in_the_same_net.ensures.ends;
      rounds = c.rounds_end_in_the_net_of_every_order.ensures.end;
      some_rounds = c.rounds_end_in_the_net_of_every_order.ensures.reached;
    } in
    record {
      end = λ rs x y fired set over named r quiet. reached_quiet steps rs x y fired set (reached_sound rs x y fired set (record { over = over; named = named }) r) r quiet;
      every_order = λ rs x y z fired kinds set over named r quiet chain also. every_order steps orders rs x y z fired kinds set (record { over = over; named = named }) r quiet chain also;
      rounds = λ rs n x y fired set over named r quiet also. rounds_too steps orders rs n x y fired set (record { over = over; named = named }) r quiet also;
      some_rounds = λ rs x y fired set over named r quiet. some_rounds steps orders rs x y fired set (record { over = over; named = named }) r quiet;
      count = fired_count;
    }
