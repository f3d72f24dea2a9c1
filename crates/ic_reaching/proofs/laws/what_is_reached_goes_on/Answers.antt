use Rattle.ic_reaching.proofs.Given.{SettlingLaws, StepLaws}
use Rattle.std.proofs.Common.{refl}
use Rattle.ic_reaching.proofs.Reached.{goes_on_firing, goes_on_so, goes_on_fresh, reaches_joined}
use Rattle.ic_reaching.proofs.laws.what_is_reached_goes_on.Goals as goal

pub returns : goal.returns
returns c =
    let steps : StepLaws = record {
      nets = record {
        itself = c.same_is_an_equivalence.ensures.itself;
        other_way = c.same_is_an_equivalence.ensures.other_way;
        names = c.same_nets_take_the_same_name_steps.ensures.names;
        steps = c.same_nets_take_the_same_name_steps.ensures.steps;
      };
      steps = c.same_nets_take_the_same_steps.ensures.steps;
      quiet = c.same_nets_take_the_same_steps.ensures.quiet;
      meet = c.two_steps_meet.ensures;
    } in
    let settling : SettlingLaws = record {
      nets = record {
        itself = c.same_is_an_equivalence.ensures.itself;
        other_way = c.same_is_an_equivalence.ensures.other_way;
        names = c.same_nets_take_the_same_name_steps.ensures.names;
        steps = c.same_nets_take_the_same_name_steps.ensures.steps;
      };
      goes_on = c.every_order_settles_to_the_same_net.ensures.goes_on;
    } in
    record {
      interaction = λ rs x y z fired place set over named r step. goes_on_firing steps rs step.active.rule x y z fired set (record { over = over; named = named }) r (place, step, refl);
      fires = λ rs x y z fired rule set over named r step. goes_on_fresh steps settling rs rule x y z fired set (record { over = over; named = named }) r step;
      chain = λ rs x y z fired kinds set over named r chain. goes_on_so steps settling rs kinds x y z fired set (record { over = over; named = named }) r chain;
      reached = λ rs x y z fired also set over named one two. reaches_joined steps settling rs x y z fired also set (record { over = over; named = named }) one two;
    }
