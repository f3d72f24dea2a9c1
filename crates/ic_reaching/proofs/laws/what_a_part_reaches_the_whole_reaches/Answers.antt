use Rattle.ic_reaching.proofs.Given.{SettlingLaws, StepLaws}
use Rattle.ic_reaching.proofs.Frames.{ShapeLaws}
use Rattle.ic_reaching.proofs.Parts.{net_frame, reaches_frame}
use Rattle.ic_reaching.proofs.laws.what_a_part_reaches_the_whole_reaches.Goals as goal

pub returns : goal.returns
returns c =
    let steps : StepLaws = record {
      nets = record {
        itself = c.same_is_an_equivalence.ensures.itself;
        other_way = c.same_is_an_equivalence.ensures.other_way;
        names = c.same_nets_take_the_same_name_steps.ensures.names;
        steps = c.same_nets_take_the_same_name_steps.ensures.steps;
      };
      steps = c.same_nets_take_the_same_steps.ensures.steps;
      quiet = c.same_nets_take_the_same_steps.ensures.quiet;
      meet = c.two_steps_meet.ensures;
    } in
    let settling : SettlingLaws = record { nets = steps.nets; goes_on = c.every_order_settles_to_the_same_net.ensures.goes_on } in
    let shapes : ShapeLaws = record { nets = steps.nets; next = c.same_is_an_equivalence.ensures.next; free = c.same_nets_have_one_shape.ensures.free } in
    record {
      reaches =
          λ rs x y ts es fired set over named reached all apart.
          reaches_frame steps settling shapes rs set x y ts es fired (record { over = over; named = named }) reached all apart;
      net = net_frame steps settling shapes;
    }
