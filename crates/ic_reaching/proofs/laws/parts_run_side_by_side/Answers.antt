use Rattle.ic_reaching.proofs.Given.{SettlingLaws, StepLaws}
use Rattle.ic_reaching.proofs.Firing.{step_of}
use Rattle.ic_reaching.proofs.Frames.{ShapeLaws}
use Rattle.ic_reaching.proofs.Sides.{FreeStep, side_by_side}
use Rattle.ic_reaching.proofs.Many.{all_side_by_side}
use Rattle.ic_reaching.proofs.laws.parts_run_side_by_side.Goals as goal

pub returns : goal.returns
returns c =
    let steps : StepLaws = record {
      nets = record {
        itself = c.same_is_an_equivalence.ensures.itself;
        other_way = c.same_is_an_equivalence.ensures.other_way;
        names = c.same_nets_take_the_same_name_steps.ensures.names;
        steps = c.same_nets_take_the_same_name_steps.ensures.steps;
      };
      steps = c.same_nets_take_the_same_steps.ensures.steps;
      quiet = c.same_nets_take_the_same_steps.ensures.quiet;
      meet = c.two_steps_meet.ensures;
    } in
    let settling : SettlingLaws = record { nets = steps.nets; goes_on = c.every_order_settles_to_the_same_net.ensures.goes_on } in
    let shapes : ShapeLaws = record { nets = steps.nets; next = c.same_is_an_equivalence.ensures.next; free = c.same_nets_have_one_shape.ensures.free } in
    let free : FreeStep = λ rs kind x y set over named step. c.steps_keep_free_names.ensures rs x y set over named (step_of rs.rules kind x y step) in
    record {
      all = all_side_by_side free steps settling shapes;
      two =
          λ rs x y z w fired also set over over_too named named_too one two all apart apart_too.
          side_by_side free steps settling shapes rs x y z w fired also set (record { over = over; named = named }) (record { over = over_too; named = named_too }) one two all apart apart_too;
    }
