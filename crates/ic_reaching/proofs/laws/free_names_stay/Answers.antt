use Rattle.ic_reaching.proofs.Firing.{step_of}
use Rattle.ic_reaching.proofs.Frames.{ShapeLaws}
use Rattle.ic_reaching.proofs.Sides.{FreeStep, net_free, reached_free}
use Rattle.ic_reaching.proofs.laws.free_names_stay.Goals as goal

pub returns : goal.returns
returns c =
    let shapes : ShapeLaws = record {
      nets = record {
        itself = c.same_is_an_equivalence.ensures.itself;
        other_way = c.same_is_an_equivalence.ensures.other_way;
        names = c.same_nets_take_the_same_name_steps.ensures.names;
        steps = c.same_nets_take_the_same_name_steps.ensures.steps;
      };
      next = c.same_is_an_equivalence.ensures.next;
      free = c.same_nets_have_one_shape.ensures.free;
    } in
    let free : FreeStep = λ rs kind x y set over named step. c.steps_keep_free_names.ensures rs x y set over named (step_of rs.rules kind x y step) in
    record {
      net = net_free shapes;
      reached = λ rs x y fired set over named reached. reached_free free shapes rs x y fired set (record { over = over; named = named }) reached;
    }
