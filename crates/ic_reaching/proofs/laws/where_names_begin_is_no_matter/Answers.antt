use Rattle.ic_reaching.proofs.Given.{NetLaws}
use Rattle.ic_reaching.proofs.ButNext.{but_next, but_next_other_way, but_next_through, next_is_no_matter}
use Rattle.ic_reaching.proofs.laws.where_names_begin_is_no_matter.Goals as goal

pub returns : goal.returns
returns c =
    let nets : NetLaws = record {
      itself = c.same_is_an_equivalence.ensures.itself;
      other_way = c.same_is_an_equivalence.ensures.other_way;
      names = c.same_nets_take_the_same_name_steps.ensures.names;
      steps = c.same_nets_take_the_same_name_steps.ensures.steps;
    } in
    record {
      same = but_next;
      next = next_is_no_matter nets;
      other_way = but_next_other_way nets;
      through = but_next_through;
    }
