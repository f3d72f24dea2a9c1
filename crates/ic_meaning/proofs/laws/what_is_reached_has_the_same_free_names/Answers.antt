use Rattle.ic_meaning.proofs.Free.{FreeLaws, free_kept}
use Rattle.ic_meaning.proofs.laws.what_is_reached_has_the_same_free_names.Goals as goal

pub returns : goal.returns
returns c =
    let laws : FreeLaws = record {
      step = c.steps_keep_free_names.ensures;
      same = c.where_names_begin_is_all_that_differs.ensures.free;
      name_step_net = c.a_name_step_leads_to_one_net.ensures.step;
      net_itself = c.one_net_is_an_equivalence.ensures.itself;
      itself = c.what_is_reached_is_one_net.ensures.itself;
      interaction_reached = c.what_is_reached_goes_on.ensures.interaction;
      names = c.what_is_reached_is_one_net.ensures.names;
      over = c.what_is_reached_is_one_net.ensures.over;
    } in
    free_kept laws
