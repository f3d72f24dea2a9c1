use Rattle.ic_meaning.proofs.Ends.{ends_so}
use Rattle.ic_meaning.proofs.laws.a_run_that_ends_has_the_net_of_every_order.Goals as goal

pub returns : goal.returns
returns c =
    ends_so (record {
      itself = c.what_is_reached_is_one_net.ensures.itself;
      net = c.what_is_reached_is_one_net.ensures.net;
      names = c.what_is_reached_is_one_net.ensures.names;
      reached = c.steps_of_pieces_are_steps_of_the_net.ensures.reached;
      kept = c.steps_of_pieces_are_steps_of_the_net.ensures.kept;
      quiet = c.where_all_pairs_are_stuck_the_net_is_quiet.ensures;
      free = c.what_is_reached_has_the_same_free_names.ensures;
    })
