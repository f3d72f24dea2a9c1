use Rattle.std.proofs.Common.{[], ◌∷◌}
use Rattle.ic_generations.proofs.Given.{FiringLaws}
use Rattle.ic_generations.proofs.InTurn.{any_order_fires, any_order_is_possible, either_fires}
use Rattle.ic_generations.proofs.laws.active_equations_fire_in_any_order.Goals as goal

pub returns : goal.returns
returns c =
    let laws : FiringLaws = record {
      nets = record {
        names = c.same_nets_take_the_same_name_steps.ensures.names;
        same = c.where_names_begin_is_no_matter.ensures.same;
        other_way = c.where_names_begin_is_no_matter.ensures.other_way;
        through = c.where_names_begin_is_no_matter.ensures.through;
      };
      fired = c.same_nets_have_the_same_rounds.ensures.fired;
      sound = λ rs x y rule set sound step.
          let there = c.what_is_reached_goes_on.ensures.fires rs x x y [] rule set sound.over sound.named (c.what_is_reached_is_one_net.ensures.itself rs.rules x sound.named) step in
          record {
            over = c.what_is_reached_is_one_net.ensures.over rs x y (rule ∷ []) set sound.over sound.named there;
            named = c.what_is_reached_is_one_net.ensures.names rs.rules x y (rule ∷ []) there;
          };
    } in
    record {
      fired = λ rs es x y set over named moved steps. any_order_fires laws rs es x y set (record { over = over; named = named }) moved steps;
      one = λ rs x y z i j set over named s t same. either_fires laws rs x y z i j set (record { over = over; named = named }) s t same;
      possible = λ rs es x set over named moved. any_order_is_possible laws rs es x set (record { over = over; named = named }) moved;
    }
