use Rattle.std.proofs.Common.{[], ◌∷◌}
use Rattle.ic_generations.proofs.Given.{FiringLaws}
use Rattle.ic_generations.proofs.Anywhere.{RoundLaws, settled_but_next, fired_but_next, round_but_next, rounds_but_next}
use Rattle.ic_confluence.specs.Kinds.{firing as by_rule}
use Rattle.ic_generations.proofs.ByRule.{StepLaws, rules_but_next}
use Rattle.ic_generations.proofs.laws.where_names_begin_is_no_matter_to_rounds.Goals as goal

pub returns : goal.returns
returns c =
    let firing : FiringLaws = record {
      nets = record {
        names = c.same_nets_take_the_same_name_steps.ensures.names;
        same = c.where_names_begin_is_no_matter.ensures.same;
        other_way = c.where_names_begin_is_no_matter.ensures.other_way;
        through = c.where_names_begin_is_no_matter.ensures.through;
      };
      fired = c.same_nets_have_the_same_rounds.ensures.fired;
      sound = λ rs x y rule set sound step.
          let there = c.what_is_reached_goes_on.ensures.fires rs x x y [] rule set sound.over sound.named (c.what_is_reached_is_one_net.ensures.itself rs.rules x sound.named) step in
          record {
            over = c.what_is_reached_is_one_net.ensures.over rs x y (rule ∷ []) set sound.over sound.named there;
            named = c.what_is_reached_is_one_net.ensures.names rs.rules x y (rule ∷ []) there;
          };
    } in
    let laws : RoundLaws = record { firing = firing; settled = c.same_nets_have_the_same_rounds.ensures.settled } in
    let steps : StepLaws = record {
      names = c.same_nets_take_the_same_name_steps.ensures.names;
      steps = λ rs i x y after set over named same step. c.same_nets_take_the_same_steps.ensures.steps rs (by_rule i) x y after set over named same step;
    } in
    record {
      settled = settled_but_next laws;
      fired = λ rs x y set over named also s. fired_but_next laws rs x y set (record { over = over; named = named }) also s;
      round = λ rs x y set over named also s. round_but_next laws rs x y set (record { over = over; named = named }) also s;
      rounds = λ rs n x y set over named also s. rounds_but_next laws rs n x y set (record { over = over; named = named }) also s;
      rules = λ rs x y set over named s. rules_but_next steps rs x y set (record { over = over; named = named }) s;
    }
