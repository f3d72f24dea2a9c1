use Rattle.std.proofs.Common.{[], ◌∷◌, sym, subst as transport}
use Rattle.std.specs.Prelude.{IsPermutation}
use Rattle.std.proofs.lemmas.List.Sorted.{IsPermutation-trans}
use Rattle.ic_confluence.specs.Kinds.{firing as by_rule}
use Rattle.ic_generations.specs.Firings.{rules_of}
use Rattle.ic_generations.specs.Generations.{whole}
use Rattle.ic_generations.proofs.Settling.{steps_sound}
use Rattle.ic_generations.proofs.ByRule.{StepLaws, rules_but_next, steps_rules, generation_rules}
use Rattle.ic_generations.proofs.Given.{FiringLaws}
use Rattle.ic_generations.proofs.Going.{GenerationLaws, generation_fires, generation_is_round}
use Rattle.ic_generations.proofs.laws.a_generation_is_a_round.Goals as goal

pub returns : goal.returns
returns c =
    let firing : FiringLaws = record {
      nets = record {
        names = c.same_nets_take_the_same_name_steps.ensures.names;
        same = c.where_names_begin_is_no_matter.ensures.same;
        other_way = c.where_names_begin_is_no_matter.ensures.other_way;
        through = c.where_names_begin_is_no_matter.ensures.through;
      };
      fired = c.same_nets_have_the_same_rounds.ensures.fired;
      sound = λ rs x y rule set sound step.
          let there = c.what_is_reached_goes_on.ensures.fires rs x x y [] rule set sound.over sound.named (c.what_is_reached_is_one_net.ensures.itself rs.rules x sound.named) step in
          record {
            over = c.what_is_reached_is_one_net.ensures.over rs x y (rule ∷ []) set sound.over sound.named there;
            named = c.what_is_reached_is_one_net.ensures.names rs.rules x y (rule ∷ []) there;
          };
    } in
    let laws : GenerationLaws = record {
      rounds = record { firing = firing; settled = c.same_nets_have_the_same_rounds.ensures.settled };
      next = c.where_names_begin_is_no_matter.ensures.next;
      other_way = c.one_net_is_an_equivalence.ensures.other_way;
      in_turn = c.one_net_is_an_equivalence.ensures.through;
      over = λ rs x y set sound net.
          let here = c.what_is_reached_is_one_net.ensures.itself rs.rules x sound.named in
          c.what_is_reached_is_one_net.ensures.over rs x y [] set sound.over sound.named (c.what_is_reached_is_one_net.ensures.net rs.rules x x y [] here net);
      beside = c.what_a_part_reaches_the_whole_reaches.ensures.net;
    } in
    let steps : StepLaws = record {
      names = c.same_nets_take_the_same_name_steps.ensures.names;
      steps = λ rs i x y after set over named same step. c.same_nets_take_the_same_steps.ensures.steps rs (by_rule i) x y after set over named same step;
    } in
    record {
      fired = λ rs rules g h set over named inert steps empty. generation_fires laws rs rules g h set (record { over = over; named = named }) inert steps empty;
      round = λ rs rules g h x y set over named inert goes empty names same s also.
          let fired = generation_rules rs.rules rules g h inert goes empty in
          let moved = transport (IsPermutation rules) (sym (steps_rules rs.rules (whole g) x names same)) fired in
          let there = rules_but_next steps rs x y set (steps_sound rs (whole g) x set (record { over = over; named = named }) names) s in (
            generation_is_round laws rs rules g h x y set (record { over = over; named = named }) inert goes empty names same s also,
            IsPermutation-trans rules (rules_of rs.rules x.equations) (rules_of rs.rules y.equations) moved there,
          );
    }
