use Rattle.std.proofs.Common.{ℕ, sym, subst}
use Rattle.ic_round.specs.Rounds.{iterate}
use Rattle.ic_in_place.specs.Holding.{IsNetOf}
use Rattle.ic_in_place.proofs.RoundedNet.{LawsOfRounds, rounded_net}
use Rattle.ic_in_place.proofs.laws.what_a_machine_holds_after_rounds.Goals as goal

pub returns : goal.returns
returns c =
    let laws : LawsOfRounds = record {
      held = record {
        itself = c.what_is_reached_is_one_net.ensures.itself;
        net = c.what_is_reached_is_one_net.ensures.net;
        names = c.what_is_reached_is_one_net.ensures.names;
        begun = c.a_machine_begins_with_its_configuration.ensures.net;
        first = c.a_machine_begins_with_its_configuration.ensures.pieces;
        reached = c.steps_of_pieces_are_steps_of_the_net.ensures.reached;
        kept = c.steps_of_pieces_are_steps_of_the_net.ensures.kept;
        free = c.what_is_reached_has_the_same_free_names.ensures;
        quiet = c.where_all_pairs_are_stuck_the_net_is_quiet.ensures;
      };
      other_way = c.one_net_is_an_equivalence.ensures.other_way;
      through = c.one_net_is_an_equivalence.ensures.through;
      linked = c.steps_that_fire_nothing_keep_the_net.ensures.linked;
      rounds = λ rs numbers given operands p d plan pairs first m over now g set over_symbols named plans of_rules few is_plan stands free parted starts separate none so_far done.
          let all = c.rounds_in_place_are_rounds.ensures rs numbers given operands p d plan pairs first m over now g set over_symbols named plans of_rules few is_plan stands free parted starts separate none so_far done in
          (all.0, all.1, all.2, all.3, all.4, all.5.pieces, all.6, all.7);
    } in
    λ rs numbers p d given plan operands pairs most rounds end first m set over named compiled begun parted ends.
    let made = rounded_net laws rs numbers p d given plan operands pairs first set over named compiled begun parted most rounds end m ends in (
      made.held,
      λ none. subst (λ (k : ℕ). IsNetOf made.held.numbers m (iterate rs.rules k d)) (sym ends.count) (made.net none),
      made.rules,
    )
