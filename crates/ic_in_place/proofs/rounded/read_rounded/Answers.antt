use Rattle.std.proofs.Common.{ℕ, Some, subst, sym}
use Rattle.ic_in_place.specs.Rounds.{MayEnd}
use Rattle.ic_in_place.proofs.LineByRounds.{LineLaws}
use Rattle.ic_in_place.proofs.RoundedSystem.{read_so, rounded_to}
use Rattle.ic_in_place.proofs.RoundsEnough.{EnoughLaws}
use Rattle.ic_in_place.proofs.rounded.read_rounded.Goals as goal

pub returns : goal.returns
returns c = λ rounds enough most may rounded go_on.
    let reduced = c.in_ok-reduced.reduced in
    let stopped = c.args.stopped in
    let told = c.in_ok-reduced.ensures in
    let lines : LineLaws = record {
      through = c.one_net_is_an_equivalence.ensures.through;
      other_way = c.one_net_is_an_equivalence.ensures.other_way;
      itself = c.same_is_an_equivalence.ensures.itself;
      same = c.where_names_begin_is_no_matter.ensures.same;
    } in
    let laws : EnoughLaws = record {
      alike = c.same_nets_take_the_same_steps.ensures.quiet;
      other_way = c.one_net_is_an_equivalence.ensures.other_way;
      through = c.one_net_is_an_equivalence.ensures.through;
      equations = c.where_names_begin_is_all_that_differs.ensures.equations;
      itself = c.what_is_reached_is_one_net.ensures.itself;
      net = c.what_is_reached_is_one_net.ensures.net;
      names = c.what_is_reached_is_one_net.ensures.names;
      over = c.what_is_reached_is_one_net.ensures.over;
      interaction = c.what_is_reached_goes_on.ensures.interaction;
      every_order = c.what_is_reached_quiet_is_the_end_of_every_order.ensures.every_order;
      told = c.name_steps_are_those_of_every_order.ensures.told;
      together = c.what_is_put_together_has_no_name_step.ensures;
    } in
    let read = told.read rounded.bounds rounded.come in
    let all = read_so c.args.system enough most c.args.taken stopped.given.items stopped.machine reduced stopped.by_rule.items reduced.by_rule.items stopped.end reduced.end
    (sym told.by_rule) (sym told.end) (rounded, read.0, read.1, read.2, read.3, read.4, read.5, go_on) in
    rounded_to lines laws c.what_is_reached_quiet_is_the_end_of_every_order.ensures.rounds c.what_fires_in_a_round_is_of_it.ensures c.args.system rounds enough most c.args.taken c.rounds_made-rounds.result
    stopped.given.items stopped.machine reduced
    (subst (λ (n : ℕ). MayEnd rounds (Some enough) most n) (sym told.interactions) may) told.interactions all c.rounds_made-rounds.ensures
