use Rattle.std.proofs.Common.{sym, ◌∙◌}
use Rattle.ic_in_place.proofs.NameSteps.{CountLaws, counts_are_all, counts_moved, fired_within}
use Rattle.ic_in_place.proofs.laws.interactions_by_rule_are_all.Goals as goal

pub returns-clause-all : goal.returns-clause-all
returns-clause-all c = λ s bounds answer end interactions by_rule set over named is.
    let laws : CountLaws = record {
      itself = c.what_is_reached_is_one_net.ensures.itself;
      names = c.what_is_reached_is_one_net.ensures.names;
      over = c.what_is_reached_is_one_net.ensures.over;
      chain = c.what_is_reached_goes_on.ensures.chain;
    } in
    let fired = is.fired in
    counts_are_all _ fired by_rule (fired_within laws s.rules s.config answer fired set over named is.reached) is.counts
    ∙ sym is.counted

pub returns-clause-every_order : goal.returns-clause-every_order
returns-clause-every_order c = λ s bounds answer e interactions by_rule kinds set over named is chain still.
    counts_moved _ is.fired _ by_rule
    (c.what_is_reached_quiet_is_the_end_of_every_order.ensures.every_order s.rules s.config answer e is.fired kinds set over named
    is.reached is.ended.0 chain still).1 is.counts
