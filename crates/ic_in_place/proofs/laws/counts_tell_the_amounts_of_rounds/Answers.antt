use Rattle.ic_round.specs.Rounds.{round}
use Rattle.ic_in_place.proofs.Amounts.{AmountLaws}
use Rattle.ic_in_place.proofs.Fired.{each_counted, told_by_counts}
use Rattle.ic_in_place.proofs.laws.counts_tell_the_amounts_of_rounds.Goals as goal

pub returns-clause-many : goal.returns-clause-many
returns-clause-many c = λ limits most asked input line reached is.
    let r = is.rounded in
    each_counted r.come.plans r.first r.pairs r.come.rule_numbers r.begun.counts r.numbered r.ends.made r.ends.told r.ends.are_told

pub returns-clause-amounts : goal.returns-clause-amounts
returns-clause-amounts c =
    let laws : AmountLaws = record {
      fires = c.figures_add_up_over_agents.ensures.round;
      over = λ rs d set over. c.chains_are_steps.ensures.over rs d (round rs.rules d) set over (c.rounds_are_steps.ensures.round rs.rules d);
      names = λ rs d set over named. c.chains_are_steps.ensures.names rs d (round rs.rules d) set over named (c.rounds_are_steps.ensures.round rs.rules d);
    } in
    λ limits most asked input line reached f is.
    let r = is.rounded in
    told_by_counts laws r.come.plans r.first r.pairs f is.system.rules r.come.rule_numbers is.system.config is.ends.rule_set is.ends.over is.ends.names r.begun.counts r.ends.made r.ends.told r.ends.are_told r.rules
