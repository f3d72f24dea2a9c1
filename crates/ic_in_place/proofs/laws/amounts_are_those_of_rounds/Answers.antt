use Rattle.ic_round.specs.Rounds.{iterate, round}
use Rattle.ic_in_place.proofs.Amounts.{AmountLaws, amounts_after}
use Rattle.ic_in_place.proofs.laws.amounts_are_those_of_rounds.Goals as goal

pub returns-clause-amounts : goal.returns-clause-amounts
returns-clause-amounts c =
    let laws : AmountLaws = record {
      fires = c.figures_add_up_over_agents.ensures.round;
      over = λ rs d set over. c.chains_are_steps.ensures.over rs d (round rs.rules d) set over (c.rounds_are_steps.ensures.round rs.rules d);
      names = λ rs d set over named. c.chains_are_steps.ensures.names rs d (round rs.rules d) set over named (c.rounds_are_steps.ensures.round rs.rules d);
    } in
    λ f rs numbers made d set over named fire. amounts_after laws f rs numbers made d set over named fire

pub returns-clause-nodes : goal.returns-clause-nodes
returns-clause-nodes c = λ rs n d set over.
    c.figures_add_up_over_agents.ensures.nodes rs.symbols (iterate rs.rules n d)
    (c.chains_are_steps.ensures.over rs d (iterate rs.rules n d) set over (c.rounds_are_steps.ensures.iterate rs.rules n d))

pub returns-clause-names : goal.returns-clause-names
returns-clause-names c = c.figures_add_up_over_agents.ensures.names
