use Rattle.std.proofs.Common.{sym, ◌∙◌}
use Rattle.ic_round.specs.Rounds.{iterate}
use Rattle.ic_in_place_laws.proofs.Traced.{chain_of}
use Rattle.ic_in_place_laws.proofs.laws.rounds_fire_as_many_pairs.Goals as goal

pub returns : goal.returns
returns c = λ s bounds answer interactions n by_rule set over named is still.
    let end = iterate s.rules.rules n s.config in
    let steps = c.rows_count_interactions.ensures.chain s.rules.rules s.config n in
    let chain = chain_of s.rules.rules s.config end steps.0 in
    sym steps.1 ∙ sym chain.2
    ∙ (c.a_quiet_end_is_that_of_every_order.ensures.every_order s bounds answer end interactions by_rule chain.0 set over named is chain.1 still).1
