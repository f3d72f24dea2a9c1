use Rattle.std.proofs.Common.{[], ◌∷◌, ◌++◌, arith}
use Rattle.std.proofs.lemmas.List.{length-append}
use Rattle.ic_in_place.proofs.laws.what_a_stop_says.Goals as goal

pub returns-clause-within : goal.returns-clause-within
returns-clause-within c = λ s bounds answer end interactions by_rule is. is.within

pub returns-clause-steps : goal.returns-clause-steps
returns-clause-steps c = λ s bounds answer interactions by_rule set over named is.
    let next = is.ended.1 in
    let rule = next.2.active.rule in
    let many = length-append is.fired (rule ∷ []) in (
      next.0,
      is.fired ++ rule ∷ [],
      c.what_is_reached_goes_on.ensures.interaction s.rules s.config answer next.0 is.fired next.1 set over named is.reached next.2,
      omega (arith, many, is.counted, is.ended.0),
    )

pub returns-clause-nodes : goal.returns-clause-nodes
returns-clause-nodes c = λ s bounds answer interactions by_rule is. is.ended

pub returns-clause-limit : goal.returns-clause-limit
returns-clause-limit c = λ s bounds answer interactions by_rule is. is.ended
