use Rattle.std.proofs.Common.{length, subst}
use Rattle.ic_in_place.specs.Counting.{TellsNameSteps}
use Rattle.ic_in_place.specs.declared.running.End.{End}
use Rattle.ic_in_place_laws.proofs.Untold.{no_name_steps}
use Rattle.ic_in_place_laws.proofs.going_on.rounds_tell_the_name_steps_of_every_order.Goals as goal

pub returns-clause-quiet : goal.returns-clause-quiet
returns-clause-quiet c = λ s most enough rounds reduced e kinds set over named is quiet chain still.
    c.name_steps_are_those_of_every_order.ensures.told s.rules s.config e reduced.interactions (length is.answer.equations) reduced.name_steps kinds
    set over named
    (subst (λ (x : End). TellsNameSteps s.rules.rules s.config reduced.interactions (length is.answer.equations) x reduced.name_steps) quiet is.name_steps)
    chain still

pub returns-clause-other : goal.returns-clause-other
returns-clause-other c = λ s most enough rounds reduced is other.
    no_name_steps s.rules.rules s.config reduced.interactions (length is.answer.equations) reduced.end reduced.name_steps other is.name_steps
