use Rattle.ic_confluence.specs.Sameness.{through}
use Rattle.ic_confluence.specs.lemmas.Equivalence.{Same-refl, Same-sym}
use Rattle.ic_confluence.proofs.Order.{same_next}
use Rattle.ic_confluence.proofs.laws.same_is_an_equivalence.Goals as goal

pub returns-clause-itself : goal.returns-clause-itself
returns-clause-itself c = Same-refl

pub returns-clause-other_way : goal.returns-clause-other_way
returns-clause-other_way c = Same-sym

pub returns-clause-through : goal.returns-clause-through
returns-clause-through c = through

pub returns-clause-next : goal.returns-clause-next
returns-clause-next c = same_next
