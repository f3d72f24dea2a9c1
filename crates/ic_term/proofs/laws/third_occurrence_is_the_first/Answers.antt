use Rattle.std.proofs.Common.{[], arith}
use Rattle.ic_term.proofs.ThirdOccurrence.{twice_from_none, none_from_twice, first_from_some}
use Rattle.ic_term.proofs.laws.third_occurrence_is_the_first.Goals as goal

pub returns-clause-none : goal.returns-clause-none
returns-clause-none c = λ ns. ((λ none. twice_from_none [] ns none (λ q. omega arith)), none_from_twice [] ns)

pub returns-clause-some : goal.returns-clause-some
returns-clause-some c = λ ns n found. first_from_some [] ns n found (λ q. omega arith)
