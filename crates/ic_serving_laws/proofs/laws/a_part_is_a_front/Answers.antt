use Rattle.ic_serving_laws.proofs.PartLemmas.{part_to, part_from}
use Rattle.ic_serving_laws.proofs.laws.a_part_is_a_front.Goals as goal

pub returns-clause-part : goal.returns-clause-part
returns-clause-part c = λ t u es. (part_to t u es, part_from t u es)

pub returns-clause-kept : goal.returns-clause-kept
returns-clause-kept c = λ t kept u es. (λ h. h, λ h. h)
