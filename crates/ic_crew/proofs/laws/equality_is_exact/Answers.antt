use Rattle.ic_crew.specs.lemmas.WorkEq.{work_eq-Decides}
use Rattle.ic_crew.proofs.laws.equality_is_exact.Goals as goal

pub returns : goal.returns
returns c = work_eq-Decides
