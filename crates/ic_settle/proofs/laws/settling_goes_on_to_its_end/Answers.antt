use Rattle.ic_settle.specs.lemmas.Reached.{settled_steps, settled_ends}
use Rattle.ic_settle.proofs.laws.settling_goes_on_to_its_end.Goals as goal

pub returns-clause-reached : goal.returns-clause-reached
returns-clause-reached c = settled_steps

pub returns-clause-ended : goal.returns-clause-ended
returns-clause-ended c = settled_ends
