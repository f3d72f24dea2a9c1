use Rattle.ic_confluence.proofs.Chains.{step_free}
use Rattle.ic_confluence.proofs.laws.steps_keep_free_names.Goals as goal

pub returns : goal.returns
returns c = step_free
