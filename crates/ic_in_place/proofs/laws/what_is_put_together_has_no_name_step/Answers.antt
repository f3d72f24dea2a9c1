use Rattle.ic_in_place.proofs.NoNameStep.{no_name_step}
use Rattle.ic_in_place.proofs.laws.what_is_put_together_has_no_name_step.Goals as goal

pub returns : goal.returns
returns c = no_name_step
