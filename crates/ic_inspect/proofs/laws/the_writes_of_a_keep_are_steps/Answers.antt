use Rattle.ic_inspect.proofs.StepLemmas.{closing_torn, opening_staged, writing_torn}
use Rattle.ic_inspect.proofs.laws.the_writes_of_a_keep_are_steps.Goals as goal

pub returns : goal.returns
returns c = record { closing = closing_torn; writing = writing_torn; opening = opening_staged }
