use Rattle.ic_machine.proofs.PlaceLaws.{start_uses, run_uses, run_at_moment, run_grows, run_needs}
use Rattle.ic_machine.proofs.laws.places_are_those_that_were_in_use.Goals as goal

pub returns-clause-begun : goal.returns-clause-begun
returns-clause-begun c = λ p given plan operands n kind starts. start_uses p given plan operands n kind starts

pub returns-clause-still : goal.returns-clause-still
returns-clause-still c = λ p old new kind run low. run_uses p old new kind run low

pub returns-clause-enough : goal.returns-clause-enough
returns-clause-enough c = λ p old new kind run moment there. run_at_moment p old new kind run moment there

pub returns-clause-kept : goal.returns-clause-kept
returns-clause-kept c = λ p old new kind run. run_grows p old new kind run

pub returns-clause-no_more : goal.returns-clause-no_more
returns-clause-no_more c = λ p old new kind run. run_needs p old new kind run
