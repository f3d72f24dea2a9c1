use Rattle.ic_check.proofs.Reached.{found_never_taken, one_reach, symbols_stay}
use Rattle.ic_check.proofs.laws.unused_rules_are_never_used.Goals as goal

pub returns-clause-unused : goal.returns-clause-unused
returns-clause-unused c = found_never_taken

pub returns-clause-symbols : goal.returns-clause-symbols
returns-clause-symbols c = symbols_stay

pub returns-clause-one : goal.returns-clause-one
returns-clause-one c = one_reach
