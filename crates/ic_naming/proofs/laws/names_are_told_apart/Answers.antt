use Rattle.ic_naming.specs.lemmas.ToldNames.{all_low, told_apart}
use Rattle.ic_naming.proofs.Kept.{told_keeps}
use Rattle.ic_naming.proofs.laws.names_are_told_apart.Goals as goal

pub returns-clause-apart : goal.returns-clause-apart
returns-clause-apart c = told_apart

pub returns-clause-free : goal.returns-clause-free
returns-clause-free c = told_keeps

pub returns-clause-low : goal.returns-clause-low
returns-clause-low c = all_low
