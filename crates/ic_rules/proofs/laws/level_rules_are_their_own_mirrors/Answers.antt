use Rattle.ic_rules.proofs.Mirrors.{lopsided_mirror, level_apart}
use Rattle.ic_rules.proofs.laws.level_rules_are_their_own_mirrors.Goals as goal

pub returns-clause-same : goal.returns-clause-same
returns-clause-same c = lopsided_mirror

pub returns-clause-two : goal.returns-clause-two
returns-clause-two c = level_apart
