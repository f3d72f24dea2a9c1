use Rattle.ic_rules.specs.lemmas.NumberingLaws.{numbered-exactly}
use Rattle.ic_rules.proofs.TakenRules.{left_as_written}
use Rattle.ic_rules.proofs.laws.numbered_rules_stay.Goals as goal

pub returns-clause-rule : goal.returns-clause-rule
returns-clause-rule c = numbered-exactly

pub returns-clause-rules : goal.returns-clause-rules
returns-clause-rules c = left_as_written
