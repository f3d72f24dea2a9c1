use Rattle.ic_rules.specs.lemmas.NumberingLaws.{first_occurrences-numbered, are_paired-numbered}
use Rattle.ic_rules.proofs.laws.numbering_counts_up.Goals as goal

pub returns-clause-order : goal.returns-clause-order
returns-clause-order c = first_occurrences-numbered

pub returns-clause-paired : goal.returns-clause-paired
returns-clause-paired c = are_paired-numbered
