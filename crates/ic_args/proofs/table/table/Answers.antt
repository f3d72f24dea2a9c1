use Rattle.ic_args.proofs.FirstWords.{found_all}
use Rattle.ic_args.proofs.table.table.Goals as goal

pub returns-clause-first : goal.returns-clause-first
returns-clause-first c = found_all c.words.result c.words.ensures.found
