use Rattle.ic_book.proofs.EntryLemmas.{nobody_named, rounds_named}
use Rattle.ic_book.proofs.laws.rounds_are_told_so.Goals as goal

pub returns-clause-rounds : goal.returns-clause-rounds
returns-clause-rounds c = rounds_named

pub returns-clause-nobody : goal.returns-clause-nobody
returns-clause-nobody c = nobody_named
