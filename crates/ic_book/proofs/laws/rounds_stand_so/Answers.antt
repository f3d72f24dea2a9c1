use Rattle.ic_book.proofs.EntryLemmas.{round_anywhere}
use Rattle.ic_book.proofs.laws.rounds_stand_so.Goals as goal

pub returns : goal.returns
returns c = λ start log table kept broken front back e name is. round_anywhere start log table kept broken is front back e name
