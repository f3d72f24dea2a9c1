use Rattle.ic_machine.proofs.Grown.{unpacked_enough, unpacked_kept, unpacked_no_more}
use Rattle.ic_machine.proofs.laws.what_is_unpacked_takes_free_places_first.Goals as goal

pub returns-clause-kept : goal.returns-clause-kept
returns-clause-kept c = λ words old new before after kind is. unpacked_kept words old new before after kind is

pub returns-clause-enough : goal.returns-clause-enough
returns-clause-enough c = λ words old new before after kind is. unpacked_enough words old new before after kind is

pub returns-clause-no_more : goal.returns-clause-no_more
returns-clause-no_more c = λ words old new before after kind is. unpacked_no_more words old new before after kind is

pub returns-clause-symbols : goal.returns-clause-symbols
returns-clause-symbols c = λ words old new before after is. is.symbols
