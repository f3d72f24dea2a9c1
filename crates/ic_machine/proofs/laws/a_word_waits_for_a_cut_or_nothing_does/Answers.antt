use Rattle.ic_machine.proofs.Waiting.{never_both, shipped_told, told_or_nothing}
use Rattle.ic_machine.proofs.laws.a_word_waits_for_a_cut_or_nothing_does.Goals as goal

pub returns-clause-is_so : goal.returns-clause-is_so
returns-clause-is_so c = λ n b t told. (told.name, told.word, told.end, told.waiting)

pub returns-clause-tells : goal.returns-clause-tells
returns-clause-tells c = λ n b t name word end waiting. record { name = name; end = end; word = word; waiting = waiting }

pub returns-clause-either : goal.returns-clause-either
returns-clause-either c = λ n b t. told_or_nothing n b t

pub returns-clause-never_both : goal.returns-clause-never_both
returns-clause-never_both c = λ n b t once told. never_both n b t once told

pub returns-clause-shipped : goal.returns-clause-shipped
returns-clause-shipped c = λ n m b d cut size before after ships. shipped_told n m b d cut size before after ships
