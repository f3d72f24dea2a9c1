use Rattle.ic_commands.proofs.PlainLines.{all_verbs, phrase_texts_are}
use Rattle.ic_commands.proofs.laws.command_words_are.Goals as goal

pub returns-clause-all_verbs : goal.returns-clause-all_verbs
returns-clause-all_verbs c = all_verbs

pub returns-clause-lines : goal.returns-clause-lines
returns-clause-lines c = phrase_texts_are
