use Rattle.ic_naming.specs.lemmas.Renumbered.{renumbered-is, renumbered-over, renumbered-words, renumbered-written}
use Rattle.ic_naming.proofs.laws.renumbered_words_write_the_renumbered_configuration.Goals as goal

pub returns-clause-written : goal.returns-clause-written
returns-clause-written c = renumbered-written

pub returns-clause-words : goal.returns-clause-words
returns-clause-words c = renumbered-words

pub returns-clause-over : goal.returns-clause-over
returns-clause-over c = renumbered-over

pub returns-clause-sound : goal.returns-clause-sound
returns-clause-sound c = renumbered-is
