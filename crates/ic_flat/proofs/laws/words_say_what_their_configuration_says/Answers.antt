use Rattle.ic_flat.specs.lemmas.FlatLaws.{names-words, nodes-words, over-words}
use Rattle.ic_flat.proofs.laws.words_say_what_their_configuration_says.Goals as goal

pub returns-clause-names : goal.returns-clause-names
returns-clause-names c = names-words

pub returns-clause-nodes : goal.returns-clause-nodes
returns-clause-nodes c = nodes-words

pub returns-clause-over : goal.returns-clause-over
returns-clause-over c = over-words
