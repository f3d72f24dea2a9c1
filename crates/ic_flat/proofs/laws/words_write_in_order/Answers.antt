use Rattle.ic_flat.specs.lemmas.WordLaws.{forest-tree_words, forest-append, nodes-forest, whole-drop}
use Rattle.ic_flat.proofs.laws.words_write_in_order.Goals as goal

pub returns-clause-term : goal.returns-clause-term
returns-clause-term c = forest-tree_words

pub returns-clause-append : goal.returns-clause-append
returns-clause-append c = forest-append

pub returns-clause-nodes : goal.returns-clause-nodes
returns-clause-nodes c = nodes-forest

pub returns-clause-suffix : goal.returns-clause-suffix
returns-clause-suffix c = whole-drop
