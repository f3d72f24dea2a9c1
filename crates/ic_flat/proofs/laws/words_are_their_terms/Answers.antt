use Rattle.ic_flat.specs.lemmas.WordLaws.{forest-words, whole-words, words-forest}
use Rattle.ic_flat.proofs.laws.words_are_their_terms.Goals as goal

pub returns-clause-read : goal.returns-clause-read
returns-clause-read c = forest-words

pub returns-clause-whole : goal.returns-clause-whole
returns-clause-whole c = whole-words

pub returns-clause-written : goal.returns-clause-written
returns-clause-written c = words-forest
