use Rattle.std.proofs.Common.{length, sym, ap, ◌∙◌}
use Rattle.ic_flat.specs.Flat.{configuration_words}
use Rattle.ic_flat.specs.lemmas.WordLaws.{whole-words}
use Rattle.ic_flat.specs.lemmas.FlatLaws.{all_terms, configuration_of-words, words-configuration_of}
use Rattle.ic_flat.proofs.laws.each_configuration_has_its_words.Goals as goal

pub returns-clause-whole : goal.returns-clause-whole
returns-clause-whole c = λ d. whole-words (all_terms d)

pub returns-clause-written : goal.returns-clause-written
returns-clause-written c = configuration_of-words

pub returns-clause-only : goal.returns-clause-only
returns-clause-only c = λ d ws whole counted is.
    sym (words-configuration_of ws (length d.interface) (length d.equations) d.next counted whole) ∙ ap configuration_words is
