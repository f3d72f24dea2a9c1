use Rattle.ic_naming.specs.lemmas.RenamedWords.{equations-renamed, forest-renamed, interface-renamed, whole-renamed, word_names-renamed, word_over-renamed}
use Rattle.ic_naming.proofs.laws.renamed_words_write_renamed_terms.Goals as goal

pub returns-clause-whole : goal.returns-clause-whole
returns-clause-whole c = whole-renamed

pub returns-clause-terms : goal.returns-clause-terms
returns-clause-terms c = forest-renamed

pub returns-clause-names : goal.returns-clause-names
returns-clause-names c = word_names-renamed

pub returns-clause-over : goal.returns-clause-over
returns-clause-over c = word_over-renamed

pub returns-clause-interface : goal.returns-clause-interface
returns-clause-interface c = interface-renamed

pub returns-clause-equations : goal.returns-clause-equations
returns-clause-equations c = equations-renamed
