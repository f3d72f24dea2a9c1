use Rattle.ic_term.specs.lemmas.ConfigurationEq.{configuration_eq-Decides}
use Rattle.ic_term.specs.lemmas.TreeLaws.{tree_eq-Decides, pair_eq-Decides}
use Rattle.ic_term.specs.lemmas.SymbolLaws.{symbols_eq-Decides}
use Rattle.ic_term.proofs.laws.equality_is_exact.Goals as goal

pub returns-clause-terms : goal.returns-clause-terms
returns-clause-terms c = tree_eq-Decides

pub returns-clause-equations : goal.returns-clause-equations
returns-clause-equations c = pair_eq-Decides

pub returns-clause-symbols : goal.returns-clause-symbols
returns-clause-symbols c = symbols_eq-Decides

pub returns-clause-configurations : goal.returns-clause-configurations
returns-clause-configurations c = configuration_eq-Decides
