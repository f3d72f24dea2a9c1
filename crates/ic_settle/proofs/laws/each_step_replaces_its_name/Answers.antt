use Rattle.ic_settle.specs.lemmas.Replaced.{none_replaced, replaced_names, replaces_first, replaced_sides, replaced_count}
use Rattle.ic_settle.proofs.laws.each_step_replaces_its_name.Goals as goal

pub returns-clause-none : goal.returns-clause-none
returns-clause-none c = none_replaced

pub returns-clause-names : goal.returns-clause-names
returns-clause-names c = replaced_names

pub returns-clause-terms : goal.returns-clause-terms
returns-clause-terms c = replaces_first

pub returns-clause-given : goal.returns-clause-given
returns-clause-given c = replaced_sides

pub returns-clause-count : goal.returns-clause-count
returns-clause-count c = replaced_count
