use Rattle.ic_check.proofs.Forms.{of_blanks, of_config, of_lines, of_system, of_comment}
use Rattle.ic_check.proofs.laws.forms_are_told_by_their_first_byte.Goals as goal

pub returns-clause-system : goal.returns-clause-system
returns-clause-system c = of_system

pub returns-clause-config : goal.returns-clause-config
returns-clause-config c = of_config

pub returns-clause-lines : goal.returns-clause-lines
returns-clause-lines c = of_lines

pub returns-clause-empty : goal.returns-clause-empty
returns-clause-empty c = of_blanks

pub returns-clause-comment : goal.returns-clause-comment
returns-clause-comment c = of_comment
