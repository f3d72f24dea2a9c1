use Rattle.ic_causes.proofs.Shown.{all_printable, all_themselves}
use Rattle.ic_causes.proofs.laws.paths_are_shown_in_printable_bytes.Goals as goal

pub returns-clause-printable : goal.returns-clause-printable
returns-clause-printable c = all_printable

pub returns-clause-itself : goal.returns-clause-itself
returns-clause-itself c = all_themselves
