use Rattle.ic_exact.proofs.NameLemmas.{kept_apart, written_again}
use Rattle.ic_exact.proofs.texts.written_names_stay_apart.Goals as goal

pub returns-clause-apart : goal.returns-clause-apart
returns-clause-apart c = kept_apart

pub returns-clause-again : goal.returns-clause-again
returns-clause-again c = written_again
