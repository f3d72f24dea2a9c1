use Rattle.std.proofs.Common.{refl}
use Rattle.ic_batch.proofs.laws.a_failing_writer_ends_a_batch.Goals as goal

pub returns-clause-done : goal.returns-clause-done
returns-clause-done g c most jobs before after is = (is.ended_at_cut refl, is.kept_at_cut refl, is.cut refl)

pub returns-clause-text : goal.returns-clause-text
returns-clause-text g c most jobs is = is.text_at_cut refl

pub returns-clause-silent : goal.returns-clause-silent
returns-clause-silent g c most jobs before after fault other is = is.silent other
