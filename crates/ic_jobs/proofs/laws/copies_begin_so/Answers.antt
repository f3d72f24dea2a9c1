use Rattle.std.proofs.Common.{refl}
use Rattle.ic_jobs.proofs.NameOrder.{copied_last}
use Rattle.ic_jobs.proofs.laws.copies_begin_so.Goals as goal

pub returns : goal.returns
returns c = record { accepted = copied_last; begun = λ new j. refl }
