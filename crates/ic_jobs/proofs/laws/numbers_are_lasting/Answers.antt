use Rattle.std.proofs.Common.{◌≡◌, refl, arith}
use Rattle.std.specs.List.{Contains}
use Rattle.ic_jobs.specs.declared.reply.Refusal.{Refusal}
use Rattle.ic_jobs.specs.declared.reply.Refusal.TheVariants.{Taken, Full, NoJob, NotRunning, NotPaused}
use Rattle.ic_jobs.specs.Refusal.{all_refusals}
use Rattle.ic_jobs.proofs.laws.numbers_are_lasting.Goals as goal

each : (fault : Refusal) → Contains all_refusals fault
each Taken = (0, omega arith, refl)
each Full = (1, omega arith, refl)
each NoJob = (2, omega arith, refl)
each NotRunning = (3, omega arith, refl)
each NotPaused = (4, omega arith, refl)

pub returns : goal.returns
returns c = record { all = each; numbers = refl }
