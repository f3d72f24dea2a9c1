use Rattle.std.proofs.Common.{◌∙◌, sym, refl}
use Rattle.ic_batch.specs.declared.jobs.NewJob.{NewJob}
use Rattle.ic_batch.proofs.ReadLemmas.{full_is, taken_is}
use Rattle.ic_batch.proofs.reading.next_job.Goals as goal

pub returns-then-is_taken-clause-refused : goal.returns-then-is_taken-clause-refused
returns-then-is_taken-clause-refused c =
    let new : NewJob = record { name = c.in-Submit.name; system = c.in-Submit.system; budget = c.in-Submit.budget } in
    rw c.in-Submit.is (refl, taken_is c.args.jobs.now new (sym c.is_taken.ensures ∙ c.if-is_taken.true))

pub returns-then-jobs-ge-MAX_JOBS-clause-refused : goal.returns-then-jobs-ge-MAX_JOBS-clause-refused
returns-then-jobs-ge-MAX_JOBS-clause-refused c =
    let new : NewJob = record { name = c.in-Submit.name; system = c.in-Submit.system; budget = c.in-Submit.budget } in
    rw c.in-Submit.is (refl, full_is c.args.jobs.now new (sym c.is_taken.ensures ∙ c.if-is_taken.false) c.if-jobs-ge-MAX_JOBS.true)
