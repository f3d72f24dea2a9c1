use Rattle.std.proofs.Common.{inl, inr, ⊎_elim, ◌+◌, refl, arith}
use Rattle.ic_disk.proofs.CourseLemmas.{begins, goes_on_reading, goes_on_syncing, goes_on_writing}
use Rattle.ic_disk.proofs.laws.courses_go_on.Goals as goal

pub returns-clause-begins : goal.returns-clause-begins
returns-clause-begins g c file = begins file

pub returns-clause-writes : goal.returns-clause-writes
returns-clause-writes g c w course now is may = goes_on_writing w c.args.answer.now course now is may

pub returns-clause-syncs : goal.returns-clause-syncs
returns-clause-syncs g c course now is may = goes_on_syncing c.args.answer.now course now is may

pub returns-clause-reads : goal.returns-clause-reads
returns-clause-reads g c course is = goes_on_reading c.args.answer.now course is

pub returns-clause-moments : goal.returns-clause-moments
returns-clause-moments g c course midst now file is = ⊎_elim
    (λ before. (course.calls, omega arith, inr (inl (refl, before))))
    (λ rest. ⊎_elim (λ during. (course.calls, omega arith, inr (inr (inl (refl, during))))) (λ after. (course.calls + 1, omega arith, inl (refl, after))) rest)
    is

pub returns-clause-past : goal.returns-clause-past
returns-clause-past g c course midst now t file left = inr (⊎_elim (λ present. inl present) (λ past. inr (inr past)) left)
