use Rattle.std.proofs.Common.{inl, inr}
use Rattle.ic_batch.proofs.LineLemmas.{jobs_are_read}
use Rattle.ic_batch.proofs.laws.lines_are_refused_so.Goals as goal

pub returns-clause-text : goal.returns-clause-text
returns-clause-text c text line fault says = says

pub returns-clause-refused : goal.returns-clause-refused
returns-clause-refused c text line why says = elim says [ inl never ↦ absurd never | inr stops ↦ stops ]

pub returns-clause-never : goal.returns-clause-never
returns-clause-never c text says = says

pub returns-clause-jobs : goal.returns-clause-jobs
returns-clause-jobs c = jobs_are_read c.scripts_are_read_in_one_way.ensures.answer
