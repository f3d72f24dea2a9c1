use Rattle.std.proofs.Common.{inl, inr, refl}
use Rattle.ic_kept.proofs.MomentLemmas.{ends_between}
use Rattle.std.specs.Prelude.{List, ℕ, IsTrue}
use Rattle.ic_kept.proofs.laws.a_stop_may_come_at_each_moment.Goals as goal

pub returns-clause-between : goal.returns-clause-between
returns-clause-between g c = λ after first last end course.
    let disk = g.D.Disk in
    ends_between disk.keeps disk.image disk.clock disk.left (λ (old new : List ℕ). IsTrue (after old new)) c.args.keeper.now end first last course

pub returns-clause-earlier : goal.returns-clause-earlier
returns-clause-earlier g c = λ after first last next mid end course comes keep kept coming one other there. inl there

pub returns-clause-midst : goal.returns-clause-midst
returns-clause-midst g c = λ after first last next mid end course comes keep t one other there since left.
    inr (inl (record { kept_is = refl; coming_is = refl; spared = there; written = (t, since, left) }))

pub returns-clause-refused : goal.returns-clause-refused
returns-clause-refused g c = λ after first last next mid end fault course comes keep t one other there since left.
    inr (record { kept_is = refl; coming_is = refl; spared = there; written = (t, since, left) })

pub returns-clause-earlier_refused : goal.returns-clause-earlier_refused
returns-clause-earlier_refused g c = λ after first last next mid end fault course comes keep kept coming one other there. inl there
