use Rattle.std.proofs.Common.{◌≡◌, ◌<◌, ℕ, List, Some, length, refl, ap, sym, subst, ◌∙◌, arith}
use Rattle.ic_jobs.specs.Table.{job_named}
use Rattle.ic_jobs.specs.Job.{JobParts}
use Rattle.ic_jobs.specs.Landing.{RunsNamed, due_place}
use Rattle.ic_jobs.proofs.PlaceLemmas.{due_here}
use Rattle.ic_jobs.proofs.TurnLemmas.{due_awaited}
use Rattle.ic_jobs.proofs.table.Table.due_name.Goals as goal

pub returns-clause-runs : goal.returns-clause-runs
returns-clause-runs c =
    let jobs = c.self.inside.jobs.items in
    let place : due_place jobs c.args.after ≡ Some c.in-Some.place =
    ap (λ (l : List JobParts). due_place l c.args.after) (sym c.deref.ensures.value) ∙ sym c.in-Some.ensures.place in
    let within : c.in-Some.place < length jobs = omega (arith, c.in-Some.ensures.within, ap length c.deref.ensures.value) in
    let awaited = due_awaited jobs c.args.after _ c.self.invariant.0
    (sym (due_here jobs c.args.after c.in-Some.place c.index.result.now _ place within c.index.ensures refl)) in
    subst (λ (t : List JobParts). RunsNamed t c.name.result) c.self.view_is (record {
      job = awaited.job;
      there = ap (λ (name : List ℕ). job_named name jobs) c.name.ensures.name ∙ awaited.there;
      running = awaited.running;
    })
