use Rattle.std.proofs.Common.{◌≡◌, ◌<◌, List, Some, length, ap, sym, ◌∙◌, arith}
use Rattle.ic_jobs.specs.Job.{JobParts}
use Rattle.ic_jobs.specs.Landing.{due, due_place}
use Rattle.ic_jobs.proofs.PlaceLemmas.{due_here}
use Rattle.ic_jobs.proofs.table.Table.due.Goals as goal

pub returns : goal.returns
returns c =
    let place : due_place c.self.inside.jobs.items c.args.after ≡ Some c.in-Some.place =
    ap (λ (l : List JobParts). due_place l c.args.after) (sym c.deref.ensures.value) ∙ sym c.in-Some.ensures.place in
    let within : c.in-Some.place < length c.self.inside.jobs.items =
    omega (arith, c.in-Some.ensures.within, ap length c.deref.ensures.value) in
    due_here c.self.inside.jobs.items c.args.after c.in-Some.place c.index.result.now _ place within c.index.ensures c.in_ok-flight.ensures
    ∙ ap (λ (t : List JobParts). due t c.args.after) c.self.view_is
