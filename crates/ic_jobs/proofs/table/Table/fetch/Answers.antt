use Rattle.std.proofs.Common.{◌≡◌, List, subst, ◌∙◌}
use Rattle.ic_jobs.specs.declared.command.Command.TheVariants.{Fetch}
use Rattle.ic_jobs.specs.declared.reply.Reply.TheVariants.{Shown}
use Rattle.ic_jobs.specs.Job.{JobParts}
use Rattle.ic_jobs.specs.Events.{outcome, after_command}
use Rattle.ic_jobs.proofs.PlaceLemmas.{read_at, nothing_at, missing_here, fetch_done}
use Rattle.ic_jobs.proofs.table.Table.fetch.Goals as goal

pub returns-in_default : goal.returns-in_default
returns-in_default c = missing_here c.args.self.now _ _ (nothing_at c.args.name (c.deref.ensures.value ∙ c.self.view_is) c.in_default.ensures.place)

pub returns : goal.returns
returns c =
    let read = read_at c.deref.ensures.value c.self.invariant.0 c.in-Some.ensures.place c.index.ensures in
    subst (λ (t : List JobParts). outcome t (Shown c.in_ok-shown.shown) ≡ after_command t (Fetch c.args.name)) c.self.view_is
    (fetch_done c.args.name c.self.inside.jobs.items c.in-Some.place _ c.in_ok-shown.shown read.found read.same c.in_ok-shown.ensures)
