use Rattle.std.proofs.Common.{List, inl, inr, sym, subst}
use Rattle.ic_disk.specs.Images.{Within}
use Rattle.ic_jobs.specs.Job.{JobParts}
use Rattle.ic_slots.specs.Held.{IsHeld, the_table}
use Rattle.ic_serving_laws.proofs.KeepLemmas.{no_keep_fault, when_held}
use Rattle.ic_serving_laws.proofs.attending.scripts_leave_their_history_on_the_disk.Goals as goal

pub returns : goal.returns
returns g c = λ done scripts runners turns workers old new is keeps. elim is [
  | inl told ↦
      let history = told.has.history in
      let runs = told.attended.answers.items in
      let has = when_held told.told.kept (no_keep_fault runs told.attended.ends.items told.told.kept told.told.told.well) told.told.held keeps in (
        told.attended,
        history,
        told.has.start,
        subst (λ (t : List JobParts). IsHeld (the_table t) (g.D.Disk.content c.args.left.now)) (sym history.replayed) has.held,
        subst (λ (t : List JobParts). Within (g.D.Disk.image c.args.left.now) (IsHeld (the_table t))) (sym history.replayed) has.images,
      )
  | inr none ↦ absurd none.0
]
