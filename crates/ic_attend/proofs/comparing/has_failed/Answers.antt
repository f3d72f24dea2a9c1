use Rattle.std.proofs.Common.{◌≡◌, Some, refl, sym, ap, subst, ◌∙◌, length}
use Rattle.std.specs.Prelude.{slice_get, IsSomeAnd}
use Rattle.std.proofs.lemmas.Option.{slice_get_read}
use Rattle.ic_jobs.specs.declared.event.Event.TheVariants.{Command as by_command}
use Rattle.ic_attend.specs.declared.attended.ClientRun.{ClientRun}
use Rattle.ic_attend.proofs.comparing.has_failed.Goals as goal

pub returns-in-Some : goal.returns-in-Some
returns-in-Some c =
    let runs = c.args.runs.now in
    let run = c.in-Some.run'.now in
    let found = c.in-Some.ensures.lookup in
    let read : slice_get runs c.args.who ≡ Some run =
    slice_get_read runs (length runs) c.args.who run refl found.3.0 found.1 in (
      λ yes. let found = c.ended_at.ensures.0 yes in (run, read, found.0, found.1),
      λ has. c.ended_at.ensures.1 (
          let one : Some run ≡ Some has.0 = sym read ∙ has.1 in
          let same : run ≡ has.0 = cc in (
            ap (λ (r : ClientRun). r.end) same ∙ has.2,
            subst (λ (r : ClientRun). IsSomeAnd r.refused (λ k. c.args.event.now ≡ by_command k)) (sym same) has.3,
          )),
    )
