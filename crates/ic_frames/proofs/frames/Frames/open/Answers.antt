use Rattle.std.proofs.Common.{◌≡◌, ◌∙◌, sym, subst, List, ℕ, false}
use Rattle.ic_frames.specs.declared.slot.Slot.{Slot}
use Rattle.ic_frames.specs.Places.{place}
use Rattle.ic_frames.specs.Fields.{number}
use Rattle.ic_frames.specs.Held.{IsNewest}
use Rattle.ic_frames.specs.inner.Standing.{IsKept}
use Rattle.ic_frames.proofs.CrashLemmas.{other-other}
use Rattle.ic_frames.proofs.FoundLemmas.{found_kept, found_held}
use Rattle.ic_frames.proofs.frames.Frames.open.Goals as goal

pub invariant_of-frames : goal.invariant_of-frames
invariant_of-frames g c = record {
  kept = λ keeps_new ready.
      let disk = g.D.Disk in
      let found = c.in-Ok.found in
      let new = c.find.new.disk in
      let keeps = sym c.find.ensures.keeps ∙ keeps_new in
      subst (λ (f : List ℕ). IsKept f (disk.image new) found.newest.slot found.newest.head.number found.newest.alone false found.made) (sym (c.find.ensures.reads keeps).same)
      (found_kept found (disk.content c.args.disk) (disk.image new) (c.in-Ok.ensures.found keeps) (c.in-Ok.ensures.settled keeps));
}

pub returns-in-Ok-clause-opened : goal.returns-in-Ok-clause-opened
returns-in-Ok-clause-opened g c keeps = found_held c.in-Ok.found (g.D.Disk.content c.args.disk) (c.in-Ok.ensures.found keeps)

pub returns-in-Ok-clause-newest : goal.returns-in-Ok-clause-newest
returns-in-Ok-clause-newest g c keeps =
    let file = g.D.Disk.content c.args.disk in
    let slot = c.in-Ok.found.newest.slot in
    let chosen = (c.in-Ok.ensures.found keeps).chosen in
    record {
      newest = subst (λ (s : Slot). IsNewest s file) (sym (other-other slot)) chosen.is_newest;
      number_is = subst (λ (s : Slot). number (place s) file ≡ c.in-Ok.found.newest.head.number) (sym (other-other slot)) chosen.head.number_is;
      shut = chosen.shut;
      opened = λ e. (chosen.older e).0;
    }
