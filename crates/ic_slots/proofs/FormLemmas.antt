-- Which byte form of a table two kept frames have, before a call and after it.
use Rattle.std.proofs.Common.{◌≡◌, ⊎_elim, ◌∙◌, ℕ, true, false, List, Result, Err, is_err, IsErrOf, sym, ap, subst}
use Rattle.std.proofs.lemmas.Bool.{cases_Bool}
use Rattle.ic_disk.specs.declared.disk.Disk.{Ghosts}
use Rattle.ic_disk.specs.Time.{LeftSince}
use Rattle.ic_disk.specs.lemmas.Moments.{leaves_weaker, started}
use Rattle.ic_jobs.specs.Job.{JobParts}
use Rattle.ic_codec.specs.Tables.{IsFormOf}
use Rattle.ic_frames.specs.declared.faults.KeepFault.{KeepFault}
use Rattle.ic_frames.specs.declared.faults.KeepFault.TheVariants.{Broken, Device}
use Rattle.ic_frames.specs.declared.frames.Frames.{Frames}
use Rattle.ic_frames.specs.Frames.{disk_of, content_of, is_broken, EachImage, KeepsModel, Leaves}
use Rattle.ic_frames.specs.Held.{HasBody, Holds}
use Rattle.ic_frames.specs.Keeping.{FaultLeaves}
use Rattle.ic_frames.specs.Opened.{KeepsOneBody}
use Rattle.ic_slots.specs.Held.{HasTable, HoldsTable}
use Rattle.ic_slots.proofs.HeldLemmas.{same_body}

broken_not_device : {T : Type 0} → ◌≡◌ {A = Result T KeepFault} (Err Broken) (Err Device) → ⊥
broken_not_device e = cc

-- Before a call that is made on frames which may be broken. Where they are it changes nothing. Where they aren't, one
-- body is kept.
module _ {D T : Type 0} {ghosts : Ghosts D} (result : Result T KeepFault) (old new : Frames D ghosts) (fault : FaultLeaves result old new)
    (one : KeepsModel old → is_broken old ≡ false → KeepsOneBody old) (keeps : KeepsModel old) (now : ghosts.image (disk_of old) (content_of old)) where
  idle : is_broken old ≡ true → new ≡ old
  idle broke =
      let is : IsErrOf result Broken = fault.broken.1 broke in
      fault.refused (ap is_err is) (λ device. broken_not_device (sym is ∙ device))

  -- the body is a form of the table that is read
  form_kept : (kept : List JobParts) (ready : is_broken old ≡ false) → HasTable kept (content_of old) → IsFormOf kept (one keeps ready).kept
  form_kept kept ready has =
      subst (λ (b : List ℕ). IsFormOf kept b) (same_body has.1.body (one keeps ready).kept (sym has.1.held ∙ (one keeps ready).held)) has.1.form

  -- What a crash leaves, by what it leaves of the body.
  pub leaves_form : ((file : List ℕ) → LeftSince (ghosts.left (disk_of old)) (ghosts.clock (disk_of old)) file → ghosts.image (disk_of old) file)
      → (kept : List JobParts) (P : List ℕ → List ℕ → Type 0) (Q : List ℕ → Type 0) → EachImage old (HoldsTable kept)
      → ((body : List ℕ) → EachImage old (Holds body) → Leaves old new (P body))
      → ((body file : List ℕ) → IsFormOf kept body → P body file → Q file) → ((file : List ℕ) → HoldsTable kept file → Q file) → Leaves old new Q
  leaves_form law kept P Q holds call here stays = ⊎_elim
      (λ broke. subst (λ (f : Frames D ghosts). Leaves old f Q) (sym (idle broke))
      (started ghosts.clock ghosts.left (disk_of old) Q (λ file is. stays file (holds file (law file is)))))
      (λ ready.
      let body = (one keeps ready).kept in
      let each : EachImage old (Holds body) = λ file there. record { made = (holds file there).made; held = (one keeps ready).images file there } in
      leaves_weaker ghosts.clock ghosts.left (disk_of old) (disk_of new) (P body) Q (call body each)
      (λ file is. here body file (form_kept kept ready (holds (content_of old) now).held) is))
      (cases_Bool (is_broken old))

  -- What each image is after the call, by what it is of the body.
  pub images_form : (kept : List JobParts) (P : List ℕ → List ℕ → Type 0) (Q : List ℕ → Type 0) → EachImage old (HasTable kept)
      → ((body : List ℕ) → EachImage old (HasBody body) → EachImage new (P body))
      → ((body file : List ℕ) → IsFormOf kept body → P body file → Q file) → ((file : List ℕ) → ghosts.image (disk_of new) file → HasTable kept file → Q file) → EachImage new Q
  images_form kept P Q has call here stays file there = ⊎_elim
      (λ broke. stays file there (has file (subst (λ (f : Frames D ghosts). ghosts.image (disk_of f) file) (idle broke) there)))
      (λ ready.
      let body = (one keeps ready).kept in
      here body file (form_kept kept ready (has (content_of old) now)) (call body (one keeps ready).images file there))
      (cases_Bool (is_broken old))
