-- What a disk that is opened has, by what was found there.
use Rattle.std.proofs.Common.{◌≡◌, ◌⊎◌, inl, inr, ⊎_elim, ℕ, ◌+◌, ◌<◌, ◌≤◌, true, false, List, length, drop, refl, sym, ◌∙◌, ap, arith}
use Rattle.std.proofs.lemmas.Bool.{cases_Bool, false≢true}
use Rattle.ic_disk.specs.Content.{bytes_at}
use Rattle.ic_disk.specs.Images.{Only}
use Rattle.ic_frames.specs.declared.slot.Slot.{Slot}
use Rattle.ic_frames.specs.declared.slot.Slot.TheVariants.{First, Second}
use Rattle.ic_frames.specs.declared.found.Newest.{Newest}
use Rattle.ic_frames.specs.declared.found.Found.{Found}
use Rattle.ic_frames.specs.declared.faults.OpenCause.{OpenCause}
use Rattle.ic_frames.specs.declared.faults.OpenCause.TheVariants.{Device, Damaged, Memory}
use Rattle.ic_frames.specs.Places.{place, other}
use Rattle.ic_frames.specs.Fields.{body, is_open, is_whole, IsMade}
use Rattle.ic_frames.specs.Held.{Held, the_body, damaged, body_held}
use Rattle.ic_frames.specs.inner.Standing.{Stands, IsKept}
use Rattle.ic_frames.specs.Opening.{Answers}
use Rattle.ic_frames.specs.inner.Finding.{IsChosen, IsFound, IsDamage}
use Rattle.ic_frames.proofs.FieldLemmas.{open_parts, whole_from, spoiled_from}
use Rattle.ic_frames.proofs.HeldLemmas.{whole_held, spoiled_held}
use Rattle.ic_frames.proofs.KeepLemmas.{of_only}

-- where one of two slots is the second and open the file is made
both_made : (slot : Slot) (file : List ℕ) → is_open (place slot) file ≡ true → is_open (place (other slot)) file ≡ true → IsMade file
both_made First file this that = (open_parts 4194304 file that).within
both_made Second file this that = (open_parts 4194304 file this).within

pub found_held : (found : Found) (file : List ℕ) → IsFound found file → body_held file ≡ the_body (drop 13 found.frame.items)
found_held found file is = whole_held found.newest.slot file is.chosen.is_newest is.whole ∙ ap the_body is.body_is

pub found_kept : (found : Found) (file : List ℕ) (image : List ℕ → Type 0) → IsFound found file → Only file image
    → IsKept file image found.newest.slot found.newest.head.number found.newest.alone false found.made
found_kept found file image is only =
    let slot = found.newest.slot in
    let chosen = is.chosen in
    let stands : Stands slot found.newest.head.number found.newest.alone (body (place slot) file) file = record {
      opened = chosen.head.opened;
      number_is = chosen.head.number_is;
      whole = is.whole;
      body_is = refl;
      shut = chosen.shut;
      older = λ e. (chosen.older e).1;
    } in
    record {
      stands = of_only (Stands slot found.newest.head.number found.newest.alone (body (place slot) file)) file image only stands;
      staged_is = λ e. absurd (false≢true e);
      staged_in = λ e. absurd (false≢true e);
      all_made = λ e. of_only IsMade file image only (is.made e);
      not_made = λ e. (is.not_made e, ⊎_elim (λ alone. alone) (λ two. absurd (omega (arith, is.not_made e, both_made slot file chosen.head.opened (chosen.older two).0))) (cases_Bool found.newest.alone));
    }

-- what is found of a disk of whose slots the newest is whole
pub found_whole : (newest : Newest) (file frame : List ℕ) → IsChosen newest file → (newest.head.size ≤ 3036677) × (place newest.slot + 13 + newest.head.size ≤ length file) → frame ≡ bytes_at (place newest.slot + 13) newest.head.size file
    → (is_whole (place newest.slot) file ≡ true) × (body (place newest.slot) file ≡ frame)
unfolding body
found_whole newest file frame chosen within read =
    let sizes = chosen.head.size_is in (
      whole_from (place newest.slot) file (omega (arith, sizes, within.0)) (omega (arith, sizes, within.1)),
      ap (λ (m : ℕ). bytes_at (place newest.slot + 13) m file) sizes ∙ sym read,
    )

pub found_spoiled : (newest : Newest) (file : List ℕ) → IsChosen newest file → (3036677 < newest.head.size) ⊎ (length file < place newest.slot + 13 + newest.head.size) → body_held file ≡ damaged
found_spoiled newest file chosen why =
    let sizes = chosen.head.size_is in
    spoiled_held newest.slot file chosen.is_newest
    (spoiled_from (place newest.slot) file (⊎_elim (λ long. inl (omega (arith, sizes, long))) (λ cut. inr (omega (arith, sizes, cut))) why))

pub damage_answers : (cause : OpenCause) (held : Held) → IsDamage cause → held ≡ damaged → Answers cause held
damage_answers Damaged held is damage = damage
damage_answers Device held is damage = tt
damage_answers Memory held is damage = tt
damage_answers _ held is damage = absurd is
