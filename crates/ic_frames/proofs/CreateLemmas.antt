-- What a disk holds after its first frame is written.
use Rattle.std.proofs.Common.{◌≡◌, Result, Ok, Err, OnOk, ℕ, ◌≤◌, true, false, List, [], ◌∷◌, length, get_or, sym, ◌∙◌, subst, arith}
use Rattle.std.proofs.lemmas.Bool.{true≢false}
use Rattle.ic_disk.specs.Content.{laid}
use Rattle.ic_disk.specs.lemmas.ContentLaws.{length-laid, laid-inside, laid-after}
use Rattle.ic_disk.specs.Images.{Only, Within}
use Rattle.ic_disk.specs.lemmas.ImageLaws.{torn_laid}
use Rattle.ic_frames.specs.declared.slot.Slot.TheVariants.{First}
use Rattle.ic_frames.specs.Fields.{is_open, IsMade}
use Rattle.ic_frames.specs.Held.{Holds}
use Rattle.ic_frames.specs.Staged.{IsStaged}
use Rattle.ic_frames.specs.inner.Standing.{Stands, IsFrame}
use Rattle.ic_frames.proofs.FieldLemmas.{shut_from, open_from}
use Rattle.ic_frames.proofs.HeldLemmas.{stands_holds}
use Rattle.ic_frames.proofs.CrashLemmas.{staged_torn}
use Rattle.ic_frames.proofs.FrameLemmas.{number-framed, whole-framed, body-framed}
use Rattle.ic_frames.proofs.KeepLemmas.{laid_byte, zero_is_one, of_only}

module _ (held frame zeros file : List ℕ) (is : IsFrame 1 held frame) (short : length held ≤ 3036677) (long : length zeros ≡ 13) (zero_first : get_or zeros 0 0 ≡ 0) where
  -- the gate of the second slot
  second_gate : get_or (laid 4194304 zeros file) 4194304 0 ≡ 0
  second_gate = laid-inside 4194304 zeros file 4194304 (omega arith) (omega (arith, long)) ∙ zero_first

  still_closed : get_or (laid 0 (1 ∷ []) (laid 0 frame (laid 4194304 zeros file))) 4194304 0 ≡ 0
  still_closed =
      laid-after 0 (1 ∷ []) (laid 0 frame (laid 4194304 zeros file)) 4194304 (omega arith)
      ∙ laid-after 0 frame (laid 4194304 zeros file) 4194304 (omega (arith, is.long, short))
      ∙ second_gate

  is_made : IsMade (laid 0 (1 ∷ []) (laid 0 frame (laid 4194304 zeros file)))
  is_made = omega (arith, length-laid 0 (1 ∷ []) (laid 0 frame (laid 4194304 zeros file)), length-laid 0 frame (laid 4194304 zeros file), length-laid 4194304 zeros file, long)

  staged_first : IsStaged First 1 held (laid 0 frame (laid 4194304 zeros file))
  staged_first = record {
    number_is = number-framed 0 0 1 held frame (laid 4194304 zeros file) (omega arith) is short;
    whole = whole-framed 0 0 1 held frame (laid 4194304 zeros file) (omega arith) is short;
    body_is = body-framed 0 0 1 held frame (laid 4194304 zeros file) (omega arith) is short;
  }

  -- the first slot has the body, and the second is closed
  pub created_first : IsStaged First 1 held (laid 0 (1 ∷ []) (laid 0 frame (laid 4194304 zeros file)))
  created_first =
      let c2 = laid 0 frame (laid 4194304 zeros file) in
      staged_torn First 1 held c2 (laid 0 (1 ∷ []) c2) staged_first (torn_laid 0 (1 ∷ []) c2)

  pub created_shut : is_open 4194304 (laid 0 (1 ∷ []) (laid 0 frame (laid 4194304 zeros file))) ≡ false
  created_shut = shut_from 4194304 (laid 0 (1 ∷ []) (laid 0 frame (laid 4194304 zeros file))) (λ is_one. zero_is_one (sym still_closed ∙ is_one))

  pub created_holds : Holds held (laid 0 (1 ∷ []) (laid 0 frame (laid 4194304 zeros file)))
  created_holds =
      let c2 = laid 0 frame (laid 4194304 zeros file) in
      let c3 = laid 0 (1 ∷ []) c2 in
      let still = created_first in
      let opened : get_or c3 0 0 ≡ 1 = laid_byte 0 1 c2 in
      let stands : Stands First 1 true held c3 = record {
        opened = open_from 0 c3 (omega (arith, is_made)) opened;
        number_is = still.number_is;
        whole = still.whole;
        body_is = still.body_is;
        shut = λ _. created_shut;
        older = λ e. absurd (true≢false e);
      } in
      stands_holds First 1 true held c3 stands is_made

-- what the file after the last write has, each image has
pub on_created : {T E : Type 0} (r : Result T E) (P : List ℕ → Type 0) (start mid : List ℕ) (image : List ℕ → Type 0)
    → mid ≡ start → P (laid 0 (1 ∷ []) start) → OnOk r (Only (laid 0 (1 ∷ []) mid) image) → OnOk r (Within image P)
on_created (Ok value) P start mid image written has only = of_only P (laid 0 (1 ∷ []) mid) image only (subst (λ (f : List ℕ). P (laid 0 (1 ∷ []) f)) (sym written) has)
on_created (Err fault) P start mid image written has only = tt
