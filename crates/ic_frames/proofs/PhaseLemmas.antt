-- What the phases of a keep leave of a disk, at each moment and at the end.
use Rattle.std.proofs.Common.{◌≡◌, ◌⊎◌, inl, ⊎_elim, ℕ, ◌+◌, ◌-◌, ◌≤◌, Bool, true, false, List, [], ◌∷◌, length, drop, Result, Ok, Err, OnOk, sym, ◌∙◌, ap, subst, arith}
use Rattle.ic_disk.specs.Content.{laid}
use Rattle.ic_disk.specs.Images.{TornFrom, Within, Only}
use Rattle.ic_disk.specs.Time.{LeavesOnly, LeftSince}
use Rattle.ic_disk.specs.lemmas.Moments.{leaves_weaker, then_runs}
use Rattle.ic_frames.specs.declared.slot.Slot.{Slot}
use Rattle.ic_frames.specs.Places.{place, other}
use Rattle.ic_frames.specs.Fields.{number, is_open, IsMade}
use Rattle.ic_frames.specs.Layout.{after_gate}
use Rattle.ic_frames.specs.Held.{HasBody, Holds, HoldsEither, IsNewest}
use Rattle.ic_frames.specs.Staged.{IsStaged}
use Rattle.ic_frames.specs.inner.Standing.{IsKept, IsFrame}
use Rattle.ic_frames.proofs.KeepLemmas.{is_made, gate_leaves, gate_kept, body_leaves, body_holds, not_made_leaves, body_kept, open_leaves, open_kept, open_holds, open_newest, of_only}
use Rattle.ic_frames.proofs.CrashLemmas.{other-other}

module _ {D : Type 0} (content : D → List ℕ) (image : D → List ℕ → Type 0) (clock : D → ℕ) (left : D → ℕ → List ℕ → Type 0) (old new : D) (now : image old (content old)) (newest slot : Slot) (n : ℕ) (at : slot ≡ other newest) where
  gate_run' : (staged made : Bool) → IsKept (content old) (image old) newest n false staged made → LeavesOnly clock left old new (TornFrom (place (other newest)) 1 (image old)) → (kept : List ℕ) → Within (image old) (Holds kept) → LeavesOnly clock left old new (Holds kept)
  gate_run' staged made is run kept holds = leaves_weaker clock left old new (TornFrom (place (other newest)) 1 (image old)) (Holds kept) run (gate_leaves (content old) (image old) newest n staged made now is kept holds)

  pub gate_run : (closed staged made : Bool) → IsKept (content old) (image old) newest n closed staged made → closed ≡ false → LeavesOnly clock left old new (TornFrom (place slot) 1 (image old)) → (kept : List ℕ) → Within (image old) (Holds kept) → LeavesOnly clock left old new (Holds kept)
  gate_run closed staged made is opened run = gate_run' staged made (subst (λ (b : Bool). IsKept (content old) (image old) newest n b staged made) opened is)
      (subst (λ (s : Slot). LeavesOnly clock left old new (TornFrom (place s) 1 (image old))) at run)

  pub gate_end : (closed staged made : Bool) → IsKept (content old) (image old) newest n closed staged made → closed ≡ false → content new ≡ laid (place slot) (0 ∷ []) (content old) → Only (laid (place slot) (0 ∷ []) (content old)) (image new)
      → IsKept (content new) (image new) newest n true staged made
  gate_end closed staged made is opened written only =
      subst (λ (c : List ℕ). IsKept c (image new) newest n true staged made) (sym (written ∙ ap (λ (s : Slot). laid (place s) (0 ∷ []) (content old)) at))
      (gate_kept (content old) (image old) newest n staged made now (subst (λ (b : Bool). IsKept (content old) (image old) newest n b staged made) opened is) (image new)
      (subst (λ (s : Slot). Only (laid (place s) (0 ∷ []) (content old)) (image new)) at only))

  -- Closing the gate leaves each image the body that it had.
  pub gate_stays : (closed staged made : Bool) → IsKept (content old) (image old) newest n closed staged made → closed ≡ false → LeavesOnly clock left old new (TornFrom (place slot) 1 (image old))
      → ((file : List ℕ) → clock old ≤ clock new → image new file → LeftSince (left new) (clock old) file) → (kept : List ℕ) → Within (image old) (HasBody kept) → Within (image new) (HasBody kept)
  gate_stays closed staged made is opened run law kept has file there =
      let made_now = is_made (content old) (image old) newest n staged made now (subst (λ (b : Bool). IsKept (content old) (image old) newest n b staged made) opened is) in
      let holds = gate_run closed staged made is opened run kept (λ c here. record { made = is.all_made made_now c here; held = has c here }) in
      (holds.each file (law file run.later there)).held

  pub body_run : (closed staged made : Bool) (skip : ℕ) (frame : List ℕ) → IsKept (content old) (image old) newest n closed staged made → closed ≡ true → length frame ≤ 13 + 3036677 → ((made ≡ true) × (skip ≡ 1)) ⊎ ((made ≡ false) × (skip ≡ 0))
      → LeavesOnly clock left old new (TornFrom (place slot + skip) (length frame - skip) (image old)) → (kept : List ℕ) → Within (image old) (Holds kept) → LeavesOnly clock left old new (Holds kept)
  body_run closed staged made skip frame is shut short which run kept holds =
      let kept_true = subst (λ (b : Bool). IsKept (content old) (image old) newest n b staged made) shut is in
      ⊎_elim
      (λ full. leaves_weaker clock left old new (TornFrom (place (other newest) + 1) (length frame - 1) (image old)) (Holds kept)
      (subst (λ (k : ℕ). LeavesOnly clock left old new (TornFrom (place (other newest) + k) (length frame - k) (image old))) full.1
      (subst (λ (s : Slot). LeavesOnly clock left old new (TornFrom (place s + skip) (length frame - skip) (image old))) at run))
      (body_leaves (content old) (image old) newest n staged made now kept_true (length frame - 1) kept full.0 (omega arith) holds))
      (λ cut. absurd (not_made_leaves (content old) (image old) newest n staged made now kept_true kept cut.0 holds))
      which

  pub body_end : (closed staged made : Bool) (skip : ℕ) (held frame : List ℕ) → IsKept (content old) (image old) newest n closed staged made → closed ≡ true → IsFrame (n + 1) held frame → length held ≤ 3036677 → ((made ≡ true) × (skip ≡ 1)) ⊎ ((made ≡ false) × (skip ≡ 0))
      → content new ≡ laid (place slot + skip) (drop skip frame) (content old) → Only (laid (place slot + skip) (drop skip frame) (content old)) (image new)
      → IsKept (content new) (image new) newest n closed true true × Within (image new) (IsStaged (other newest) (n + 1) held)
  body_end closed staged made skip held frame is shut is_frame short which written only =
      let both = body_kept (content old) (image old) newest n staged made now (subst (λ (b : Bool). IsKept (content old) (image old) newest n b staged made) shut is) skip held frame (image new) is_frame short which
      (subst (λ (s : Slot). Only (laid (place s + skip) (drop skip frame) (content old)) (image new)) at only) in (
        subst (λ (b : Bool). IsKept (content new) (image new) newest n b true true) (sym shut)
            (subst (λ (c : List ℕ). IsKept c (image new) newest n true true true) (sym (written ∙ ap (λ (s : Slot). laid (place s + skip) (drop skip frame) (content old)) at)) both.0),
        both.1,
      )

  -- Writing the body leaves an image that isn't made, or each image holds the body that it had.
  pub body_if_made : (closed staged made : Bool) (skip : ℕ) (held frame : List ℕ) → IsKept (content old) (image old) newest n closed staged made → closed ≡ true → IsFrame (n + 1) held frame → length held ≤ 3036677 → ((made ≡ true) × (skip ≡ 1)) ⊎ ((made ≡ false) × (skip ≡ 0))
      → LeavesOnly clock left old new (TornFrom (place slot + skip) (length frame - skip) (image old)) → ((file : List ℕ) → clock old ≤ clock new → image new file → LeftSince (left new) (clock old) file)
      → Within (image old) (image new) ⊎ Only (laid (place slot + skip) (drop skip frame) (content old)) (image new)
      → (kept : List ℕ) → Within (image old) (HasBody kept) → Within (image new) IsMade → Within (image new) (Holds kept)
  body_if_made closed staged made skip held frame is shut is_frame short which run law ends kept has all file there = ⊎_elim
      (λ full.
      let holds = body_run closed staged made skip frame is shut (omega (arith, is_frame.long, short)) which run kept (λ c here. record { made = is.all_made full.0 c here; held = has c here }) in
      holds.each file (law file run.later there))
      (λ cut. ⊎_elim
      (λ stay. absurd (omega (arith, (is.not_made cut.0).0, all (content old) (stay (content old) now))))
      (λ only.
      body_holds (content old) (image old) newest n staged made now (subst (λ (b : Bool). IsKept (content old) (image old) newest n b staged made) shut is) skip held frame kept (image new) is_frame short which (has (content old) now)
      (subst (λ (s : Slot). Only (laid (place s + skip) (drop skip frame) (content old)) (image new)) at only) file there)
      ends)
      which

  pub body_written : (closed staged made : Bool) (skip : ℕ) (held frame : List ℕ) → IsKept (content old) (image old) newest n closed staged made → IsFrame (n + 1) held frame → ((made ≡ true) × (skip ≡ 1)) ⊎ ((made ≡ false) × (skip ≡ 0))
      → content new ≡ laid (place slot + skip) (drop skip frame) (content old) → IsMade (content old) → content new ≡ laid (place (other newest) + 1) (after_gate (n + 1) held) (content old)
  body_written closed staged made skip held frame is is_frame which written long = written ∙ ⊎_elim
      (λ full.
      ap (λ (s : Slot). laid (place s + skip) (drop skip frame) (content old)) at
      ∙ ap (λ (k : ℕ). laid (place (other newest) + k) (drop k frame) (content old)) full.1
      ∙ ap (λ (l : List ℕ). laid (place (other newest) + 1) (drop 1 l) (content old)) is_frame.bytes_are)
      (λ cut. absurd (omega (arith, long, (is.not_made cut.0).0)))
      which

  pub body_written_whole : (closed staged made : Bool) (skip : ℕ) (held frame : List ℕ) → IsKept (content old) (image old) newest n closed staged made → IsFrame (n + 1) held frame → ((made ≡ true) × (skip ≡ 1)) ⊎ ((made ≡ false) × (skip ≡ 0))
      → content new ≡ laid (place slot + skip) (drop skip frame) (content old) → ¬ IsMade (content old) → content new ≡ laid (place (other newest)) (0 ∷ after_gate (n + 1) held) (content old)
  body_written_whole closed staged made skip held frame is is_frame which written short = written ∙ ⊎_elim
      (λ full. absurd (short (is.all_made full.0 (content old) now)))
      (λ cut.
      let here : place (other newest) + 0 ≡ place (other newest) = omega arith in
      ap (λ (s : Slot). laid (place s + skip) (drop skip frame) (content old)) at
      ∙ ap (λ (k : ℕ). laid (place (other newest) + k) (drop k frame) (content old)) cut.1
      ∙ ap (λ (k : ℕ). laid k frame (content old)) here
      ∙ ap (λ (l : List ℕ). laid (place (other newest)) l (content old)) is_frame.bytes_are)
      which

  staged_kept : (closed staged made : Bool) → IsKept (content old) (image old) newest n closed staged made → staged ≡ true → IsKept (content old) (image old) newest n true true true
  staged_kept closed staged made is staged_now =
      subst (λ (b : Bool). IsKept (content old) (image old) newest n b true true) (is.staged_in staged_now).0
      (subst (λ (b : Bool). IsKept (content old) (image old) newest n closed true b) (is.staged_in staged_now).1
      (subst (λ (b : Bool). IsKept (content old) (image old) newest n closed b made) staged_now is))

  pub open_run : (closed staged made : Bool) → IsKept (content old) (image old) newest n closed staged made → staged ≡ true → LeavesOnly clock left old new (TornFrom (place slot) 1 (image old))
      → (kept next : List ℕ) → Within (image old) (Holds kept) → Within (image old) (IsStaged (other newest) (n + 1) next) → LeavesOnly clock left old new (HoldsEither kept next)
  open_run closed staged made is staged_now run kept next holds whole = leaves_weaker clock left old new (TornFrom (place (other newest)) 1 (image old)) (HoldsEither kept next)
      (subst (λ (s : Slot). LeavesOnly clock left old new (TornFrom (place s) 1 (image old))) at run)
      (open_leaves (content old) (image old) newest n now (staged_kept closed staged made is staged_now) kept next holds whole)

  pub open_end : (closed staged made : Bool) → IsKept (content old) (image old) newest n closed staged made → staged ≡ true → content new ≡ laid (place slot) (1 ∷ []) (content old) → Only (laid (place slot) (1 ∷ []) (content old)) (image new)
      → IsKept (content new) (image new) slot (n + 1) false false true
  open_end closed staged made is staged_now written only =
      subst (λ (s : Slot). IsKept (content new) (image new) s (n + 1) false false true) (sym at)
      (subst (λ (c : List ℕ). IsKept c (image new) (other newest) (n + 1) false false true) (sym (written ∙ ap (λ (s : Slot). laid (place s) (1 ∷ []) (content old)) at))
      (open_kept (content old) (image old) newest n now (staged_kept closed staged made is staged_now) (image new)
      (subst (λ (s : Slot). Only (laid (place s) (1 ∷ []) (content old)) (image new)) at only)))

  pub opened_newest : (closed staged made : Bool) → IsKept (content old) (image old) newest n closed staged made → staged ≡ true → Only (laid (place slot) (1 ∷ []) (content old)) (image new)
      → (file : List ℕ) → image new file → (IsNewest (other (other slot)) file) × (number (place (other (other slot))) file ≡ n + 1) × (is_open (place (other slot)) file ≡ true)
  opened_newest closed staged made is staged_now only file there =
      let there_slot = sym at ∙ sym (other-other slot) in
      let has = of_only
      (λ (f : List ℕ). (IsNewest (other newest) f) × (number (place (other newest)) f ≡ n + 1) × (is_open (place newest) f ≡ true))
      (laid (place (other newest)) (1 ∷ []) (content old)) (image new)
      (subst (λ (s : Slot). Only (laid (place s) (1 ∷ []) (content old)) (image new)) at only)
      (open_newest (content old) (image old) newest n now (staged_kept closed staged made is staged_now)) file there in (
        subst (λ (s : Slot). IsNewest s file) there_slot has.0,
        subst (λ (s : Slot). number (place s) file ≡ n + 1) there_slot has.1,
        subst (λ (s : Slot). is_open (place s) file ≡ true) (sym (other-other newest) ∙ ap other (sym at)) has.2,
      )

  pub made_now : (closed staged made : Bool) → IsKept (content old) (image old) newest n closed staged made → staged ≡ true → made ≡ true
  made_now closed staged made is staged_now = (is.staged_in staged_now).1

  pub open_whole : (closed staged made : Bool) → IsKept (content old) (image old) newest n closed staged made → staged ≡ true → Only (laid (place slot) (1 ∷ []) (content old)) (image new)
      → (next : List ℕ) → Within (image old) (IsStaged (other newest) (n + 1) next) → Within (image new) (Holds next)
  open_whole closed staged made is staged_now only next whole =
      open_holds (content old) (image old) newest n now (staged_kept closed staged made is staged_now) next (image new) whole
      (subst (λ (s : Slot). Only (laid (place s) (1 ∷ []) (content old)) (image new)) at only)

module _ {D : Type 0} (image : D → List ℕ → Type 0) (clock : D → ℕ) (left : D → ℕ → List ℕ → Type 0) where
  -- what a run leaves at any moment is there at its end
  pub at_end : (old new : D) (P : List ℕ → Type 0) → ((file : List ℕ) → image new file → LeftSince (left new) (clock old) file) → LeavesOnly clock left old new P → Within (image new) P
  at_end old new P counts run file is = run.each file (counts file is)

  -- a keep: two phases that leave what was kept, and one that leaves that or the next
  pub keep_run : (old closed staged new : D) (kept next : List ℕ) → LeavesOnly clock left old closed (Holds kept) → LeavesOnly clock left closed staged (Holds kept) → LeavesOnly clock left staged new (HoldsEither kept next)
      → LeavesOnly clock left old new (HoldsEither kept next)
  keep_run old closed staged new kept next first second third =
      then_runs clock left old staged new (HoldsEither kept next) (HoldsEither kept next)
      (then_runs clock left old closed staged (HoldsEither kept next) (Holds kept)
      (leaves_weaker clock left old closed (Holds kept) (HoldsEither kept next) first (λ file is. inl is))
      second (λ file is. inl is))
      third (λ file is. is)

  -- a keep that ended after the first two
  pub stop_run : (old closed staged : D) (kept next : List ℕ) → LeavesOnly clock left old closed (Holds kept) → LeavesOnly clock left closed staged (Holds kept) → LeavesOnly clock left old staged (HoldsEither kept next)
  stop_run old closed staged kept next first second =
      then_runs clock left old closed staged (HoldsEither kept next) (Holds kept)
      (leaves_weaker clock left old closed (Holds kept) (HoldsEither kept next) first (λ file is. inl is))
      second (λ file is. inl is)

-- what follows from what holds at Ok
pub on_ok : {T E : Type 0} (r : Result T E) (P Q : Type 0) → (P → Q) → OnOk r P → OnOk r Q
on_ok (Ok value) P Q f is = f is
on_ok (Err fault) P Q f is = tt
