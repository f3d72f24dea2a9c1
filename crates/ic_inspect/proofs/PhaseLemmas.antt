-- The three phases of a keep are steps of a server.
use Rattle.std.proofs.Common.{◌≡◌, ◌⊎◌, inl, inr, ⊎_elim, ℕ, ◌+◌, ◌-◌, ◌≤◌, ◌↔◌, Bool, true, false, List, [], ◌∷◌, length, get_or, Result, Ok, Err, OnOk, OnErr, IsErrOf, refl, sym, ap, subst, ◌∙◌, arith}
use Rattle.std.proofs.lemmas.Bool.{cases_Bool, cases_lt, false≢true, false_from_ne_true}
use Rattle.ic_disk.specs.Content.{laid}
use Rattle.ic_disk.specs.declared.disk.Disk.{Ghosts}
use Rattle.ic_disk.specs.lemmas.ContentLaws.{laid-inside}
use Rattle.ic_disk.specs.lemmas.ImageLaws.{torn_laid}
use Rattle.ic_frames.specs.declared.faults.KeepFault.{KeepFault}
use Rattle.ic_frames.specs.declared.faults.KeepFault.TheVariants.{Broken}
use Rattle.ic_frames.specs.declared.frame.TheConstants.{HEAD, MAX_BODY}
use Rattle.ic_frames.specs.declared.frames.Frames.{Frames}
use Rattle.ic_frames.specs.declared.slot.Slot.{Slot}
use Rattle.ic_frames.specs.declared.slot.Slot.TheVariants.{First, Second}
use Rattle.ic_frames.specs.declared.slot.TheConstants.{SECOND_AT}
use Rattle.ic_frames.specs.Fields.{number, is_open, is_whole, IsMade}
use Rattle.ic_frames.specs.Frames.{target_of, number_of, is_broken, is_closed, content_of}
use Rattle.ic_frames.specs.Held.{Held, IsNewest, body_held, the_body, no_slot, two_alike, damaged}
use Rattle.ic_frames.specs.Layout.{after_gate}
use Rattle.ic_frames.specs.Opened.{IsOnNewest, KeepsOneBody}
use Rattle.ic_frames.specs.Places.{place, other}
use Rattle.ic_frames.specs.Staged.{IsStaged}
use Rattle.ic_inspect.specs.Moments.{IsServerStep, IsWholeNewest}
use Rattle.ic_inspect.proofs.MomentLemmas.{same_self}
use Rattle.ic_inspect.proofs.StepLemmas.{Amid, amid, gate_room, opening_torn, same_step, shut_by, shut_step, stays_beside}

-- ---- the newest slot of a file that holds a body is whole
abbrev IsBody : Held → Type 0
IsBody (the_body kept) = Unit {0}
IsBody no_slot = ⊥
IsBody two_alike = ⊥
IsBody damaged = ⊥

whole_newest : (spoiled : (slot : Slot) (file : List ℕ) → IsNewest slot file → is_whole (place slot) file ≡ false → body_held file ≡ damaged)
    → (s : Slot) (file kept : List ℕ) → IsNewest s file → body_held file ≡ the_body kept → IsWholeNewest s file
whole_newest spoiled s file kept newest held = record {
  is_newest = newest;
  whole = ⊎_elim
      (λ whole. whole)
      (λ cut. absurd (subst IsBody (sym held ∙ spoiled s file newest cut) tt))
      (cases_Bool (is_whole (place s) file));
}

-- what was answered Ok was asked of frames that aren't broken
unbroken : {T : Type 0} (r : Result T KeepFault) (broken : Bool) (P : Type 0) → IsErrOf r Broken ↔ (broken ≡ true) → (broken ≡ false → P) → OnOk r P
unbroken {T} (Ok v) broken P law so = so (false_from_ne_true broken (λ is. subst (λ (answer : Result T KeepFault). OnErr answer ⊥) (law.1 is) tt))
unbroken (Err e) broken P law so = tt

-- Ok of frames that were on the newest slot, that slot is whole
pub whole_of : {D T : Type 0} {ghosts : Ghosts D} (r : Result T KeepFault) (f : Frames D ghosts) → ((slot : Slot) (file : List ℕ) → IsNewest slot file → is_whole (place slot) file ≡ false → body_held file ≡ damaged)
    → IsErrOf r Broken ↔ (is_broken f ≡ true) → (is_broken f ≡ false → KeepsOneBody f) → IsNewest (other (target_of f)) (content_of f) → OnOk r (IsWholeNewest (other (target_of f)) (content_of f))
whole_of r f spoiled law one newest =
    unbroken r (is_broken f) (IsWholeNewest (other (target_of f)) (content_of f)) law
    (λ ready. let kept = one ready in whole_newest spoiled (other (target_of f)) (content_of f) kept.kept newest kept.held)

-- ---- where frames stand
pub record On (t : Slot) (n : ℕ) (closed : Bool) (file : List ℕ) : Type 0 where
  pub newest : IsNewest (other t) file
  pub number_is : number (place (other t)) file ≡ n
  pub shut : closed ≡ true → is_open (place t) file ≡ false
  pub opened : closed ≡ false → is_open (place t) file ≡ true

pub on_of : {D : Type 0} {ghosts : Ghosts D} (f : Frames D ghosts) (file : List ℕ) → IsOnNewest f file → On (target_of f) (number_of f) (is_closed f) file
on_of f file is = record { newest = is.newest; number_is = is.number_is; shut = is.shut; opened = is.opened }

pub of_on : {D : Type 0} {ghosts : Ghosts D} (f : Frames D ghosts) (t : Slot) (n : ℕ) (closed : Bool) (file : List ℕ) → target_of f ≡ t → number_of f ≡ n → is_closed f ≡ closed → On t n closed file
    → IsOnNewest f file
of_on f t n closed file target numbered gate on =
    let here : On (target_of f) (number_of f) (is_closed f) file =
    subst (λ (u : Slot). On u (number_of f) (is_closed f) file) (sym target)
    (subst (λ (m : ℕ). On t m (is_closed f) file) (sym numbered) (subst (λ (b : Bool). On t n b file) (sym gate) on)) in
    record { newest = here.newest; number_is = here.number_is; shut = here.shut; opened = here.opened }

-- a file in which the newest slot is the same, and the other is closed
on_amid : (t : Slot) (n : ℕ) (closed : Bool) (old new : List ℕ) → On t n closed old → Amid t old new → On t n true new
on_amid First n closed old new on is = record {
  newest = record { opened = is.stays.opened ∙ on.newest.opened; newer = λ opened. absurd (false≢true (sym is.shut ∙ opened)) };
  number_is = is.stays.number_is ∙ on.number_is;
  shut = λ _. is.shut;
  opened = λ no. absurd (false≢true (sym no));
}
on_amid Second n closed old new on is = record {
  newest = record { opened = is.stays.opened ∙ on.newest.opened; newer = λ opened. absurd (false≢true (sym is.shut ∙ opened)) };
  number_is = is.stays.number_is ∙ on.number_is;
  shut = λ _. is.shut;
  opened = λ no. absurd (false≢true (sym no));
}

-- ---- closing a gate
zero_laid : (t : Slot) (bytes old : List ℕ) → get_or (laid (place t) (0 ∷ bytes) old) (place t) 0 ≡ 0
zero_laid t bytes old =
    let here : place t - place t ≡ 0 = omega arith in
    laid-inside (place t) (0 ∷ bytes) old (place t) (omega arith) (omega arith) ∙ ap (λ (k : ℕ). get_or (0 ∷ bytes) k 0) here

closed_amid : (t : Slot) (old new : List ℕ) → IsWholeNewest (other t) old → new ≡ laid (place t) (0 ∷ []) old → Amid t old new
closed_amid t old new is written = subst (Amid t old) (sym written) (record {
  stays = stays_beside t (place t) 1 old (laid (place t) (0 ∷ []) old) (gate_room t) is (torn_laid (place t) (0 ∷ []) old);
  shut = shut_by (place t) (laid (place t) (0 ∷ []) old) (zero_laid t [] old);
})

pub closing_step : {T : Type 0} (r : Result T KeepFault) (t : Slot) (closed : Bool) (old new : List ℕ) → OnOk r (IsWholeNewest (other t) old)
    → (closed ≡ false → OnOk r (new ≡ laid (place t) (0 ∷ []) old)) → (closed ≡ true → new ≡ old) → OnOk r (IsServerStep old new)
closing_step (Ok v) t true old new is written idle =
    subst (IsServerStep old) (sym (idle refl)) (same_step t old old is.is_newest (same_self (other t) old) (same_self t old))
closing_step (Ok v) t false old new is written idle = let amid = closed_amid t old new is (written refl) in shut_step t old new is.is_newest amid.stays amid.shut
closing_step (Err e) t closed old new is written idle = tt

pub closing_on : {T : Type 0} (r : Result T KeepFault) (t : Slot) (n : ℕ) (closed : Bool) (old new : List ℕ) → OnOk r (IsWholeNewest (other t) old) → On t n closed old
    → (closed ≡ false → OnOk r (new ≡ laid (place t) (0 ∷ []) old)) → (closed ≡ true → new ≡ old) → OnOk r (On t n true new)
closing_on (Ok v) t n true old new is on written idle = subst (On t n true) (sym (idle refl)) on
closing_on (Ok v) t n false old new is on written idle = on_amid t n false old new on (closed_amid t old new is (written refl))
closing_on (Err e) t n closed old new is on written idle = tt

-- ---- writing a body
length-after_gate : (n : ℕ) (held : List ℕ) → length (after_gate n held) ≡ 12 + length held
length-after_gate n held = omega arith

made_or_not : (old : List ℕ) → IsMade old ⊎ (¬ IsMade old)
made_or_not old = ⊎_elim (λ short. inr (λ made. absurd (omega (arith, short, made)))) (λ made. inl made) (cases_lt (length old) (SECOND_AT + HEAD))

pub written_amid : {T : Type 0} (r : Result T KeepFault) (t : Slot) (n : ℕ) (held old new : List ℕ) → length held ≤ MAX_BODY → OnOk r (IsWholeNewest (other t) old) → is_open (place t) old ≡ false
    → (IsMade old → OnOk r (new ≡ laid (place t + 1) (after_gate (n + 1) held) old))
    → (¬ IsMade old → OnOk r (new ≡ laid (place t) (0 ∷ after_gate (n + 1) held) old)) → OnOk r (Amid t old new)
written_amid (Ok v) t n held old new few is shut made unmade = ⊎_elim
    (λ m. subst (Amid t old) (sym (made m))
    (amid t (length (after_gate (n + 1) held)) old (laid (place t + 1) (after_gate (n + 1) held) old) is shut m
    (omega (arith, few, length-after_gate (n + 1) held)) (torn_laid (place t + 1) (after_gate (n + 1) held) old)))
    (λ m. subst (Amid t old) (sym (unmade m)) (record {
      stays = stays_beside t (place t) (length (0 ∷ after_gate (n + 1) held)) old (laid (place t) (0 ∷ after_gate (n + 1) held) old)
          (record { from = omega arith; until = omega (arith, few, length-after_gate (n + 1) held) }) is (torn_laid (place t) (0 ∷ after_gate (n + 1) held) old);
      shut = shut_by (place t) (laid (place t) (0 ∷ after_gate (n + 1) held) old) (zero_laid t (after_gate (n + 1) held) old);
    }))
    (made_or_not old)
written_amid (Err e) t n held old new few is shut made unmade = tt

pub writing_step : {T : Type 0} (r : Result T KeepFault) (t : Slot) (old new : List ℕ) → OnOk r (IsWholeNewest (other t) old) → OnOk r (Amid t old new) → OnOk r (IsServerStep old new)
writing_step (Ok v) t old new is amid = shut_step t old new is.is_newest amid.stays amid.shut
writing_step (Err e) t old new is amid = tt

pub writing_on : {T : Type 0} (r : Result T KeepFault) (t : Slot) (n : ℕ) (closed : Bool) (old new : List ℕ) → On t n closed old → OnOk r (Amid t old new) → OnOk r (On t n true new)
writing_on (Ok v) t n closed old new on amid = on_amid t n closed old new on amid
writing_on (Err e) t n closed old new on amid = tt

-- ---- opening a gate
pub opening_step : {T : Type 0} (r : Result T KeepFault) (t : Slot) (n : ℕ) (next old new : List ℕ) → OnOk r (IsWholeNewest (other t) old) → On t n true old → IsStaged t (n + 1) next old
    → OnOk r (new ≡ laid (place t) (1 ∷ []) old) → OnOk r (IsServerStep old new)
opening_step (Ok v) t n next old new is on staged written =
    subst (IsServerStep old) (sym written)
    (opening_torn t old (laid (place t) (1 ∷ []) old) is (on.shut refl) staged.whole (omega (arith, on.number_is, staged.number_is)) (torn_laid (place t) (1 ∷ []) old))
opening_step (Err e) t n next old new is on staged written = tt

-- ---- the frames afterwards
pub newest_after : {D T : Type 0} {ghosts : Ghosts D} (r : Result T KeepFault) (f : Frames D ghosts) (t : Slot) (n : ℕ) (file : List ℕ) → target_of f ≡ t → number_of f ≡ n → OnOk r (is_closed f ≡ true)
    → OnOk r (On t n true file) → OnOk r (IsOnNewest f file)
newest_after (Ok v) f t n file target numbered gate on = of_on f t n true file target numbered gate on
newest_after (Err e) f t n file target numbered gate on = tt

-- what each image has the content has
pub of_images : {T : Type 0} (r : Result T KeepFault) (content : List ℕ) (image P : List ℕ → Type 0) → image content → OnOk r ((file : List ℕ) → image file → P file) → OnOk r (P content)
of_images (Ok v) content image P there each = each content there
of_images (Err e) content image P there each = tt

pub ok_of : {T : Type 0} (r : Result T KeepFault) (P : Type 0) → P → OnOk r P
ok_of (Ok v) P so = so
ok_of (Err e) P so = tt

pub on_closed : {D : Type 0} {ghosts : Ghosts D} (f : Frames D ghosts) (file : List ℕ) → is_closed f ≡ true → IsOnNewest f file → On (target_of f) (number_of f) true file
on_closed f file closed is = subst (λ (b : Bool). On (target_of f) (number_of f) b file) closed (on_of f file is)
