-- A stop in the midst of keeps leaves the state that was kept last, or the one that was coming.
use Rattle.std.proofs.Common.{◌≡◌, ◌⊎◌, inl, inr, ⊎_elim, ℕ, ◌+◌, ◌≤◌, Bool, true, false, List, Result, Ok, Err, sym, ◌∙◌, subst}
use Rattle.ic_disk.specs.Time.{LeftSince}
use Rattle.ic_frames.specs.declared.faults.KeepFault.{KeepFault}
use Rattle.ic_kept.specs.declared.keeper.Keeper.{Keeper}
use Rattle.ic_kept.specs.Sheet.{IsBeside, IsOlder}
use Rattle.ic_kept.specs.Held.{Hold, HoldEither}
use Rattle.ic_kept.specs.Keeper.{newest_of, number_of, is_closed, other_of, Keeps, KeepsModel}
use Rattle.ic_kept.specs.Course.{IsKeep, Course, no_keep, one_more, Way, all_answered, last_refused, LeftBetween, LeftInKeep, LeftInCourse, LeftOnWay, Leads, stays, goes_on, HoldOneOf}

is_older : (closed : Bool) (n : ℕ) (file : List ℕ) → IsBeside closed n file → IsOlder n file
is_older true n file is = record { made = is.made; older = λ opened. absurd (is.shut opened) }
is_older false n file is = record { made = is.made; older = λ opened. is.below }

either_holds : (n : ℕ) (state next a b : List ℕ) → HoldEither n state next a b → HoldOneOf state next a b
either_holds n state next a b is = ⊎_elim (λ old. inl (n, inl old)) (λ new. inr (n + 1, inr new)) is

module _ {D : Type 0} (keeps_model : D → Bool) (image : D → List ℕ → Type 0) (clock : D → ℕ) (left : D → ℕ → List ℕ → Type 0) (After : (old new : List ℕ) → Type 0) where
  -- what is kept after keeps that were answered
  pub kept_after : (k n : Keeper D) (first last : List ℕ) → KeepsModel keeps_model k → Keeps image first k → Course keeps_model image clock left After first k last n
      → KeepsModel keeps_model n × Keeps image last n
  kept_after k n first last model keeps (no_keep state x) = (model, keeps)
  kept_after k n first last model keeps (one_more f state next x m y before after keep) =
      let was = kept_after k m first state model keeps before in
      (keep.model was.0, keep.crash.kept state was.0 was.1)

  -- the disks keep the model after them, and after one that was refused
  pub model_after : (k n : Keeper D) (first : List ℕ) → KeepsModel keeps_model k → Keeps image first k → Way keeps_model image clock left After first k n → KeepsModel keeps_model n
  model_after k n first model keeps (all_answered f last x y course) = (kept_after k n first last model keeps course).0
  model_after k n first model keeps (last_refused f state next x m y fault before after keep) = keep.model (kept_after k m first state model keeps before).0

  holds_now : (state : List ℕ) (k : Keeper D) → Keeps image state k → (a b : List ℕ) → image (newest_of k) a → image (other_of k) b → Hold state a b
  holds_now state k keeps a b on_newest on_other =
      (number_of k, inl (record { newest = keeps.newest a on_newest; older = is_older (is_closed k) (number_of k) b (keeps.beside b on_other) }))

  left_between : (state : List ℕ) (k : Keeper D) → Keeps image state k → (kept coming a b : List ℕ) → LeftBetween keeps_model image clock left state k kept coming a b → HoldOneOf kept coming a b
  left_between state k keeps kept coming a b there = inl (subst (λ (s : List ℕ). Hold s a b) (sym there.kept_is) (holds_now state k keeps a b there.on_newest there.on_other))

  left_in : (result : Result (Unit {0}) KeepFault) (m n : Keeper D) (state next : List ℕ) → IsKeep keeps_model image clock left next result m n → KeepsModel keeps_model m
      → Keeps image state m → (kept coming a b : List ℕ) → LeftInKeep keeps_model image clock left state next result m n kept coming a b → HoldOneOf kept coming a b
  left_in result m n state next keep model keeps kept coming a b there = subst (λ (s : List ℕ). HoldOneOf s coming a b) (sym there.kept_is)
      (subst (λ (s : List ℕ). HoldOneOf state s a b) (sym there.coming_is)
      (either_holds (number_of m) state next a b ((keep.crash.any_moment state model keeps a there.spared).each b there.written)))

  pub left_in_course : (k n : Keeper D) (first last : List ℕ) → KeepsModel keeps_model k → Keeps image first k → (course : Course keeps_model image clock left After first k last n)
      → (kept coming a b : List ℕ) → LeftInCourse keeps_model image clock left course kept coming a b → HoldOneOf kept coming a b
  left_in_course k n first last model keeps (no_keep state x) kept coming a b there = left_between first k keeps kept coming a b there
  left_in_course k n first last model keeps (one_more f state next x m y before after keep) kept coming a b there =
      let was = kept_after k m first state model keeps before in
      ⊎_elim
      (λ earlier. left_in_course k m first state model keeps before kept coming a b earlier)
      (λ later. ⊎_elim
      (λ here. left_in (Ok tt) m n state next keep was.0 was.1 kept coming a b here)
      (λ from_there. left_between next n (keep.crash.kept state was.0 was.1) kept coming a b from_there)
      later)
      there

  pub left_on_way : (k n : Keeper D) (first : List ℕ) → KeepsModel keeps_model k → Keeps image first k → (way : Way keeps_model image clock left After first k n)
      → (kept coming a b : List ℕ) → LeftOnWay keeps_model image clock left way kept coming a b → HoldOneOf kept coming a b
  left_on_way k n first model keeps (all_answered f last x y course) kept coming a b there = left_in_course k n first last model keeps course kept coming a b there
  left_on_way k n first model keeps (last_refused f state next x m y fault before after keep) kept coming a b there =
      let was = kept_after k m first state model keeps before in
      ⊎_elim
      (λ earlier. left_in_course k m first state model keeps before kept coming a b earlier)
      (λ here. left_in (Err fault) m n state next keep was.0 was.1 kept coming a b here)
      there

  -- the states that lead to what was kept last, and to what was coming
  abbrev pub IsComing : (kept coming : List ℕ) → Type 0
  IsComing kept coming = (coming ≡ kept) ⊎ After kept coming

  abbrev OnWay : (first kept coming : List ℕ) → Type 0
  OnWay first kept coming = Leads After first kept × IsComing kept coming

  pub leads_on : (k n : Keeper D) (first last : List ℕ) → Course keeps_model image clock left After first k last n → Leads After first last
  leads_on k n first last (no_keep state x) = stays state
  leads_on k n first last (one_more f state next x m y before after keep) = goes_on first state next (leads_on k m first state before) after

  -- at the end of a way the disks hold a state to which the first one leads, also where the last keep was refused
  pub held_at_end : ((disk : D) (t : ℕ) (file : List ℕ) → t ≤ clock disk → image disk file → LeftSince (left disk) t file) → (k n : Keeper D) (first : List ℕ) → KeepsModel keeps_model k
      → Keeps image first k → Way keeps_model image clock left After first k n → (a b : List ℕ) → image (newest_of n) a → image (other_of n) b → (state : List ℕ) × Leads After first state × Hold state a b
  held_at_end is_left k n first model keeps (all_answered f last x y course) a b on_newest on_other =
      (last, leads_on k n first last course, holds_now last n (kept_after k n first last model keeps course).1 a b on_newest on_other)
  held_at_end is_left k n first model keeps (last_refused f state next x m y fault before after keep) a b on_newest on_other =
      let was = kept_after k m first state model keeps before in
      let leads = leads_on k m first state before in
      let moment = keep.crash.any_moment state was.0 was.1 a (subst (λ (disk : D). image disk a) keep.crash.spared on_newest) in
      let either = either_holds (number_of m) state next a b (moment.each b (is_left (other_of n) (clock (other_of m)) b moment.later on_other)) in
      ⊎_elim (λ old. (state, leads, old)) (λ new. (next, goes_on first state next leads after, new)) either

  here_between : (first state : List ℕ) (k : Keeper D) → Leads After first state → (kept coming a b : List ℕ) → LeftBetween keeps_model image clock left state k kept coming a b → OnWay first kept coming
  here_between first state k leads kept coming a b there = (subst (λ (s : List ℕ). Leads After first s) (sym there.kept_is) leads, inl (there.coming_is ∙ sym there.kept_is))

  here_in : (first state next : List ℕ) (result : Result (Unit {0}) KeepFault) (m n : Keeper D) → Leads After first state → After state next → (kept coming a b : List ℕ)
      → LeftInKeep keeps_model image clock left state next result m n kept coming a b → OnWay first kept coming
  here_in first state next result m n leads after kept coming a b there = (
    subst (λ (s : List ℕ). Leads After first s) (sym there.kept_is) leads,
    inr (subst (λ (s : List ℕ). After s coming) (sym there.kept_is) (subst (λ (s : List ℕ). After state s) (sym there.coming_is) after)),
  )

  pub course_leads : (k n : Keeper D) (first last : List ℕ) → (course : Course keeps_model image clock left After first k last n)
      → (kept coming a b : List ℕ) → LeftInCourse keeps_model image clock left course kept coming a b → OnWay first kept coming
  course_leads k n first last (no_keep state x) kept coming a b there = here_between first first k (stays first) kept coming a b there
  course_leads k n first last (one_more f state next x m y before after keep) kept coming a b there =
      let leads = leads_on k m first state before in
      ⊎_elim
      (λ earlier. course_leads k m first state before kept coming a b earlier)
      (λ later. ⊎_elim
      (λ here. here_in first state next (Ok tt) m n leads after kept coming a b here)
      (λ from_there. here_between first next n (goes_on first state next leads after) kept coming a b from_there)
      later)
      there

  pub way_leads : (k n : Keeper D) (first : List ℕ) → (way : Way keeps_model image clock left After first k n)
      → (kept coming a b : List ℕ) → LeftOnWay keeps_model image clock left way kept coming a b → OnWay first kept coming
  way_leads k n first (all_answered f last x y course) kept coming a b there = course_leads k n first last course kept coming a b there
  way_leads k n first (last_refused f state next x m y fault before after keep) kept coming a b there =
      let leads = leads_on k m first state before in
      ⊎_elim
      (λ earlier. course_leads k m first state before kept coming a b earlier)
      (λ here. here_in first state next (Err fault) m n leads after kept coming a b here)
      there

-- the states that lead to one lead on with those after it
pub leads_then : (After : (old new : List ℕ) → Type 0) (first state last : List ℕ) → Leads After first state → Leads After state last → Leads After first last
leads_then After first state last before (stays x) = before
leads_then After first state last before (goes_on f x next after step) = goes_on first x next (leads_then After first state x before after) step
