-- What the definition of what a file holds comes to.
use Rattle.std.proofs.Common.{◌≡◌, ◌⊎◌, inl, inr, ⊎_elim, ℕ, ◌+◌, ◌-◌, ◌<◌, Bool, true, false, List, length, get_or, drop, refl, sym, ◌∙◌, ap, arith, length-drop}
use Rattle.std.proofs.lemmas.Bool.{cases_Bool, cases_order, eq-eqb, false≢true}
use Rattle.std.proofs.lemmas.List.{length-take}
use Rattle.std.specs.Prelude.{◌==◌, nat_lt, if◌then◌else◌}
use Rattle.ic_disk.specs.Content.{bytes_at}
use Rattle.ic_frames.specs.declared.slot.Slot.{Slot}
use Rattle.ic_frames.specs.declared.slot.Slot.TheVariants.{First, Second}
use Rattle.ic_frames.specs.Places.{place, other}
use Rattle.ic_frames.specs.Fields.{number, body, is_open, is_whole}
use Rattle.ic_frames.specs.Held.{the_body, no_slot, two_alike, damaged, body_held, IsNewest, IsShut, HasTwoAlike, HasSameHeads}
use Rattle.ic_frames.proofs.FieldLemmas.{SameAt, part_of, length-bytes_at, get_or-bytes_at, number-same, open-same, open_parts}
use Rattle.ic_frames.proofs.HeldLemmas.{newest_held, both_open, none_open, are_alike}

pub shut_held : (file : List ℕ) → IsShut file → body_held file ≡ no_slot
unfolding body_held
shut_held file shut = none_open (is_open 0 file) (is_open 4194304 file) _ _ _ _ shut.0 shut.1

pub alike_held : (file : List ℕ) → HasTwoAlike file → body_held file ≡ two_alike
unfolding body_held
alike_held file alike =
    both_open (is_open 0 file) (is_open 4194304 file) _ _ _ _ alike.first alike.second
    ∙ are_alike (number 0 file == number 4194304 file) (nat_lt (number 4194304 file) (number 0 file)) _ _ _ (eq-eqb _ _ alike.same)

-- No slot is open, or both are with one number, or one is the newest.
pub one_of_three : (file : List ℕ) → IsShut file ⊎ (HasTwoAlike file ⊎ ((slot : Slot) × IsNewest slot file))
one_of_three file = ⊎_elim
    (λ first. ⊎_elim
    (λ second. ⊎_elim
    (λ same. inr (inl (record { first = first; second = second; same = same })))
    (λ apart. ⊎_elim
    (λ less. inr (inr (Second, record { opened = second; newer = λ _. less })))
    (λ more. inr (inr (First, record { opened = first; newer = λ _. more })))
    apart)
    (cases_order (number 0 file) (number 4194304 file)))
    (λ alone. inr (inr (First, record { opened = first; newer = λ is. absurd (false≢true (sym alone ∙ is)) })))
    (cases_Bool (is_open 4194304 file)))
    (λ not_first. ⊎_elim
    (λ second. inr (inr (Second, record { opened = second; newer = λ is. absurd (false≢true (sym not_first ∙ is)) })))
    (λ not_second. inl (not_first, not_second))
    (cases_Bool (is_open 4194304 file)))
    (cases_Bool (is_open 0 file))

whole_case : (w : Bool) (held kept : List ℕ) → (if w then the_body held else damaged) ≡ the_body kept → (w ≡ true) × (held ≡ kept)
whole_case true held kept e = (refl, cc)
whole_case false held kept e = absurd cc

-- What is held is the body of the newest slot.
pub held_newest : (file kept : List ℕ) → body_held file ≡ the_body kept → (slot : Slot) × IsNewest slot file × (is_whole (place slot) file ≡ true) × (body (place slot) file ≡ kept)
held_newest file kept held = ⊎_elim
    (λ shut. absurd (not_none (sym (shut_held file shut) ∙ held)))
    (λ rest. ⊎_elim
    (λ alike. absurd (not_two (sym (alike_held file alike) ∙ held)))
    (λ newest.
    let slot = newest.0 in
    let parts = whole_case (is_whole (place slot) file) (body (place slot) file) kept (sym (newest_held slot file newest.1) ∙ held) in
    (slot, newest.1, parts.0, parts.1))
    rest)
    (one_of_three file)
  where
    not_none : no_slot ≡ the_body kept → ⊥
    not_none e = cc

    not_two : two_alike ≡ the_body kept → ⊥
    not_two e = cc

-- an open head that is the same in another file
head_same : (at : ℕ) (a b : List ℕ) → bytes_at at 13 b ≡ bytes_at at 13 a → is_open at a ≡ true → SameAt at 13 a b
head_same at a b same opened =
    let within = (open_parts at a opened).within in
    let long : length (bytes_at at 13 b) ≡ 13 = ap length same ∙ length-bytes_at at 13 a within in
    record {
      within = within;
      within_new = omega (arith, long, length-take 13 (drop at b), length-drop at b);
      same = λ i from until.
          let below : i - at < 13 = omega arith in
          let there : at + (i - at) ≡ i = omega arith in
          ap (λ (k : ℕ). get_or b k 0) (sym there)
          ∙ sym (get_or-bytes_at at 13 (i - at) b below)
          ∙ ap (λ (l : List ℕ). get_or l (i - at) 0) same
          ∙ get_or-bytes_at at 13 (i - at) a below
          ∙ ap (λ (k : ℕ). get_or a k 0) there;
    }

-- Which slot is the newest is up to the heads alone.
pub newest_by_heads : (slot : Slot) (a b : List ℕ) → HasSameHeads a b → IsNewest slot a → IsNewest slot b
newest_by_heads slot a b same newest =
    let at = place slot in
    let beside = place (other slot) in
    let here = head_same at a b (same slot) newest.opened in
    record {
      opened = open-same at a b here.within here.within_new (here.same at (omega arith) (omega arith)) ∙ newest.opened;
      newer = λ is.
          let there = head_same beside b a (sym (same (other slot))) is in
          let opened_a = open-same beside b a there.within there.within_new (there.same beside (omega arith) (omega arith)) ∙ is in
          omega (
            arith,
            newest.newer opened_a,
            number-same at a b (part_of at 13 (at + 1) 8 a b here (omega arith) (omega arith)),
            number-same beside b a (part_of beside 13 (beside + 1) 8 b a there (omega arith) (omega arith)),
          );
    }
