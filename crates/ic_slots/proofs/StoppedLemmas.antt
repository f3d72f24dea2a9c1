-- What a `create` of an empty file leaves, if one of its writes was made in part.
use Rattle.std.proofs.Common.{◌≡◌, ◌⊎◌, ◌↔◌, ℕ, zero, suc, ◌+◌, ◌-◌, ◌^◌, ◌<◌, ◌≤◌, true, false, List, [], ◌∷◌, length, get_or, take, inl, inr, ⊎_elim, ap, subst, ◌∙◌, arith}
use Rattle.std.proofs.lemmas.Bool.{cases_lt, false_from_ne_true}
use Rattle.std.proofs.lemmas.Grind.{same_number_lists}
use Rattle.std.proofs.lemmas.List.{get_or_past, get_or-replicate, get_or-take, length-replicate, length-take-le}
use Rattle.std.specs.List.{IsDistinct}
use Rattle.std.specs.Prelude.{replicate, slice_index}
use Rattle.ic_codec.specs.Tables.{table_bytes, IsFormOf}
use Rattle.ic_disk.specs.Content.{bytes_at, laid}
use Rattle.ic_disk.specs.lemmas.ContentLaws.{laid-after, laid-inside, length-laid}
use Rattle.ic_frames.specs.Creation.{writes_of_create, IsInOneOf, IsMadeInPart}
use Rattle.ic_frames.specs.Fields.{body, is_open, is_whole}
use Rattle.ic_frames.specs.Held.{IsNewest}
use Rattle.ic_frames.specs.Layout.{slot_bytes}
use Rattle.ic_frames.specs.Places.{place}
use Rattle.ic_frames.specs.Staged.{IsStaged}
use Rattle.ic_frames.specs.declared.slot.Slot.{Slot}
use Rattle.ic_frames.specs.declared.slot.Slot.TheVariants.{First, Second}
use Rattle.ic_jobs.specs.Job.{JobParts}
use Rattle.ic_jobs.specs.Table.{IsTable}
use Rattle.ic_slots.specs.Held.{HoldsTable, IsHeld, the_table}
use Rattle.ic_slots.specs.Unused.{IsBegun, first_bytes}
use Rattle.ic_slots.proofs.BegunLemmas.{with_head, with_slot, head-zero, slot-part}

empty_is : IsTable []
unfolding IsDistinct
empty_is = record { few = omega arith; each = tt; distinct = tt }

abbrev no_bytes : List ℕ
no_bytes = []

head_none : (i : ℕ) → get_or with_head i 0 ≡ 0
head_none i = ⊎_elim (head-zero i) (λ past. get_or_past with_head i 0 past) (cases_lt i (length with_head))

slot_some : (i : ℕ) → (get_or with_slot i 0 ≡ 0) ⊎ (get_or with_slot i 0 ≡ get_or (first_bytes (table_bytes [])) i 0)
slot_some i = ⊎_elim (slot-part i) (λ past. inl (get_or_past with_slot i 0 past)) (cases_lt i (length with_slot))

length_head : length with_head ≡ 4194317
length_head = omega (arith, length-laid 4194304 (replicate 13 0) no_bytes, length-replicate {A = ℕ} 13 0)

length_slot : length with_slot ≡ 4194317
length_slot = omega (arith, length-laid 0 (first_bytes (table_bytes [])) with_head, length_head)

in_head : (file : List ℕ) → IsMadeInPart (record { at = 4194304; bytes = replicate 13 0 }) [] file → IsBegun file
in_head file part = (
  omega (arith, part.no_longer, length_head),
  inl (λ i inside. inl (⊎_elim (λ old. old ∙ get_or_past no_bytes i 0 (omega arith)) (λ new. new ∙ head_none i) (part.each i inside))),
)

in_slot : (file : List ℕ) → IsMadeInPart (record { at = 0; bytes = first_bytes (table_bytes []) }) with_head file → IsBegun file
in_slot file part = (
  omega (arith, part.no_longer, length_slot),
  inl (λ i inside. ⊎_elim
      (λ old. inl (old ∙ head_none i))
      (λ new. ⊎_elim (λ none. inl (new ∙ none)) (λ its. inr (new ∙ its)) (slot_some i))
      (part.each i inside)),
)

-- ---- the gate is written in part

module _ (file : List ℕ) (part : IsMadeInPart (record { at = 0; bytes = 1 ∷ [] }) with_slot file) where
  long : length file ≡ 4194317
  long = omega (arith, part.no_shorter, part.no_longer, length_slot, length-laid 0 (1 ∷ []) with_slot)

  -- all but the gate
  beside : (i : ℕ) → 1 ≤ i → i < length file → get_or file i 0 ≡ get_or with_slot i 0
  beside i past inside = ⊎_elim (λ old. old) (λ new. new ∙ laid-after 0 (1 ∷ []) with_slot i (omega (arith, past))) (part.each i inside)

  closed : get_or file 0 0 ≡ get_or with_slot 0 0 → IsBegun file
  closed gate = (
    omega (arith, long),
    inl (λ i inside. ⊎_elim (λ none. inl (same i inside ∙ none)) (λ its. inr (same i inside ∙ its)) (slot_some i)),
  )
    where
      same : (i : ℕ) → i < length file → get_or file i 0 ≡ get_or with_slot i 0
      same zero inside = gate
      same (suc i) inside = beside (suc i) (omega arith) inside

  module _ (gate : get_or file 0 0 ≡ 1) where
    byte : (k : ℕ) → k < 18 → get_or file k 0 ≡ get_or (slot_bytes 1 (table_bytes [])) k 0
    byte zero inside = gate
    byte (suc k) inside =
        let same : suc k - 0 ≡ suc k = omega arith in
        beside (suc k) (omega arith) (omega (arith, inside, long))
        ∙ laid-inside 0 (first_bytes (table_bytes [])) with_head (suc k) (omega arith) inside
        ∙ ap (λ n. get_or (first_bytes (table_bytes [])) n 0) same

    front : bytes_at 0 18 file ≡ slot_bytes 1 (table_bytes [])
    front =
        let all : length (take 18 file) ≡ 18 = length-take-le 18 file (omega (arith, long)) in
        same_number_lists (take 18 file) (slot_bytes 1 (table_bytes [])) all
        (λ k inside. let within : k < 18 = omega (arith, inside, all) in get_or-take 18 file k 0 within ∙ byte k within)

    module _ (written : (slot : Slot) (n : ℕ) (held file : List ℕ) → n < 2 ^ 64 → length held ≤ 3036677 → bytes_at (place slot) (13 + length held) file ≡ slot_bytes n held
        → (is_open (place slot) file ≡ true) × IsStaged slot n held file)
        (opened : (at : ℕ) (file : List ℕ) → (is_open at file ≡ true) ↔ ((at + 13 ≤ length file) × (slice_index file at ≡ 1)))
        (held : (slot : Slot) (file : List ℕ) (t : List JobParts) → IsNewest slot file → is_whole (place slot) file ≡ true → IsTable t → IsFormOf t (body (place slot) file) → IsHeld (the_table t) file) where
      second_none : get_or file 4194304 0 ≡ 0
      second_none =
          beside 4194304 (omega arith) (omega (arith, long))
          ∙ laid-after 0 (first_bytes (table_bytes [])) with_head 4194304 (omega arith)
          ∙ head_none 4194304

      second_shut : is_open 4194304 file ≡ true → ⊥
      second_shut is = let there = ((opened 4194304 file).0 is).1 in omega (arith, there, second_none)

      holds : HoldsTable [] file
      holds =
          let slot = written First 1 (table_bytes []) file (omega arith) (omega arith) front in
          record {
            made = omega (arith, long);
            held = held First file [] (record { opened = slot.0; newer = λ is. absurd (second_shut is) }) slot.1.whole empty_is (inl slot.1.body_is);
          }

module _ (written : (slot : Slot) (n : ℕ) (held file : List ℕ) → n < 2 ^ 64 → length held ≤ 3036677 → bytes_at (place slot) (13 + length held) file ≡ slot_bytes n held
    → (is_open (place slot) file ≡ true) × IsStaged slot n held file)
    (opened : (at : ℕ) (file : List ℕ) → (is_open at file ≡ true) ↔ ((at + 13 ≤ length file) × (slice_index file at ≡ 1)))
    (held : (slot : Slot) (file : List ℕ) (t : List JobParts) → IsNewest slot file → is_whole (place slot) file ≡ true → IsTable t → IsFormOf t (body (place slot) file) → IsHeld (the_table t) file)
    (file : List ℕ) where
  in_gate : IsMadeInPart (record { at = 0; bytes = 1 ∷ [] }) with_slot file → IsBegun file ⊎ HoldsTable [] file
  in_gate part = ⊎_elim
      (λ old. inl (closed file part old))
      (λ new. inr (holds file part (new ∙ laid-inside 0 (1 ∷ []) with_slot 0 (omega arith) (omega arith)) written opened held))
      (part.each 0 (omega (arith, part.no_shorter, length_slot)))

  pub stopped_left : IsInOneOf IsMadeInPart (writes_of_create (table_bytes [])) [] (λ f. f ≡ []) file → IsBegun file ⊎ HoldsTable [] file
  stopped_left is = elim is [
    | inl one ↦ inl (in_head file (subst (λ (f : List ℕ). IsMadeInPart (record { at = 4194304; bytes = replicate 13 0 }) f file) one.1 one.2))
    | inr (inl two) ↦ inl (in_slot file (subst (λ (f : List ℕ). IsMadeInPart (record { at = 0; bytes = first_bytes (table_bytes []) }) f file) two.1 two.2))
    | inr (inr (inl three)) ↦ in_gate (subst (λ (f : List ℕ). IsMadeInPart (record { at = 0; bytes = 1 ∷ [] }) f file) three.1 three.2)
    | inr (inr (inr none)) ↦ absurd none
  ]
