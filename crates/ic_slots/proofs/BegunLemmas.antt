-- What a stopped `create` leaves, place by place.
use Rattle.std.proofs.Common.{◌≡◌, ◌⊎◌, ℕ, ◌+◌, ◌-◌, ◌<◌, ◌≤◌, List, [], length, get_or, inl, inr, ⊎_elim, ap, ◌∙◌, arith}
use Rattle.std.proofs.lemmas.Bool.{cases_lt}
use Rattle.std.proofs.lemmas.List.{get_or_past, get_or-replicate, length-replicate}
use Rattle.std.specs.Prelude.{replicate, slice_index}
use Rattle.ic_codec.specs.Tables.{old_table_bytes, table_bytes}
use Rattle.ic_disk.specs.Content.{laid}
use Rattle.ic_disk.specs.lemmas.ContentLaws.{laid-after, laid-before, laid-inside, length-laid}
use Rattle.ic_slots.specs.Unused.{IsBegun, IsPartOf, first_bytes}

-- a place of the file is zero where that of the bytes is
zero-there : (bytes file : List ℕ) → IsPartOf bytes file → (i : ℕ) → slice_index bytes i ≡ 0 → slice_index file i ≡ 0
zero-there bytes file part i none = ⊎_elim
    (λ inside. ⊎_elim (λ zero. zero) (λ same. same ∙ none) (part i inside))
    (λ past. get_or_past file i 0 past)
    (cases_lt i (length file))

pub begun-zero : (file : List ℕ) → IsBegun file → (i : ℕ) → slice_index (first_bytes (table_bytes [])) i ≡ 0 → slice_index (first_bytes (old_table_bytes [])) i ≡ 0 → slice_index file i ≡ 0
begun-zero file begun i new old = ⊎_elim
    (λ part. zero-there (first_bytes (table_bytes [])) file part i new)
    (λ part. zero-there (first_bytes (old_table_bytes [])) file part i old)
    begun.1

-- each place of the file is zero, or as in the bytes
part-byte : (bytes file : List ℕ) → IsPartOf bytes file → (i : ℕ) → (slice_index file i ≡ 0) ⊎ (slice_index file i ≡ slice_index bytes i)
part-byte bytes file part i = ⊎_elim (λ inside. part i inside) (λ past. inl (get_or_past file i 0 past)) (cases_lt i (length file))

pub begun-byte : (file : List ℕ) → IsBegun file → (i : ℕ) → (slice_index file i ≡ 0) ⊎ ((slice_index file i ≡ slice_index (first_bytes (table_bytes [])) i) ⊎ (slice_index file i ≡ slice_index (first_bytes (old_table_bytes [])) i))
begun-byte file begun i = ⊎_elim
    (λ part. ⊎_elim (λ zero. inl zero) (λ new. inr (inl new)) (part-byte (first_bytes (table_bytes [])) file part i))
    (λ part. ⊎_elim (λ zero. inl zero) (λ old. inr (inr old)) (part-byte (first_bytes (old_table_bytes [])) file part i))
    begun.1

pub after-zero : (i : ℕ) → 18 ≤ i → (slice_index (first_bytes (table_bytes [])) i ≡ 0) × (slice_index (first_bytes (old_table_bytes [])) i ≡ 0)
after-zero i past = (get_or_past (first_bytes (table_bytes [])) i 0 past, get_or_past (first_bytes (old_table_bytes [])) i 0 past)

abbrev pub with_head : List ℕ
with_head = laid 4194304 (replicate 13 0) []

abbrev empty : List ℕ
empty = []

pub head-zero : (i : ℕ) → i < length with_head → get_or with_head i 0 ≡ 0
head-zero i inside = ⊎_elim
    (λ before. laid-before 4194304 (replicate 13 0) empty i before ∙ get_or_past empty i 0 (omega arith))
    (λ from.
    let long = length-laid 4194304 (replicate 13 0) empty in
    let zeros = length-replicate {A = ℕ} 13 0 in
    let until : i < 4194304 + length {A = ℕ} (replicate 13 0) = omega (arith, inside, long, zeros) in
    laid-inside 4194304 (replicate 13 0) empty i from until ∙ get_or-replicate 13 (i - 4194304) 0 0 (omega (arith, until, zeros, from)))
    (cases_lt i 4194304)

pub head-begun : IsBegun with_head
head-begun = (
  omega (arith, length-laid 4194304 (replicate 13 0) empty, length-replicate {A = ℕ} 13 0),
  inl (λ i inside. inl (head-zero i inside)),
)

abbrev pub with_slot : List ℕ
with_slot = laid 0 (first_bytes (table_bytes [])) with_head

pub slot-part : (i : ℕ) → i < length with_slot → (get_or with_slot i 0 ≡ 0) ⊎ (get_or with_slot i 0 ≡ get_or (first_bytes (table_bytes [])) i 0)
slot-part i inside = ⊎_elim
    (λ before.
    let same : i - 0 ≡ i = omega arith in
    inr (laid-inside 0 (first_bytes (table_bytes [])) with_head i (omega arith) before ∙ ap (λ n. get_or (first_bytes (table_bytes [])) n 0) same))
    (λ past. inl (laid-after 0 (first_bytes (table_bytes [])) with_head i past ∙ ⊎_elim (head-zero i) (λ end. get_or_past with_head i 0 end) (cases_lt i (length with_head))))
    (cases_lt i 18)

pub slot-begun : IsBegun with_slot
slot-begun = (
  omega (arith, length-laid 0 (first_bytes (table_bytes [])) with_head, length-laid 4194304 (replicate 13 0) empty, length-replicate {A = ℕ} 13 0),
  inl slot-part,
)
