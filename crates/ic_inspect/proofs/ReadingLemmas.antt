-- Two readings of the slots of a file, one after the other.
use Rattle.std.proofs.Common.{◌≡◌, ◌↔◌, ℕ, ◌+◌, ◌<◌, ◌≤◌, true, List, [], ◌∷◌, Option, Some, Result, Ok, Err, IfOk, OnOk, length, take, drop, get_or, refl, sym, ap, subst, ◌∙◌, arith, length-drop}
use Rattle.std.proofs.lemmas.Bool.{le-leb}
use Rattle.std.proofs.lemmas.List.{length-take}
use Rattle.ic_frames.specs.declared.frame.TheConstants.{HEAD, MAX_BODY}
use Rattle.ic_frames.specs.declared.slot.Slot.{Slot}
use Rattle.ic_frames.specs.declared.slot.Slot.TheVariants.{First, Second}
use Rattle.ic_frames.specs.declared.slot.TheConstants.{SECOND_AT}
use Rattle.ic_frames.specs.Fields.{number, size, is_open, is_whole}
use Rattle.ic_frames.specs.Places.{place}
use Rattle.ic_inspect.specs.declared.seen.Looked.{Looked}
use Rattle.ic_inspect.specs.declared.seen.Seen.{Seen}
use Rattle.ic_inspect.specs.Moments.{AreHeadsRead, AreSlotsRead, IsBodyRead, IsHeadRead}
use Rattle.ic_inspect.specs.inner.Twice.{IsBodyAmid, IsHeadOf, IsReadTwiceBetween}
use Rattle.ic_inspect.specs.Seeing.{IsLookedAt, IsSeen}
use Rattle.ic_inspect.specs.Slots.{HasHead, IsSlotOf, body_room, file_of, is_one_file, slot_read}
use Rattle.ic_inspect.proofs.MomentLemmas.{byte_of_body}
use Rattle.ic_inspect.proofs.SlotLemmas.{SameAt, number_front, open_front, room_few, room_of_front, same_drop, same_first, same_read, same_second, same_seen, same_sym, same_trans, size_front}

-- ---- a file at rest
pub is_one : (file : List ℕ) → is_one_file (slot_read file) (slot_read (drop SECOND_AT file)) ≡ true
is_one file = by (slot_read (drop SECOND_AT file)) refl
  where
    -- where the second one isn't empty, the file goes on after its place, so the first one has all its bytes
    by : (second : List ℕ) → slot_read (drop SECOND_AT file) ≡ second → is_one_file (slot_read file) second ≡ true
    by [] is = refl
    by (b ∷ bs) is =
        let some : 0 < length (slot_read (drop SECOND_AT file)) = subst (λ (l : List ℕ). 0 < length l) (sym is) (omega arith) in
        let long : SECOND_AT < length file = omega (arith, some, length-take (HEAD + body_room (drop SECOND_AT file)) (drop SECOND_AT file), length-drop SECOND_AT file) in
        let n = HEAD + body_room file in
        let room : body_room (slot_read file) ≡ body_room file = room_of_front n file (omega arith) in
        le-leb (HEAD + body_room (slot_read file)) (length (slot_read file)) (omega (arith, room, room_few file, long, length-take n file))

-- ---- heads and bodies of the file of what was read
head_there : (slot : Slot) (bytes read file : List ℕ) → SameAt 0 (place slot) bytes read → IsHeadRead slot bytes file → IsHeadOf slot read file
head_there slot bytes read file same head = record {
  opened = head.opened ∙ sym same.opened;
  number_is = head.number_is ∙ sym same.number_is;
  size_is = head.size_is ∙ sym same.size_is;
}

body_there : (slot : Slot) (at : ℕ → List ℕ) (from until later : ℕ) (bytes read : List ℕ) → until ≤ later → SameAt 0 (place slot) bytes read → IsBodyRead slot at from until bytes
    → IsBodyAmid slot at from later read
body_there slot at from until later bytes read more same amid w k below =
    let w_bytes : is_whole 0 bytes ≡ true = sym same.whole_is ∙ w in
    let inside : k < size 0 bytes = omega (arith, below, same.size_is) in
    let m = amid w_bytes k inside in (
      m.0,
      m.1,
      omega (arith, m.2, more),
      record {
        within = m.3;
        same = m.4 ∙ sym (byte_of_body 0 k bytes inside) ∙ ap (λ (b : List ℕ). get_or b k 0) (sym (same.body_is w_bytes)) ∙ byte_of_body (place slot) k read below;
      },
    )

-- the same thirteen bytes, the same head
head_later : (slot : Slot) (bytes later file : List ℕ) → take HEAD bytes ≡ take HEAD later → IsHeadRead slot later file → IsHeadRead slot bytes file
head_later slot bytes later file same head = record {
  opened = head.opened ∙ sym (open_front HEAD later (omega arith)) ∙ ap (is_open 0) (sym same) ∙ open_front HEAD bytes (omega arith);
  number_is = head.number_is ∙ sym (number_front HEAD later (omega arith)) ∙ ap (number 0) (sym same) ∙ number_front HEAD bytes (omega arith);
  size_is = head.size_is ∙ sym (size_front HEAD later (omega arith)) ∙ ap (size 0) (sym same) ∙ size_front HEAD bytes (omega arith);
}

-- ---- what was read is what the readers had
slot_is : (bytes all : List ℕ) (remaining : Option (List ℕ)) → IsSlotOf bytes remaining → remaining ≡ Some all → bytes ≡ slot_read all
slot_is bytes all remaining slot is = subst (IsSlotOf bytes) is slot

head_is : (bytes all : List ℕ) (remaining : Option (List ℕ)) → HasHead bytes remaining → remaining ≡ Some all → take HEAD bytes ≡ take HEAD all
head_is bytes all remaining head is = subst (HasHead bytes) is head

-- what is seen of what was read is seen of what the readers had
pub seen_of : {E : Type 0} (r : Result Looked E) (a b one two : List ℕ) (r1 r2 : Option (List ℕ)) → IsSlotOf a r1 → IsSlotOf b r2 → r1 ≡ Some one → r2 ≡ Some two
    → IfOk r (λ looked. IsLookedAt looked (file_of a b)) → IfOk r (λ looked. IsLookedAt looked (file_of (slot_read one) (slot_read two)))
seen_of (Ok looked) a b one two r1 r2 sa sb i1 i2 seen =
    subst (λ (x : List ℕ). IsLookedAt looked (file_of x (slot_read two))) (slot_is a one r1 sa i1)
    (subst (λ (y : List ℕ). IsLookedAt looked (file_of a y)) (slot_is b two r2 sb i2) seen)
seen_of (Err e) a b one two r1 r2 sa sb i1 i2 seen = tt

module _ (whole : (at : ℕ) (file : List ℕ) → (is_whole at file ≡ true) ↔ ((size at file ≤ MAX_BODY) × (at + HEAD + size at file ≤ length file))) where
  -- what was read from the two places on stands in the file of what was read
  first_same : (one two : List ℕ) → is_one_file (slot_read one) (slot_read two) ≡ true → SameAt 0 0 one (file_of (slot_read one) (slot_read two))
  first_same one two is = same_trans 0 0 0 one (slot_read one) (file_of (slot_read one) (slot_read two))
      (same_sym 0 0 (slot_read one) one (same_read whole one)) (same_first whole (slot_read one) (slot_read two) is)

  second_same : (one two : List ℕ) → SameAt 0 SECOND_AT two (file_of (slot_read one) (slot_read two))
  second_same one two = same_trans 0 0 SECOND_AT two (slot_read two) (file_of (slot_read one) (slot_read two))
      (same_sym 0 0 (slot_read two) two (same_read whole two)) (same_second (slot_read one) (slot_read two))

  pub file_seen : (slot : Slot) (seen : Option Seen) (file : List ℕ) → IsSeen slot seen (file_of (slot_read file) (slot_read (drop SECOND_AT file))) → IsSeen slot seen file
  file_seen First seen file is =
      let read = file_of (slot_read file) (slot_read (drop SECOND_AT file)) in
      same_seen whole 0 0 read file seen (same_sym 0 0 file read (first_same file (drop SECOND_AT file) (is_one file))) is
  file_seen Second seen file is =
      let read = file_of (slot_read file) (slot_read (drop SECOND_AT file)) in
      let after = drop SECOND_AT file in
      same_seen whole SECOND_AT SECOND_AT read file seen
      (same_trans SECOND_AT 0 SECOND_AT read after file (same_sym 0 SECOND_AT after read (second_same file after)) (same_drop SECOND_AT file)) is

  read_twice : (at : ℕ → List ℕ) (from between later until : ℕ) (one two one_later two_later : List ℕ) → is_one_file (slot_read one) (slot_read two) ≡ true
      → take HEAD (slot_read one) ≡ take HEAD one_later → take HEAD (slot_read two) ≡ take HEAD two_later
      → AreSlotsRead at from between one two → between ≤ later → AreHeadsRead at later until one_later two_later
      → IsReadTwiceBetween at from until (file_of (slot_read one) (slot_read two))
  read_twice at from between later until one two one_later two_later is head_one head_two slots after again =
      let read = file_of (slot_read one) (slot_read two) in
      let h = slots.heads in
      let one_there = first_same one two is in
      let two_there = second_same one two in
      let one_read = same_first whole (slot_read one) (slot_read two) is in
      let two_read = same_second (slot_read one) (slot_read two) in (
        record {
          first = h.first;
          second = h.second;
          first_again = again.first;
          second_again = again.second;
          in_order = (h.in_order.1, omega (arith, h.in_order.2, again.in_order.0, after), again.in_order.1);
          first_head = head_there First one read (at h.first) one_there h.first_head;
          second_head = head_there Second two read (at h.second) two_there h.second_head;
          first_head_again = head_there First (slot_read one) read (at again.first) one_read (head_later First (slot_read one) one_later (at again.first) head_one again.first_head);
          second_head_again = head_there Second (slot_read two) read (at again.second) two_read (head_later Second (slot_read two) two_later (at again.second) head_two again.second_head);
          first_body = body_there First at h.first between again.first one read (omega (arith, after, again.in_order.0)) one_there slots.first_body;
          second_body = body_there Second at h.second between again.second two read (omega (arith, after, again.in_order.0, again.in_order.1)) two_there slots.second_body;
        },
        h.in_order.0,
        again.in_order.2,
      )

  pub both_read : {T E : Type 0} (r : Result T E) (at : ℕ → List ℕ) (from between later until : ℕ) (a b one two one_later two_later : List ℕ) (r1 r2 r3 r4 : Option (List ℕ))
      → IsSlotOf a r1 → IsSlotOf b r2 → r1 ≡ Some one → r2 ≡ Some two → r3 ≡ Some one_later → r4 ≡ Some two_later
      → AreSlotsRead at from between one two → between ≤ later → AreHeadsRead at later until one_later two_later
      → OnOk r (HasHead a r3) → OnOk r (HasHead b r4) → OnOk r (is_one_file a b ≡ true)
      → OnOk r (IsReadTwiceBetween at from until (file_of (slot_read one) (slot_read two)))
  both_read (Ok v) at from between later until a b one two one_later two_later r1 r2 r3 r4 sa sb i1 i2 i3 i4 slots after again ha hb is =
      let ea : a ≡ slot_read one = slot_is a one r1 sa i1 in
      let eb : b ≡ slot_read two = slot_is b two r2 sb i2 in
      let same : is_one_file a b ≡ is_one_file (slot_read one) (slot_read two) = λ i. is_one_file (ea i) (eb i) in
      read_twice at from between later until one two one_later two_later (sym same ∙ is)
      (sym (ap (take HEAD) ea) ∙ head_is a one_later r3 ha i3)
      (sym (ap (take HEAD) eb) ∙ head_is b two_later r4 hb i4)
      slots after again
  both_read (Err e) at from between later until a b one two one_later two_later r1 r2 r3 r4 sa sb i1 i2 i3 i4 slots after again ha hb is = tt
