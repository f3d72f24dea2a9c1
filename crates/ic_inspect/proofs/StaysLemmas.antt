-- Lemmas: a file that stays as it is, over time.
use Rattle.std.proofs.Common.{◌≡◌, ◌↔◌, ℕ, ◌+◌, ◌<◌, ◌≤◌, true, false, List, Some, length, take, drop, get_or, inl, inr, refl, sym, ap, ◌∙◌, arith}
use Rattle.std.proofs.lemmas.List.{take-take}
use Rattle.ic_frames.specs.declared.frame.TheConstants.{HEAD, MAX_BODY}
use Rattle.ic_frames.specs.declared.slot.Slot.{Slot}
use Rattle.ic_frames.specs.declared.slot.Slot.TheVariants.{First, Second}
use Rattle.ic_frames.specs.declared.slot.TheConstants.{SECOND_AT}
use Rattle.ic_frames.specs.Fields.{is_whole, size}
use Rattle.ic_frames.specs.Held.{IsNewest}
use Rattle.ic_frames.specs.Places.{place, other}
use Rattle.ic_inspect.specs.Moments.{AreSlotsRead, IsBodyRead, IsHeadRead, IsSameSlot, IsServed}
use Rattle.ic_inspect.specs.Slots.{HaveChanged, body_room, slot_read}
use Rattle.ic_inspect.proofs.MomentLemmas.{byte_of_body}
use Rattle.ic_inspect.proofs.ReadingLemmas.{is_one}
use Rattle.ic_inspect.proofs.SlotLemmas.{SameAt, same_drop, same_refl}

same_slot : (slot : Slot) (file : List ℕ) → IsSameSlot slot file file
same_slot slot file = record { opened = refl; number_is = refl; size_is = refl; whole_is = refl; body_is = refl }

pub stays_served : (slot : Slot) (file : List ℕ) → IsNewest slot file → IsServed (λ moment. file)
stays_served slot file is i = record { newest = slot; is_newest = is; stays = same_slot slot file; beside = inr (inl (same_slot (other slot) file)) }

same_head : (all : List ℕ) → take HEAD (slot_read all) ≡ take HEAD all
same_head all = take-take HEAD (HEAD + body_room all) all (omega arith)

pub stays_unchanged : (file : List ℕ) → HaveChanged (slot_read file) (slot_read (drop SECOND_AT file)) (Some file) (Some (drop SECOND_AT file)) → ⊥
stays_unchanged file (inl other) = other (same_head file)
stays_unchanged file (inr (inl other)) = other (same_head (drop SECOND_AT file))
stays_unchanged file (inr (inr apart)) = let never : true ≡ false = sym (is_one file) ∙ apart in cc

module _ (whole : (at : ℕ) (file : List ℕ) → (is_whole at file ≡ true) ↔ ((size at file ≤ MAX_BODY) × (at + HEAD + size at file ≤ length file))) where
  -- the bytes of a slot, from its place on
  head_read : (slot : Slot) (bytes file : List ℕ) → SameAt 0 (place slot) bytes file → IsHeadRead slot bytes file
  head_read slot bytes file same = record { opened = same.opened; number_is = same.number_is; size_is = same.size_is }

  body_read : (slot : Slot) (bytes file : List ℕ) (from until : ℕ) → from ≤ until → SameAt 0 (place slot) bytes file → IsBodyRead slot (λ moment. file) from until bytes
  body_read slot bytes file from until later same w k less =
      let all = (whole (place slot) file).0 (same.whole_is ∙ w) in
      let inside : k < size (place slot) file = omega (arith, less, same.size_is) in (
        from,
        omega arith,
        later,
        omega (arith, all.1, inside),
        sym (byte_of_body (place slot) k file inside) ∙ ap (λ b. get_or b k 0) (same.body_is w) ∙ byte_of_body 0 k bytes less,
      )

  pub stays_read : (file : List ℕ) (from until : ℕ) → from ≤ until → AreSlotsRead (λ moment. file) from until file (drop SECOND_AT file)
  stays_read file from until later = record {
    heads = record {
      first = from;
      second = from;
      in_order = (omega arith, omega arith, later);
      first_head = head_read First file file (same_refl 0 file);
      second_head = head_read Second (drop SECOND_AT file) file (same_drop SECOND_AT file);
    };
    first_body = body_read First file file from until later (same_refl 0 file);
    second_body = body_read Second (drop SECOND_AT file) file from until later (same_drop SECOND_AT file);
  }
