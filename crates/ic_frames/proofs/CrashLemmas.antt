-- What a crash leaves of two slots while the slot beside the newest is written.
use Rattle.std.proofs.Common.{◌≡◌, ◌⊎◌, inl, inr, ⊎_elim, ℕ, ◌+◌, ◌-◌, ◌<◌, ◌≤◌, Bool, true, false, List, length, refl, sym, ◌∙◌, subst, arith}
use Rattle.std.proofs.lemmas.Bool.{cases_Bool, false≢true, true≢false}
use Rattle.ic_disk.specs.Images.{Torn}
use Rattle.ic_frames.specs.declared.slot.Slot.{Slot}
use Rattle.ic_frames.specs.declared.slot.Slot.TheVariants.{First, Second}
use Rattle.ic_frames.specs.Places.{place, other}
use Rattle.ic_frames.specs.Fields.{number, size, body, is_open, is_whole, IsMade}
use Rattle.ic_frames.specs.Held.{HoldsEither}
use Rattle.ic_frames.specs.Staged.{IsStaged}
use Rattle.ic_frames.specs.inner.Standing.{Stands}
use Rattle.ic_frames.proofs.FieldLemmas.{SameAt, part_of, number-same, size-same, body-same, open_parts, open_from, open-same, whole_parts, whole_from}
use Rattle.ic_frames.proofs.HeldLemmas.{stands_holds}

-- how far each slot may reach before the other
pub apart : (slot : Slot) → (place slot + 13 + 3036677 ≤ place (other slot)) ⊎ (place (other slot) + 13 + 3036677 ≤ place slot)
apart First = inl (omega arith)
apart Second = inr (omega arith)

pub head_made : (slot : Slot) (file : List ℕ) → IsMade file → place slot + 13 ≤ length file
head_made First file made = omega arith
head_made Second file made = omega arith

pub other-other : (slot : Slot) → other (other slot) ≡ slot
other-other First = refl
other-other Second = refl

-- a write elsewhere has left these places alone
pub untouched : (r m at n : ℕ) (a c : List ℕ) → Torn r m a c → at + n ≤ length a → (at + n ≤ r) ⊎ (r + m ≤ at) → SameAt at n a c
untouched r m at n a c torn within apart = record {
  within = within;
  within_new = omega (arith, torn.no_shorter);
  same = λ i from until. ⊎_elim
      (λ before. torn.before i (omega (arith, until, within)) (omega (arith, until, before)))
      (λ after. torn.after i (omega (arith, until, within)) (omega (arith, from, after)))
      apart;
}

-- the whole slot, with its body
pub record SlotStays (at : ℕ) (a c : List ℕ) : Type 0 where
  pub head : SameAt at 13 a c
  pub number_is : number at c ≡ number at a
  pub whole : is_whole at c ≡ true
  pub body_is : body at c ≡ body at a

-- from a place in its head on
pub slot_stays : (at from : ℕ) (a c : List ℕ) → from ≤ at + 1 → is_whole at a ≡ true → SameAt from (at + 13 + size at a - from) a c
    → (number at c ≡ number at a) × (is_whole at c ≡ true) × (body at c ≡ body at a)
slot_stays at from a c low whole same =
    let parts = whole_parts at a whole in
    let long = at + 13 + size at a - from in
    let sizes = size-same at a c (part_of from long (at + 9) 4 a c same (omega arith) (omega arith)) in
    let bodies = part_of from long (at + 13) (size at a) a c same (omega arith) (omega arith) in (
      number-same at a c (part_of from long (at + 1) 8 a c same (omega arith) (omega arith)),
      whole_from at c (omega (arith, sizes, parts.bounded)) (omega (arith, sizes, bodies.within_new)),
      body-same at a c sizes bodies,
    )

-- The newest slot stays as it is whatever becomes of a write beside it.
module _ (slot : Slot) (r m : ℕ) (a c : List ℕ) (torn : Torn r m a c) (from : place (other slot) ≤ r) (until : r + m ≤ place (other slot) + 13 + 3036677) where
  pub newest_untouched : is_whole (place slot) a ≡ true → SameAt (place slot) (13 + size (place slot) a) a c
  newest_untouched whole =
      let parts = whole_parts (place slot) a whole in
      untouched r m (place slot) (13 + size (place slot) a) a c torn (omega (arith, parts.within))
      (⊎_elim (λ before. inl (omega (arith, parts.bounded, before, from))) (λ after. inr (omega (arith, after, until))) (apart slot))

  pub newest_stays : is_whole (place slot) a ≡ true → (number (place slot) c ≡ number (place slot) a) × (is_whole (place slot) c ≡ true) × (body (place slot) c ≡ body (place slot) a)
  newest_stays whole =
      let at = place slot in
      slot_stays at at a c (omega arith) whole
      (part_of at (13 + size at a) at (at + 13 + size at a - at) a c (newest_untouched whole) (omega arith) (omega arith))

  -- all but what is said of the other slot
  pub still_stands : (n : ℕ) (closed still : Bool) (kept : List ℕ) → Stands slot n closed kept a
      → (still ≡ true → is_open (place (other slot)) c ≡ false) → (still ≡ false → number (place (other slot)) c < n)
      → Stands slot n still kept c
  still_stands n closed still kept stands shut older =
      let at = place slot in
      let same = newest_untouched stands.whole in
      let gate = open_parts at a stands.opened in
      let stays = newest_stays stands.whole in
      record {
        opened = open_from at c (omega (arith, same.within_new)) (same.same at (omega arith) (omega arith) ∙ gate.gate_is);
        number_is = stays.0 ∙ stands.number_is;
        whole = stays.1;
        body_is = stays.2 ∙ stands.body_is;
        shut = shut;
        older = older;
      }

-- A write at the gate of an older slot leaves that slot's number.
pub gate_torn : (slot : Slot) (n : ℕ) (kept a c : List ℕ) → Stands slot n false kept a → IsMade a → Torn (place (other slot)) 1 a c → Stands slot n false kept c
gate_torn slot n kept a c stands made torn =
    let at = place (other slot) in
    let same = untouched at 1 (at + 1) 8 a c torn (omega (arith, head_made (other slot) a made)) (inr (omega arith)) in
    still_stands slot at 1 a c torn (omega arith) (omega arith) n false false kept stands
    (λ is. absurd (false≢true is)) (λ is. omega (arith, stands.older refl, number-same at a c same))

-- A write after a closed gate leaves the gate closed.
pub body_torn : (slot : Slot) (n m : ℕ) (kept a c : List ℕ) → Stands slot n true kept a → IsMade a → m ≤ 12 + 3036677 → Torn (place (other slot) + 1) m a c → Stands slot n true kept c
body_torn slot n m kept a c stands made short torn =
    let at = place (other slot) in
    let same = untouched (at + 1) m at 1 a c torn (omega (arith, head_made (other slot) a made)) (inl (omega arith)) in
    still_stands slot (at + 1) m a c torn (omega arith) (omega arith) n true true kept stands
    (λ is. open-same at a c (head_made (other slot) a made) (head_made (other slot) c (omega (arith, torn.no_shorter, made))) (same.same at (omega arith) (omega arith)) ∙ stands.shut refl)
    (λ is. absurd (true≢false is))

-- A write at the gate leaves what is staged after it.
pub staged_torn : (slot : Slot) (n : ℕ) (staged a c : List ℕ) → IsStaged slot n staged a → Torn (place slot) 1 a c → IsStaged slot n staged c
staged_torn slot n staged a c is torn =
    let at = place slot in
    let parts = whole_parts at a is.whole in
    let long = at + 13 + size at a - (at + 1) in
    let same = untouched at 1 (at + 1) long a c torn (omega (arith, parts.within)) (inr (omega arith)) in
    let stays = slot_stays at (at + 1) a c (omega arith) is.whole same in
    record { number_is = stays.0 ∙ is.number_is; whole = stays.1; body_is = stays.2 ∙ is.body_is }

-- The staged slot is newer where its gate is open.
pub newly_stands : (slot : Slot) (n : ℕ) (staged c : List ℕ) → number (place slot) c ≡ n → IsStaged (other slot) (n + 1) staged c → is_open (place (other slot)) c ≡ true
    → Stands (other slot) (n + 1) false staged c
newly_stands slot n staged c number_is is opened = record {
  opened = opened;
  number_is = is.number_is;
  whole = is.whole;
  body_is = is.body_is;
  shut = λ impossible. absurd (false≢true impossible);
  older = λ _. subst (λ (s : Slot). number (place s) c < n + 1) (sym (other-other slot)) (omega (arith, number_is));
}

-- A write at the gate of a staged slot leaves the old body or the new one.
pub open_torn : (slot : Slot) (n : ℕ) (kept staged a c : List ℕ) → Stands slot n true kept a → IsMade a → IsStaged (other slot) (n + 1) staged a → Torn (place (other slot)) 1 a c → HoldsEither kept staged c
open_torn slot n kept staged a c stands made is torn =
    let at = place (other slot) in
    let still = staged_torn (other slot) (n + 1) staged a c is torn in
    let made_c : IsMade c = omega (arith, torn.no_shorter, made) in
    let same_number = (newest_stays slot at 1 a c torn (omega arith) (omega arith) stands.whole).0 ∙ stands.number_is in
    ⊎_elim
    (λ opened. inr (stands_holds (other slot) (n + 1) false staged c (newly_stands slot n staged c same_number still opened) made_c))
    (λ shut. inl (stands_holds slot n true kept c (still_stands slot at 1 a c torn (omega arith) (omega arith) n true true kept stands (λ _. shut) (λ e. absurd (true≢false e))) made_c))
    (cases_Bool (is_open at c))
