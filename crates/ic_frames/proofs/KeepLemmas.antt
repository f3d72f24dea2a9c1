-- What is on a disk that is kept, before and after each phase of a keep.
use Rattle.std.proofs.Common.{◌≡◌, ◌⊎◌, ⊎_elim, ℕ, ◌+◌, ◌-◌, ◌≤◌, Bool, true, false, List, [], ◌∷◌, length, get_or, drop, refl, sym, ◌∙◌, ap, subst, arith, length-drop}
use Rattle.std.proofs.lemmas.Bool.{cases_Bool, false≢true, true≢false}
use Rattle.ic_disk.specs.Content.{laid}
use Rattle.ic_disk.specs.lemmas.ContentLaws.{laid-inside, laid-before}
use Rattle.ic_disk.specs.Images.{Torn, TornFrom, Within, Only}
use Rattle.ic_disk.specs.lemmas.ImageLaws.{torn_laid}
use Rattle.ic_frames.specs.declared.slot.Slot.{Slot}
use Rattle.ic_frames.specs.declared.slot.Slot.TheVariants.{First, Second}
use Rattle.ic_frames.specs.Places.{place, other}
use Rattle.ic_frames.specs.Fields.{number, body, is_open, is_whole, IsMade}
use Rattle.ic_frames.specs.Held.{the_body, HasBody, Holds, HoldsEither, IsNewest}
use Rattle.ic_frames.specs.Staged.{IsStaged}
use Rattle.ic_frames.specs.inner.Standing.{Stands, IsKept, IsFrame}
use Rattle.ic_frames.proofs.FieldLemmas.{shut_from, open_from, open_parts, open-same, whole_parts}
use Rattle.ic_frames.proofs.HeldLemmas.{stands_holds, stands_newest, whole_held}
use Rattle.ic_frames.proofs.CrashLemmas.{still_stands, gate_torn, body_torn, open_torn, staged_torn, newly_stands, newest_stays, newest_untouched, head_made}
use Rattle.ic_frames.proofs.FrameLemmas.{length-framed, number-framed, whole-framed, body-framed, gate-framed}

-- two bodies that one file has are one
same_body : (xs ys : List ℕ) → the_body xs ≡ the_body ys → xs ≡ ys
same_body xs ys e = cc

pub one_body : (file kept held : List ℕ) → Holds kept file → Holds held file → kept ≡ held
one_body file kept held this that = same_body kept held (sym this.held ∙ that.held)

pub zero_is_one : ◌≡◌ {A = ℕ} 0 1 → ⊥
zero_is_one e = omega (arith, e)

-- a file in which the second slot is whole is made
pub second_made : (slot : Slot) (file : List ℕ) → is_whole (place slot) file ≡ true → is_whole (place (other slot)) file ≡ true → IsMade file
second_made First file whole beside = omega (arith, (whole_parts 4194304 file beside).within)
second_made Second file whole beside = omega (arith, (whole_parts 4194304 file whole).within)

-- the one byte that is laid at a place
pub laid_byte : (at byte : ℕ) (file : List ℕ) → get_or (laid at (byte ∷ []) file) at 0 ≡ byte
laid_byte at byte file =
    let none : at - at ≡ 0 = omega arith in
    laid-inside at (byte ∷ []) file at (omega arith) (omega arith) ∙ ap (λ (k : ℕ). get_or (byte ∷ []) k 0) none

-- What is of the only image is of each image.
pub of_only : (P : List ℕ → Type 0) (file : List ℕ) (image : List ℕ → Type 0) → Only file image → P file → (c : List ℕ) → image c → P c
of_only P file image only has c is = subst P (sym (only.no_other c is)) has

-- A disk with one image is kept where its slots stand so.
pub kept_settled : (file : List ℕ) (image : List ℕ → Type 0) (newest : Slot) (n : ℕ) (closed staged : Bool) (held : List ℕ) → Only file image → IsMade file → Stands newest n closed held file
    → (staged ≡ true → closed ≡ true) → (staged ≡ true → (next : List ℕ) × IsStaged (other newest) (n + 1) next file) → IsKept file image newest n closed staged true
kept_settled file image newest n closed staged held only made stands shut next = record {
  stands = of_only (Stands newest n closed (body (place newest) file)) file image only (subst (λ (b : List ℕ). Stands newest n closed b file) (sym stands.body_is) stands);
  staged_is = λ e. let at = place (other newest) in of_only (IsStaged (other newest) (n + 1) (body at file)) file image only
      (subst (λ (b : List ℕ). IsStaged (other newest) (n + 1) b file) (sym (next e).1.body_is) (next e).1);
  staged_in = λ e. (shut e, refl);
  all_made = λ _. of_only IsMade file image only made;
  not_made = λ e. absurd (true≢false e);
}

module _ (content : List ℕ) (image : List ℕ → Type 0) (newest : Slot) (n : ℕ) (closed staged made : Bool) (is : IsKept content image newest n closed staged made) where
  -- Where each image is made and holds one body, it is the newest slot's.
  pub held_is : (kept : List ℕ) → Within image (Holds kept) → (c : List ℕ) → image c → IsMade c → body (place newest) content ≡ kept
  held_is kept holds c there made_c =
      let held = body (place newest) content in
      one_body c held kept (stands_holds newest n closed held c (is.stands c there) made_c) (holds c there)

  -- Whatever body an image has, made or not, it is the newest slot's.
  pub has_is : (kept c : List ℕ) → image c → HasBody kept c → body (place newest) content ≡ kept
  has_is kept c there has =
      let held = body (place newest) content in
      let stands = is.stands c there in
      same_body held kept (sym (whole_held newest c (stands_newest newest n closed held c stands) stands.whole ∙ ap the_body stands.body_is) ∙ has)

-- Before the gate of the other slot is closed.
module _ (content : List ℕ) (image : List ℕ → Type 0) (newest : Slot) (n : ℕ) (staged made : Bool) (now : image content) (is : IsKept content image newest n false staged made) where
  pub is_made : made ≡ true
  is_made = ⊎_elim (λ so. so) (λ not. absurd (false≢true (is.not_made not).1)) (cases_Bool made)

  pub gate_leaves : (kept : List ℕ) → Within image (Holds kept) → Within (TornFrom (place (other newest)) 1 image) (Holds kept)
  gate_leaves kept holds c from =
      let a = from.0 in
      let held = body (place newest) content in
      let made_a = is.all_made is_made a from.1 in
      subst (λ (k : List ℕ). Holds k c) (held_is content image newest n false staged made is kept holds a from.1 made_a)
      (stands_holds newest n false held c (gate_torn newest n held a c (is.stands a from.1) made_a from.2) (omega (arith, from.2.no_shorter, made_a)))

  -- and after it
  pub gate_kept : (new_image : List ℕ → Type 0) → Only (laid (place (other newest)) (0 ∷ []) content) new_image → IsKept (laid (place (other newest)) (0 ∷ []) content) new_image newest n true staged made
  gate_kept new_image only =
      let at = place (other newest) in
      let c = laid at (0 ∷ []) content in
      let torn : Torn at 1 content c = torn_laid at (0 ∷ []) content in
      let held = body (place newest) content in
      let closed : get_or c at 0 ≡ 1 → ⊥ = λ opened. zero_is_one (sym (laid_byte at 0 content) ∙ opened) in
      let stands = still_stands newest at 1 content c torn (omega arith) (omega arith) n false true held (is.stands content now) (λ _. shut_from at c closed) (λ e. absurd (true≢false e)) in
      let kept = kept_settled c new_image newest n true staged held only (omega (arith, torn.no_shorter, is.all_made is_made content now)) stands (λ _. refl) (λ e. absurd (false≢true (is.staged_in e).0)) in
      subst (IsKept c new_image newest n true staged) (sym is_made) kept

-- While the body is written after the closed gate of the other slot, from the gate on where the disk isn't made.
module _ (content : List ℕ) (image : List ℕ → Type 0) (newest : Slot) (n : ℕ) (staged made : Bool) (now : image content) (is : IsKept content image newest n true staged made) where
  pub body_leaves : (m : ℕ) (kept : List ℕ) → made ≡ true → m ≤ 12 + 3036677 → Within image (Holds kept) → Within (TornFrom (place (other newest) + 1) m image) (Holds kept)
  body_leaves m kept is_made short holds c from =
      let a = from.0 in
      let held = body (place newest) content in
      let made_a = is.all_made is_made a from.1 in
      subst (λ (k : List ℕ). Holds k c) (held_is content image newest n true staged made is kept holds a from.1 made_a)
      (stands_holds newest n true held c (body_torn newest n m held a c (is.stands a from.1) made_a short from.2) (omega (arith, from.2.no_shorter, made_a)))

  -- a disk that isn't made has an image that isn't
  pub not_made_leaves : (kept : List ℕ) → made ≡ false → Within image (Holds kept) → ⊥
  not_made_leaves kept is_not holds = omega (arith, (is.not_made is_not).0, (holds content now).made)

  -- the gate stays closed
  still_shut : (skip : ℕ) (held frame : List ℕ) → IsFrame (n + 1) held frame → length held ≤ 3036677 → ((made ≡ true) × (skip ≡ 1)) ⊎ ((made ≡ false) × (skip ≡ 0))
      → is_open (place (other newest)) (laid (place (other newest) + skip) (drop skip frame) content) ≡ false
  still_shut skip held frame is_frame short which = ⊎_elim
      (λ full.
      let at = place (other newest) in
      let c = laid (at + skip) (drop skip frame) content in
      let long = length-framed skip at (n + 1) held frame content (omega (arith, full.1)) is_frame short in
      open-same at content c (head_made (other newest) content (is.all_made full.0 content now)) (omega (arith, long)) (laid-before (at + skip) (drop skip frame) content at (omega (arith, full.1)))
      ∙ (is.stands content now).shut refl)
      (λ cut.
      let at = place (other newest) in
      let c = laid (at + skip) (drop skip frame) content in
      shut_from at c (λ opened. zero_is_one (sym (gate-framed skip at (n + 1) held frame content (omega (arith, cut.1)) is_frame short cut.1) ∙ opened)))
      which

  -- what stands once the frame is laid
  laid_stands : (skip : ℕ) (held frame : List ℕ) → IsFrame (n + 1) held frame → length held ≤ 3036677 → ((made ≡ true) × (skip ≡ 1)) ⊎ ((made ≡ false) × (skip ≡ 0))
      → Stands newest n true (body (place newest) content) (laid (place (other newest) + skip) (drop skip frame) content)
      × IsStaged (other newest) (n + 1) held (laid (place (other newest) + skip) (drop skip frame) content)
  laid_stands skip held frame is_frame short which =
      let at = place (other newest) in
      let bytes = drop skip frame in
      let c = laid (at + skip) bytes content in
      let low : skip ≤ 1 = ⊎_elim (λ full. omega (arith, full.1)) (λ cut. omega (arith, cut.1)) which in
      let torn : Torn (at + skip) (length bytes) content c = torn_laid (at + skip) bytes content in
      let until : at + skip + length bytes ≤ at + 13 + 3036677 = omega (arith, length-drop skip frame, is_frame.long, short, low) in (
        still_stands newest (at + skip) (length bytes) content c torn (omega arith) until n true true (body (place newest) content) (is.stands content now)
            (λ _. still_shut skip held frame is_frame short which) (λ e. absurd (true≢false e)),
        record {
          number_is = number-framed skip at (n + 1) held frame content low is_frame short;
          whole = whole-framed skip at (n + 1) held frame content low is_frame short;
          body_is = body-framed skip at (n + 1) held frame content low is_frame short;
        },
      )

  pub body_kept : (skip : ℕ) (held frame : List ℕ) (new_image : List ℕ → Type 0) → IsFrame (n + 1) held frame → length held ≤ 3036677 → ((made ≡ true) × (skip ≡ 1)) ⊎ ((made ≡ false) × (skip ≡ 0))
      → Only (laid (place (other newest) + skip) (drop skip frame) content) new_image
      → IsKept (laid (place (other newest) + skip) (drop skip frame) content) new_image newest n true true true × Within new_image (IsStaged (other newest) (n + 1) held)
  body_kept skip held frame new_image is_frame short which only =
      let c = laid (place (other newest) + skip) (drop skip frame) content in
      let both = laid_stands skip held frame is_frame short which in (
        kept_settled c new_image newest n true true (body (place newest) content) only (second_made newest c both.0.whole both.1.whole) both.0 (λ _. refl) (λ _. (held, both.1)),
        of_only (IsStaged (other newest) (n + 1) held) c new_image only both.1,
      )

  -- once the frame is laid each image holds what the disk had, made or not
  pub body_holds : (skip : ℕ) (held frame kept : List ℕ) (new_image : List ℕ → Type 0) → IsFrame (n + 1) held frame → length held ≤ 3036677 → ((made ≡ true) × (skip ≡ 1)) ⊎ ((made ≡ false) × (skip ≡ 0))
      → HasBody kept content → Only (laid (place (other newest) + skip) (drop skip frame) content) new_image → Within new_image (Holds kept)
  body_holds skip held frame kept new_image is_frame short which has only =
      let c = laid (place (other newest) + skip) (drop skip frame) content in
      let both = laid_stands skip held frame is_frame short which in
      of_only (Holds kept) c new_image only
      (subst (λ (k : List ℕ). Holds k c) (has_is content image newest n true staged made is kept content now has)
      (stands_holds newest n true (body (place newest) content) c both.0 (second_made newest c both.0.whole both.1.whole)))

-- While the gate of the staged slot is opened.
module _ (content : List ℕ) (image : List ℕ → Type 0) (newest : Slot) (n : ℕ) (now : image content) (is : IsKept content image newest n true true true) where
  pub open_leaves : (kept next : List ℕ) → Within image (Holds kept) → Within image (IsStaged (other newest) (n + 1) next) → Within (TornFrom (place (other newest)) 1 image) (HoldsEither kept next)
  open_leaves kept next holds staged c from =
      let a = from.0 in
      let held = body (place newest) content in
      let made_a = is.all_made refl a from.1 in
      subst (λ (k : List ℕ). HoldsEither k next c) (held_is content image newest n true true true is kept holds a from.1 made_a)
      (open_torn newest n held next a c (is.stands a from.1) made_a (staged a from.1) from.2)

  -- and after it
  pub open_stands : (next : List ℕ) → IsStaged (other newest) (n + 1) next content → Stands (other newest) (n + 1) false next (laid (place (other newest)) (1 ∷ []) content)
  open_stands next staged =
      let at = place (other newest) in
      let c = laid at (1 ∷ []) content in
      let torn : Torn at 1 content c = torn_laid at (1 ∷ []) content in
      let before = is.stands content now in
      let still = staged_torn (other newest) (n + 1) next content c staged torn in
      let parts = whole_parts at c still.whole in
      let same_number = (newest_stays newest at 1 content c torn (omega arith) (omega arith) before.whole).0 ∙ before.number_is in
      newly_stands newest n next c same_number still (open_from at c (omega (arith, parts.within)) (laid_byte at 1 content))

  pub open_made : IsMade (laid (place (other newest)) (1 ∷ []) content)
  open_made =
      let at = place (other newest) in
      let torn : Torn at 1 content (laid at (1 ∷ []) content) = torn_laid at (1 ∷ []) content in
      omega (arith, torn.no_shorter, is.all_made refl content now)

  pub open_kept : (new_image : List ℕ → Type 0) → Only (laid (place (other newest)) (1 ∷ []) content) new_image → IsKept (laid (place (other newest)) (1 ∷ []) content) new_image (other newest) (n + 1) false false true
  open_kept new_image only =
      let next = body (place (other newest)) content in
      kept_settled (laid (place (other newest)) (1 ∷ []) content) new_image (other newest) (n + 1) false false next only open_made (open_stands next (is.staged_is refl content now))
      (λ e. absurd (false≢true e)) (λ e. absurd (false≢true e))

  -- the slot is the newest then, and the other one is open still
  pub open_newest : (IsNewest (other newest) (laid (place (other newest)) (1 ∷ []) content)) × (number (place (other newest)) (laid (place (other newest)) (1 ∷ []) content) ≡ n + 1)
      × (is_open (place newest) (laid (place (other newest)) (1 ∷ []) content) ≡ true)
  open_newest =
      let at = place (other newest) in
      let c = laid at (1 ∷ []) content in
      let torn : Torn at 1 content c = torn_laid at (1 ∷ []) content in
      let before = is.stands content now in
      let same = newest_untouched newest at 1 content c torn (omega arith) (omega arith) before.whole in
      let gate = open_parts (place newest) content before.opened in
      let stands = open_stands (body at content) (is.staged_is refl content now) in (
        record { opened = stands.opened; newer = λ _. omega (arith, stands.older refl, stands.number_is) },
        stands.number_is,
        open_from (place newest) c (omega (arith, same.within_new)) (same.same (place newest) (omega arith) (omega arith) ∙ gate.gate_is),
      )

  pub open_holds : (next : List ℕ) (new_image : List ℕ → Type 0) → Within image (IsStaged (other newest) (n + 1) next) → Only (laid (place (other newest)) (1 ∷ []) content) new_image → Within new_image (Holds next)
  open_holds next new_image staged only =
      let c = laid (place (other newest)) (1 ∷ []) content in
      of_only (Holds next) c new_image only (stands_holds (other newest) (n + 1) false next c (open_stands next (staged content now)) open_made)
