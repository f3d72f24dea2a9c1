-- Lemmas: files that are torn, and what a crash may leave while ranges are pending.
use Rattle.std.proofs.Common.{◌≡◌, ⊎_elim, ℕ, ◌<◌, List, [], ◌∷◌, ◌++◌, length, get_or, refl, ◌∙◌, arith}
use Rattle.ic_disk.specs.Content.{laid}
use Rattle.ic_disk.specs.Images.{Torn, TornFrom, Within, Only}
use Rattle.ic_disk.specs.PlainImages.{Range, IsOutside, IsImage}
use Rattle.ic_disk.specs.lemmas.ContentLaws.{length-laid, laid-before, laid-after}

pub torn_same : (at n : ℕ) (file : List ℕ) → Torn at n file file
torn_same at n file = record { no_shorter = omega arith; before = λ i lt below. refl; after = λ i lt above. refl }

-- what was written is torn from what was there
pub torn_laid : (at : ℕ) (bytes file : List ℕ) → Torn at (length bytes) file (laid at bytes file)
torn_laid at bytes file = record {
  no_shorter = omega (arith, length-laid at bytes file);
  before = λ i lt below. laid-before at bytes file i below;
  after = λ i lt above. laid-after at bytes file i above;
}

-- an image is torn from itself
pub within_torn : (at n : ℕ) (images : List ℕ → Type 0) → Within images (TornFrom at n images)
within_torn at n images file is = (file, is, torn_same at n file)

pub IsOutside-append : (ps qs : List Range) (i : ℕ) → IsOutside ps i → IsOutside qs i → IsOutside (ps ++ qs) i
IsOutside-append [] qs i outside_ps outside_qs = outside_qs
IsOutside-append (p ∷ ps) qs i outside_ps outside_qs = (outside_ps.0, IsOutside-append ps qs i outside_ps.1 outside_qs)

pub IsOutside-left : (ps qs : List Range) (i : ℕ) → IsOutside (ps ++ qs) i → IsOutside ps i
IsOutside-left [] qs i outside = tt
IsOutside-left (p ∷ ps) qs i outside = (outside.0, IsOutside-left ps qs i outside.1)

pub IsOutside-right : (ps qs : List Range) (i : ℕ) → IsOutside (ps ++ qs) i → IsOutside qs i
IsOutside-right [] qs i outside = outside
IsOutside-right (p ∷ ps) qs i outside = IsOutside-right ps qs i outside.1

-- a torn place is the old one's outside the range
pub torn_outside : (r : Range) (old new : List ℕ) → Torn r.at r.size old new → (i : ℕ) → i < length old → IsOutside (r ∷ []) i → get_or new i 0 ≡ get_or old i 0
torn_outside r old new torn i inside outside = ⊎_elim (λ below. torn.before i inside below) (λ above. torn.after i inside above) outside.0

-- A torn image is one of those with the range pending as well.
pub torn_image : (synced : List ℕ) (ps : List Range) (r : Range) → Within (TornFrom r.at r.size (IsImage synced ps)) (IsImage synced (ps ++ r ∷ []))
torn_image synced ps r file from =
    let image = from.1 in
    let torn = from.2 in
    record {
      agrees = record {
        no_shorter = omega (arith, image.agrees.no_shorter, torn.no_shorter);
        same = λ i inside outside.
            torn_outside r from.0 file torn i (omega (arith, image.agrees.no_shorter, inside)) (IsOutside-right ps (r ∷ []) i outside)
            ∙ image.agrees.same i inside (IsOutside-left ps (r ∷ []) i outside);
      };
      nothing_pending = λ none. absurd (not_nil ps r none);
    }
  where
    not_nil : (ps : List Range) (r : Range) → ps ++ r ∷ [] ≡ [] → ⊥
    not_nil [] r none = cc
    not_nil (p ∷ ps) r none = cc

-- with nothing pending there is one image
pub settled_image : (file : List ℕ) → IsImage file [] file
settled_image file = record { agrees = record { no_shorter = omega arith; same = λ i inside outside. refl }; nothing_pending = λ none. refl }

pub image_settled : (file : List ℕ) → Only file (IsImage file [])
image_settled file = record { no_other = λ other image. image.nothing_pending refl }
