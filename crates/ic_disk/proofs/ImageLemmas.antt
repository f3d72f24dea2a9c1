-- That with one range more pending there are no images but the torn ones.
use Rattle.std.proofs.Common.{◌≡◌, ◌⊎◌, inl, inr, ⊎_elim, ℕ, ◌+◌, ◌<◌, ◌≤◌, Bool, cond, true, false, List, [], ◌∷◌, ◌++◌, length, get_or, map, sym, ◌∙◌, ap, subst, arith}
use Rattle.std.specs.Prelude.{nat_le, nat_lt, ◌&&◌}
use Rattle.std.specs.List.{range_with_len}
use Rattle.std.proofs.lemmas.Bool.{cases_lt}
use Rattle.std.proofs.lemmas.Bool.Decides.{nat_tests}
use Rattle.std.proofs.lemmas.List.{ext_get_or}
use Rattle.std.proofs.lemmas.List.FromFn.{get_or-map-range_with_len, length-map-range_with_len}
use Rattle.ic_disk.specs.Images.{Torn, TornFrom, Within}
use Rattle.ic_disk.specs.PlainImages.{Range, IsOutside, IsImage}
use Rattle.ic_disk.specs.lemmas.ImageLaws.{IsOutside-append}

-- whether a place is in the range
is_in : Range → ℕ → Bool
is_in r i = nat_le r.at i && nat_lt i (r.at + r.size)

-- what was synced in the range, and the file elsewhere
restored : Range → List ℕ → List ℕ → List ℕ
restored r synced file = map (λ i. cond (is_in r i) (get_or synced i 0) (get_or file i 0)) (range_with_len 0 (length synced))

length-restored : (r : Range) (synced file : List ℕ) → length (restored r synced file) ≡ length synced
unfolding restored
length-restored r synced file = length-map-range_with_len _ 0 (length synced)

restored_at : (r : Range) (synced file : List ℕ) (i : ℕ) → i < length synced → get_or (restored r synced file) i 0 ≡ cond (is_in r i) (get_or synced i 0) (get_or file i 0)
unfolding restored
restored_at r synced file i inside =
    get_or-map-range_with_len (λ i. cond (is_in r i) (get_or synced i 0) (get_or file i 0)) 0 (length synced) i i 0 inside (omega arith)

-- a place is in the range or outside it
place_cases : (r : Range) (i : ℕ) → (is_in r i ≡ true) ⊎ ((is_in r i ≡ false) × IsOutside (r ∷ []) i)
unfolding is_in
place_cases r i = ⊎_elim
    (λ below. inr (grind (arith, nat_tests), (inl below, tt)))
    (λ from. ⊎_elim (λ until. inl (grind (arith, nat_tests))) (λ past. inr (grind (arith, nat_tests), (inr past, tt))) (cases_lt i (r.at + r.size)))
    (cases_lt i r.at)

-- Outside the range the file is unchanged, in it it is as synced.
restored_image : (synced : List ℕ) (ps : List Range) (r : Range) (file : List ℕ) → IsImage synced (ps ++ r ∷ []) file → IsImage synced ps (restored r synced file)
restored_image synced ps r file image = record {
  agrees = record {
    no_shorter = omega (arith, length-restored r synced file);
    same = place;
  };
  nothing_pending = λ none. ext_get_or 0 (restored r synced file) synced (length-restored r synced file)
      (λ i inside. place i (omega (arith, length-restored r synced file, inside)) (subst (λ (l : List Range). IsOutside l i) (sym none) tt));
}
  where
    place : (i : ℕ) → i < length synced → IsOutside ps i → get_or (restored r synced file) i 0 ≡ get_or synced i 0
    place i inside outside = ⊎_elim
        (λ is. restored_at r synced file i inside ∙ ap (λ (b : Bool). cond b (get_or synced i 0) (get_or file i 0)) is)
        (λ is. restored_at r synced file i inside ∙ ap (λ (b : Bool). cond b (get_or synced i 0) (get_or file i 0)) is.0
        ∙ image.agrees.same i inside (IsOutside-append ps (r ∷ []) i outside is.1))
        (place_cases r i)

not_in_is : (r : Range) (i : ℕ) → ((r.at ≤ i) × (i < r.at + r.size) → ⊥) → is_in r i ≡ false
unfolding is_in
not_in_is r i not_in = grind (arith, nat_tests)

restored_torn : (synced : List ℕ) (r : Range) (file : List ℕ) → length synced ≤ length file → Torn r.at r.size (restored r synced file) file
restored_torn synced r file long = record {
  no_shorter = omega (arith, length-restored r synced file);
  before = λ i inside below. place i (omega (arith, length-restored r synced file, inside)) (λ both. omega arith);
  after = λ i inside above. place i (omega (arith, length-restored r synced file, inside)) (λ both. omega arith);
}
  where
    place : (i : ℕ) → i < length synced → ((r.at ≤ i) × (i < r.at + r.size) → ⊥) → get_or file i 0 ≡ get_or (restored r synced file) i 0
    place i inside not_in = sym (restored_at r synced file i inside ∙ ap (λ (b : Bool). cond b (get_or synced i 0) (get_or file i 0)) (not_in_is r i not_in))

-- With one range more pending there are the torn images and no others.
pub image_torn : (synced : List ℕ) (ps : List Range) (r : Range) → Within (IsImage synced (ps ++ r ∷ [])) (TornFrom r.at r.size (IsImage synced ps))
image_torn synced ps r file image =
    (restored r synced file, restored_image synced ps r file image, restored_torn synced r file image.agrees.no_shorter)
