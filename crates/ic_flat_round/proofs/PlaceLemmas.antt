-- What is found of names, once containers are put in the place of those of one name.
use Rattle.std.proofs.Common.{◌≡◌, ℕ, zero, suc, ◌<◌, ◌==◌, List, [], ◌∷◌, ◌++◌, true, false, cond, Option, None, Some, slice_get, length, refl, sym, ap, ◌∙◌, inl, inr, arith}
use Rattle.std.proofs.Math.ListN.{set}
use Rattle.std.proofs.lemmas.Bool.{cases_Bool, eqb-true, eq-eqb, true≢false}
use Rattle.std.proofs.lemmas.Option.{slice_get_past}
use Rattle.ic_settle.specs.lemmas.Containers.{noted}
use Rattle.ic_flat_round.specs.declared.places.Spot.{Spot}
use Rattle.ic_flat_round.specs.inner.Places.{slot_of, spot_in, spot_of, spot_tells}

-- ---- lists

got_set : {X : Type 0} (xs : List X) (i : ℕ) (x : X) → i < length xs → slice_get (set xs i x) i ≡ Some x
got_set [] i x within = absurd (omega (arith, within))
got_set (y ∷ ys) zero x within = refl
got_set (y ∷ ys) (suc i) x within = got_set ys i x (omega (arith, within))

got_besides : {X : Type 0} (xs : List X) (i : ℕ) (x : X) (j : ℕ) → (j ≡ i → ⊥) → slice_get (set xs i x) j ≡ slice_get xs j
got_besides [] i x j apart = refl
got_besides (y ∷ ys) zero x zero apart = absurd (apart refl)
got_besides (y ∷ ys) zero x (suc j) apart = refl
got_besides (y ∷ ys) (suc i) x zero apart = refl
got_besides (y ∷ ys) (suc i) x (suc j) apart = got_besides ys i x j (λ e. apart (ap suc e))

got_last : {X : Type 0} (xs : List X) (x : X) → slice_get (xs ++ x ∷ []) (length xs) ≡ Some x
got_last [] x = refl
got_last (y ∷ ys) x = got_last ys x

got_before : {X : Type 0} (xs : List X) (x : X) (j : ℕ) → (j ≡ length xs → ⊥) → slice_get (xs ++ x ∷ []) j ≡ slice_get xs j
got_before [] x zero apart = absurd (apart refl)
got_before [] x (suc j) apart = refl
got_before (y ∷ ys) x zero apart = refl
got_before (y ∷ ys) x (suc j) apart = got_before ys x j (λ e. apart (ap suc e))

-- ---- no spots

pub none_found : (slots : List ℕ) (spots : List Spot) (shift : ℕ) (other : Option (ℕ × ℕ)) (y : ℕ) → spots ≡ [] → other ≡ None
    → spot_tells (spot_of slots spots shift y) other y ≡ None
none_found slots spots shift other y none nothing =
    ap (λ l. spot_tells (spot_of slots l shift y) other y) none ∙ by (slice_get slots (slot_of shift y)) ∙ nothing
  where
    by : (o : Option ℕ) → spot_tells (spot_in [] o) other y ≡ other
    by None = refl
    by (Some k) = refl

-- ---- spots of other names

-- a spot of another name tells nothing
pub besides : (s : Spot) (other : Option (ℕ × ℕ)) (y : ℕ) → (s.name == y) ≡ false → spot_tells (Some s) other y ≡ other
besides s other y e = ap (λ b. cond b (Some (s.first, s.last)) other) e

pub mine : (s : Spot) (other : Option (ℕ × ℕ)) (y : ℕ) → (s.name == y) ≡ true → spot_tells (Some s) other y ≡ Some (s.first, s.last)
mine s other y e = ap (λ b. cond b (Some (s.first, s.last)) other) e

module _ (slots : List ℕ) (spots : List Spot) (shift : ℕ) (s : Spot) where
  abbrev there : Option ℕ
  there = slice_get slots (slot_of shift s.name)

  -- ---- in the place of the spot that the name had

  module _ (number : ℕ) (old : Spot) (leads : there ≡ Some number) (is : slice_get spots number ≡ Some old) (same : old.name ≡ s.name) (within : number < length spots) where
    at_same : (other : Option (ℕ × ℕ)) (y : ℕ) → (s.name == y) ≡ true → spot_tells (spot_of slots (set spots number s) shift y) other y ≡ Some (s.first, s.last)
    at_same other y e =
        ap (λ o. spot_tells (spot_in (set spots number s) o) other y) (ap (λ x. slice_get slots (slot_of shift x)) (sym (eqb-true s.name y e)) ∙ leads)
        ∙ ap (λ o. spot_tells o other y) (got_set spots number s within) ∙ mine s other y e

    at_other : (other : Option (ℕ × ℕ)) (y : ℕ) → (s.name == y) ≡ false → (o : Option ℕ) → spot_tells (spot_in (set spots number s) o) other y ≡ spot_tells (spot_in spots o) other y
    at_other other y e None = refl
    at_other other y e (Some k) = elim (cases_Bool (k == number)) [
      | inl t ↦ let k_is = eqb-true k number t in
          ap (λ n. spot_tells (slice_get (set spots number s) n) other y) k_is ∙ ap (λ o. spot_tells o other y) (got_set spots number s within) ∙ besides s other y e
          ∙ sym (ap (λ n. spot_tells (slice_get spots n) other y) k_is ∙ ap (λ o. spot_tells o other y) is ∙ besides old other y (ap (λ x. x == y) same ∙ e))
      | inr f ↦ ap (λ o. spot_tells o other y) (got_besides spots number s k (λ p. true≢false (sym (eq-eqb k number p) ∙ f)))
    ]

    pub put_again : (other : Option (ℕ × ℕ)) (y : ℕ)
        → spot_tells (spot_of slots (set spots number s) shift y) other y ≡ cond (s.name == y) (Some (s.first, s.last)) (spot_tells (spot_of slots spots shift y) other y)
    put_again other y = elim (cases_Bool (s.name == y)) [
      | inl e ↦ at_same other y e ∙ sym (ap (λ b. cond b (Some (s.first, s.last)) (spot_tells (spot_of slots spots shift y) other y)) e)
      | inr e ↦ at_other other y e (slice_get slots (slot_of shift y)) ∙ sym (ap (λ b. cond b (Some (s.first, s.last)) (spot_tells (spot_of slots spots shift y) other y)) e)
    ]

  -- ---- in a slot that no spot has

  module _ (free : (old : Spot) → spot_of slots spots shift s.name ≡ Some old → slot_of shift old.name ≡ slot_of shift s.name → ⊥)
      (within : slot_of shift s.name < length slots) where
    abbrev slot : ℕ
    slot = slot_of shift s.name

    abbrev slots' : List ℕ
    slots' = set slots slot (length spots)

    abbrev spots' : List Spot
    spots' = spots ++ s ∷ []

    at_slot : (other : Option (ℕ × ℕ)) (y : ℕ) → slot_of shift y ≡ slot → spot_tells (spot_of slots' spots' shift y) other y ≡ spot_tells (Some s) other y
    at_slot other y e =
        ap (λ i. spot_tells (spot_in spots' (slice_get slots' i)) other y) e ∙ ap (λ o. spot_tells (spot_in spots' o) other y) (got_set slots slot (length spots) within)
        ∙ ap (λ o. spot_tells o other y) (got_last spots s)

    was_free : (other : Option (ℕ × ℕ)) (y : ℕ) → slot_of shift y ≡ slot → (o : Option Spot) → spot_of slots spots shift s.name ≡ o → spot_tells o other y ≡ other
    was_free other y e None is = refl
    was_free other y e (Some old) is = elim (cases_Bool (old.name == y)) [
      | inl t ↦ absurd (free old is (ap (slot_of shift) (eqb-true old.name y t) ∙ e))
      | inr f ↦ besides old other y f
    ]

    longer : (other : Option (ℕ × ℕ)) (y : ℕ) → (s.name == y) ≡ false → (o : Option ℕ) → spot_tells (spot_in spots' o) other y ≡ spot_tells (spot_in spots o) other y
    longer other y e None = refl
    longer other y e (Some k) = elim (cases_Bool (k == length spots)) [
      | inl t ↦ let k_is = eqb-true k (length spots) t in
          ap (λ n. spot_tells (slice_get spots' n) other y) k_is ∙ ap (λ o. spot_tells o other y) (got_last spots s) ∙ besides s other y e
          ∙ sym (ap (λ o. spot_tells o other y) (slice_get_past spots k (omega (arith, k_is))))
      | inr f ↦ ap (λ o. spot_tells o other y) (got_before spots s k (λ p. true≢false (sym (eq-eqb k (length spots) p) ∙ f)))
    ]

    moved : (other : Option (ℕ × ℕ)) (y : ℕ) → (s.name == y) ≡ false → spot_tells (spot_of slots' spots' shift y) other y ≡ spot_tells (spot_of slots spots shift y) other y
    moved other y e = elim (cases_Bool (slot_of shift y == slot)) [
      | inl t ↦ let same = eqb-true (slot_of shift y) slot t in
          at_slot other y same ∙ besides s other y e
          ∙ sym (ap (λ i. spot_tells (spot_in spots (slice_get slots i)) other y) same ∙ was_free other y same (spot_of slots spots shift s.name) refl)
      | inr f ↦ ap (λ o. spot_tells (spot_in spots' o) other y) (got_besides slots slot (length spots) (slot_of shift y) (λ p. true≢false (sym (eq-eqb (slot_of shift y) slot p) ∙ f)))
          ∙ longer other y e (slice_get slots (slot_of shift y))
    ]

    pub put_new : (other : Option (ℕ × ℕ)) (y : ℕ)
        → spot_tells (spot_of slots' spots' shift y) other y ≡ cond (s.name == y) (Some (s.first, s.last)) (spot_tells (spot_of slots spots shift y) other y)
    put_new other y = elim (cases_Bool (s.name == y)) [
      | inl e ↦ at_slot other y (ap (slot_of shift) (sym (eqb-true s.name y e))) ∙ mine s other y e ∙ sym (ap (λ b. cond b (Some (s.first, s.last)) (spot_tells (spot_of slots spots shift y) other y)) e)
      | inr e ↦ moved other y e ∙ sym (ap (λ b. cond b (Some (s.first, s.last)) (spot_tells (spot_of slots spots shift y) other y)) e)
    ]

  -- ---- beside the spots

  pub put_beside : (other after : Option (ℕ × ℕ)) (y : ℕ) → ((v : Option (ℕ × ℕ)) → spot_tells (spot_of slots spots shift s.name) v s.name ≡ v)
      → after ≡ cond (s.name == y) (Some (s.first, s.last)) other
      → spot_tells (spot_of slots spots shift y) after y ≡ cond (s.name == y) (Some (s.first, s.last)) (spot_tells (spot_of slots spots shift y) other y)
  put_beside other after y passes is = elim (cases_Bool (s.name == y)) [
    | inl e ↦ let here : after ≡ Some (s.first, s.last) = is ∙ ap (λ b. cond b (Some (s.first, s.last)) other) e in
        ap (λ x. spot_tells (spot_of slots spots shift x) after x) (sym (eqb-true s.name y e)) ∙ passes after ∙ here
        ∙ sym (ap (λ b. cond b (Some (s.first, s.last)) (spot_tells (spot_of slots spots shift y) other y)) e)
    | inr e ↦ ap (λ v. spot_tells (spot_of slots spots shift y) v y) (is ∙ ap (λ b. cond b (Some (s.first, s.last)) other) e)
        ∙ sym (ap (λ b. cond b (Some (s.first, s.last)) (spot_tells (spot_of slots spots shift y) other y)) e)
  ]

-- ---- one more container

-- what is found of names, where that of one name has one more container
pub noted_by : (name place first : ℕ) (old new : ℕ → Option (ℕ × ℕ)) → Some (first, place) ≡ noted place (old name)
    → ((y : ℕ) → new y ≡ cond (name == y) (Some (first, place)) (old y)) → (y : ℕ) → new y ≡ cond (name == y) (noted place (old y)) (old y)
noted_by name place first old new is put y = elim (cases_Bool (name == y)) [
  | inl e ↦ put y ∙ ap (λ b. cond b (Some (first, place)) (old y)) e ∙ is ∙ ap (λ x. noted place (old x)) (eqb-true name y e)
      ∙ sym (ap (λ b. cond b (noted place (old y)) (old y)) e)
  | inr e ↦ put y ∙ ap (λ b. cond b (Some (first, place)) (old y)) e ∙ sym (ap (λ b. cond b (noted place (old y)) (old y)) e)
]
