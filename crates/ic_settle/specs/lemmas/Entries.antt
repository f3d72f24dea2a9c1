-- The entries of a map of bindings, once one is taken out or put in.
use Rattle.std.proofs.Common.{◌≡◌, ℕ, suc, ◌+◌, ◌<◌, List, [], ◌∷◌, Bool, cond, not, None, Some, length, get_or, position, refl, sym, ap, ◌∙◌, one-add, inl, inr, arith, subst as transport}
use Rattle.std.proofs.lemmas.Bool.{cases_Bool, lt-ltb}
use Rattle.std.proofs.lemmas.List.{length-map}
use Rattle.std.proofs.lemmas.List.Sums.{sum_by-cons, sum_by-swap_remove}
use Rattle.std.specs.Prelude.{nat_eq, sum_by}
use Rattle.std.specs.List.{position_or_len, swap_remove}
use Rattle.std.specs.Map.{keys_of, lookup}
use Rattle.std.specs.Option.{option_map_or}
use Rattle.indexmap.specs.IndexMap.{swap_remove_entry, insert_entry}

-- where a look-up finds a value, and that the value is there
found_at : {X : Type 0} (test : ℕ → Bool) (es : List (ℕ × X)) (t : X) → lookup test es ≡ Some t
    → (position_or_len test (keys_of es) < length es) × ((d : ℕ × X) → (get_or es (position_or_len test (keys_of es)) d).1 ≡ t)
found_at test [] t e = cc
found_at {X} test (e ∷ es) t is =
    let P : ℕ → Type 0 = λ i. (i < length (e ∷ es)) × ((d : ℕ × X) → (get_or (e ∷ es) i d).1 ≡ t) in
    elim (cases_Bool (test e.0)) [
      | inl p ↦ let same : Some e.1 ≡ Some t = sym (ap (λ b. cond b (Some e.1) (lookup test es)) p) ∙ is in
          let value : e.1 ≡ t = cc in
          let first : position_or_len test (keys_of (e ∷ es)) ≡ 0 = ap (λ b. cond (not b) (1 + position_or_len test (keys_of es)) 0) p in
          transport P (sym first) (omega arith, λ d. value)
      | inr p ↦ let later : lookup test es ≡ Some t = sym (ap (λ b. cond b (Some e.1) (lookup test es)) p) ∙ is in
          let rest = found_at test es t later in
          let k = position_or_len test (keys_of es) in
          let next : position_or_len test (keys_of (e ∷ es)) ≡ suc k = ap (λ b. cond (not b) (1 + k) 0) p ∙ one-add k in
          transport P (sym next) (omega (arith, rest.0), λ d. rest.1 d)
    ]

-- a sum over the values loses that of the entry that is taken out
pub swap_removed : {X : Type 0} (f : X → ℕ) (x : ℕ) (es : List (ℕ × X)) (t : X) → lookup (nat_eq x) es ≡ Some t
    → sum_by (λ e. f e.1) (swap_remove_entry (nat_eq x) es) + f t ≡ sum_by (λ e. f e.1) es
swap_removed f x [] t is = cc
swap_removed {X} f x (e ∷ es) t is =
    let g : ℕ × X → ℕ = λ a. f a.1 in
    let found = found_at (nat_eq x) (e ∷ es) t is in
    let i = position_or_len (nat_eq x) (keys_of (e ∷ es)) in
    let within : i < length (keys_of (e ∷ es)) = omega (arith, found.0, length-map (e ∷ es) (λ (a : ℕ × X). a.0)) in
    let place : position (nat_eq x) (keys_of (e ∷ es)) ≡ Some i = ap (λ b. cond b (Some i) None) (lt-ltb i (length (keys_of (e ∷ es))) within) in
    let entries : swap_remove_entry (nat_eq x) (e ∷ es) ≡ swap_remove (e ∷ es) i e = ap (λ o. option_map_or (λ j. swap_remove (e ∷ es) j e) o (e ∷ es)) place in
    let value : f t ≡ g (get_or (e ∷ es) i e) = ap f (sym (found.1 e)) in
    ap (λ l. sum_by g l + f t) entries ∙ ap (λ s. sum_by g (swap_remove (e ∷ es) i e) + s) value ∙ sum_by-swap_remove g (e ∷ es) i e found.0

-- a sum over the values gains that of a new entry
pub newly_added : {X : Type 0} (f : X → ℕ) (x : ℕ) (es : List (ℕ × X)) (t : X) → lookup (nat_eq x) es ≡ None
    → sum_by (λ e. f e.1) (insert_entry nat_eq es x t) ≡ sum_by (λ e. f e.1) es + f t
newly_added f x [] t is = refl
newly_added {X} f x (e ∷ es) t is =
    let g : ℕ × X → ℕ = λ a. f a.1 in
    elim (cases_Bool (nat_eq x e.0)) [
      | inl p ↦ let bad : Some e.1 ≡ None = sym (ap (λ b. cond b (Some e.1) (lookup (nat_eq x) es)) p) ∙ is in cc
      | inr p ↦ let later : lookup (nat_eq x) es ≡ None = sym (ap (λ b. cond b (Some e.1) (lookup (nat_eq x) es)) p) ∙ is in
          let rest = newly_added f x es t later in
          ap (λ b. sum_by g (cond b ((e.0, t) ∷ es) (e ∷ insert_entry nat_eq es x t))) p
          ∙ sum_by-cons g e (insert_entry nat_eq es x t) ∙ moved (g e) _ _ (f t) rest ∙ ap (λ s. s + f t) (sym (sum_by-cons g e es))
    ]
  where
    moved : (a s r k : ℕ) → s ≡ r + k → a + s ≡ (a + r) + k
    moved a s r k h = omega arith
