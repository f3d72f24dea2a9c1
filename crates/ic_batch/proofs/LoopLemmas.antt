-- What is so of a list, element by element.
use Rattle.std.proofs.Common.{◌≡◌, ◌⊎◌, inl, inr, ⊎_elim, ℕ, ◌+◌, ◌%◌, ◌^◌, ◌<◌, ◌≤◌, List, ◌∷◌, ◌++◌, length, drop, take, get_or, true, Option, None, Some, refl, sym, ap, subst, ◌∙◌, append-nil, append_assoc, arith}
use Rattle.std.specs.Prelude.{is_some, not, slice_get}
use Rattle.std.specs.List.{AllByRecursion, flat_map}
use Rattle.std.proofs.Math.Nat.{mod-eq_of_lt, mod_self}
use Rattle.std.proofs.lemmas.Bool.{cases_lt}
use Rattle.std.proofs.lemmas.List.{drop_all, drop_more, take-append-drop}
use Rattle.std.proofs.lemmas.Option.{slice_get_read}
use Rattle.std.proofs.lemmas.List.Concat.{flat_map-cons}

module _ {X : Type 0} (xs : List X) (i : ℕ) (x : X) (below : i < length xs) (is : x ≡ get_or xs i x) where
  pub item_at : slice_get xs i ≡ Some x
  item_at = slice_get_read xs (length xs) i x refl below is

  pub split_here : drop i xs ≡ x ∷ drop (i + 1) xs
  split_here = drop_more xs i x below ∙ ap (λ (y : X). y ∷ drop (i + 1) xs) (sym is)

  pub parted_here : xs ≡ take i xs ++ x ∷ drop (i + 1) xs
  parted_here = sym (take-append-drop i xs) ∙ ap (λ (l : List X). take i xs ++ l) split_here

  -- one element more is so
  pub all_more : (P : X → Type 0) {Q : Type 0} → P x → (AllByRecursion P (drop i xs) → Q) → AllByRecursion P (drop (i + 1) xs) → Q
  all_more P here so_far rest = so_far (subst (λ (l : List X). AllByRecursion P l) (sym split_here) (here, rest))

  -- the text of one element more is there
  pub text_more : (f : X → List ℕ) (old new : List ℕ) → new ≡ old ++ f x → old ++ flat_map f (drop i xs) ≡ flat_map f xs
      → new ++ flat_map f (drop (i + 1) xs) ≡ flat_map f xs
  text_more f old new put so_far =
      ap (λ (l : List ℕ). l ++ flat_map f (drop (i + 1) xs)) put ∙ append_assoc old (f x) (flat_map f (drop (i + 1) xs)) ∙ ap (λ (l : List ℕ). old ++ l) (sym (flat_map-cons f x (drop (i + 1) xs)))
      ∙ ap (λ (l : List X). old ++ flat_map f l) (sym split_here) ∙ so_far

pub all_over : {X : Type 0} (P : X → Type 0) {Q : Type 0} (xs : List X) (i : ℕ) → length xs ≤ i → (AllByRecursion P (drop i xs) → Q) → Q
all_over P xs i past so_far = so_far (subst (λ l. AllByRecursion P l) (sym (drop_all i xs past)) tt)

pub text_over : {X : Type 0} (f : X → List ℕ) (xs : List X) (i : ℕ) (text : List ℕ) → length xs ≤ i → text ++ flat_map f (drop i xs) ≡ flat_map f xs → text ≡ flat_map f xs
text_over f xs i text past so_far = sym (append-nil text) ∙ ap (λ l. text ++ flat_map f l) (sym (drop_all i xs past)) ∙ so_far

-- what isn't there is nothing
pub none_is : {X : Type 0} (o : Option X) → not (is_some o) ≡ true → o ≡ None
none_is None is = refl
none_is (Some x) is = cc

-- a count of rounds goes up by one, or begins anew
pub wraps : (n : ℕ) → n < 2 ^ 64 → ((n + 1) % 2 ^ 64 ≡ n + 1) ⊎ ((n + 1) % 2 ^ 64 ≡ 0)
wraps n small = ⊎_elim
    (λ (less : n + 1 < 2 ^ 64). inl (mod-eq_of_lt less))
    (λ (more : 2 ^ 64 ≤ n + 1). inr (let last : n + 1 ≡ 2 ^ 64 = omega (arith, small, more) in ap (λ (k : ℕ). k % 2 ^ 64) last ∙ mod_self (2 ^ 64)))
    (cases_lt (n + 1) (2 ^ 64))
