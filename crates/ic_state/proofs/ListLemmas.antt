-- Lists that are spelled element by element, in as many bytes each.
use Rattle.std.proofs.Common.{◌≡◌, ℕ, suc, ◌+◌, ◌-◌, ◌*◌, ◌^◌, ◌<◌, ◌≤◌, List, [], ◌∷◌, ◌++◌, length, get_or, map, take, drop, refl, sym, ap, subst, ◌∙◌, append_assoc, append-nil, arith}
use Rattle.std.proofs.lemmas.List.{length-append, take_more, take_all, take-take, take-append-drop, drop-take}
use Rattle.std.specs.List.{flat_map, AllByRecursion}
use Rattle.ic_state.proofs.NumberLemmas.{fronts}

module _ {X : Type 0} (spell : X → List ℕ) where
  -- one more at the end
  pub spelled_more : (xs : List X) (x : X) → flat_map spell (xs ++ x ∷ []) ≡ flat_map spell xs ++ spell x
  spelled_more [] x = append-nil (spell x)
  spelled_more (y ∷ ys) x = ap (λ (l : List ℕ). spell y ++ l) (spelled_more ys x) ∙ sym (append_assoc (spell y) (flat_map spell ys) (spell x))

  -- what is read is put before what was read
  pub read_more : (xs new : List X) (x : X) (bytes rest after : List ℕ) → bytes ≡ flat_map spell xs ++ rest → rest ≡ spell x ++ after → new ≡ xs ++ x ∷ []
      → bytes ≡ flat_map spell new ++ after
  read_more xs new x bytes rest after so_far next is =
      so_far
      ∙ ap (λ (l : List ℕ). flat_map spell xs ++ l) next
      ∙ sym (append_assoc (flat_map spell xs) (spell x) after)
      ∙ ap (λ (l : List ℕ). l ++ after) (sym (spelled_more xs x))
      ∙ ap (λ (l : List X). flat_map spell l ++ after) (sym is)

  module _ (width : ℕ) (long : (x : X) → length (spell x) ≡ width) where
    pub length-spelled : (xs : List X) → length (flat_map spell xs) ≡ width * length xs
    length-spelled [] = omega arith
    length-spelled (x ∷ xs) = omega (arith, length-append (spell x) (flat_map spell xs), long x, length-spelled xs)

    module _ (Fits : X → Type 0) (one : (x y : X) → Fits x → Fits y → spell x ≡ spell y → x ≡ y) where
      pub same_spelled : (xs ys : List X) (a b : List ℕ) → AllByRecursion Fits xs → AllByRecursion Fits ys → length xs ≡ length ys
          → flat_map spell xs ++ a ≡ flat_map spell ys ++ b → (xs ≡ ys) × (a ≡ b)
      same_spelled [] [] a b fits fits_too same e = (refl, e)
      same_spelled (x ∷ xs) (y ∷ ys) a b fits fits_too same e =
          let parts = fronts (spell x) (spell y) (flat_map spell xs ++ a) (flat_map spell ys ++ b) (long x ∙ sym (long y))
          (sym (append_assoc (spell x) (flat_map spell xs) a) ∙ e ∙ append_assoc (spell y) (flat_map spell ys) b) in
          let first : x ≡ y = one x y fits.0 fits_too.0 parts.0 in
          let rest = same_spelled xs ys a b fits.1 fits_too.1 (omega (arith, same)) parts.1 in
          (rw (first, rest.0) refl, rest.1)
      same_spelled _ _ a b fits fits_too same e = absurd (omega (arith, same))

-- what is appended for the next element
pub put_more : {X : Type 0} (spell : X → List ℕ) (xs : List X) (i : ℕ) (d : X) (start out new : List ℕ) → i < length xs → out ≡ start ++ flat_map spell (take i xs)
    → new ≡ out ++ spell (get_or xs i d) → new ≡ start ++ flat_map spell (take (i + 1) xs)
put_more spell xs i d start out new below so_far put =
    put
    ∙ ap (λ (l : List ℕ). l ++ spell (get_or xs i d)) so_far
    ∙ append_assoc start (flat_map spell (take i xs)) (spell (get_or xs i d))
    ∙ ap (λ (l : List ℕ). start ++ l) (sym (spelled_more spell (take i xs) (get_or xs i d)) ∙ ap (flat_map spell) (sym (take_more xs i d below)))

pub put_all : {X : Type 0} (spell : X → List ℕ) (xs : List X) (i : ℕ) (start out : List ℕ) → length xs ≤ i → out ≡ start ++ flat_map spell (take i xs) → out ≡ start ++ flat_map spell xs
put_all spell xs i start out all so_far = so_far ∙ ap (λ l. start ++ flat_map spell l) (take_all i xs all)

-- each element made another, for one more
pub mapped_more : {X : Type 0} {Y : Type 0} (f : X → Y) (xs : List X) (x : X) → map f (xs ++ x ∷ []) ≡ map f xs ++ f x ∷ []
mapped_more f [] x = refl
mapped_more f (y ∷ ys) x = ap (λ l. f y ∷ l) (mapped_more f ys x)

pub mapped_next : {X : Type 0} {Y : Type 0} (f : X → Y) (xs : List X) (i : ℕ) (d : X) (so_far new : List Y) (y : Y) → i < length xs → so_far ≡ map f (take i xs)
    → new ≡ so_far ++ y ∷ [] → y ≡ f (get_or xs i d) → new ≡ map f (take (i + 1) xs)
mapped_next {X = X} {Y = Y} f xs i d so_far new y below is put one =
    put
    ∙ ap (λ (l : List Y). l ++ y ∷ []) is
    ∙ ap (λ (z : Y). map f (take i xs) ++ z ∷ []) one
    ∙ sym (mapped_more f (take i xs) (get_or xs i d))
    ∙ ap (map f) (sym (take_more xs i d below))

-- what is spelled one by one and then joined
pub joined : {X : Type 0} (spell : X → List ℕ) (xs : List X) → flat_map (λ l. l) (map spell xs) ≡ flat_map spell xs
joined spell [] = refl
joined spell (x ∷ xs) = ap (λ l. spell x ++ l) (joined spell xs)

-- what is spelled of two lists, one after the other
pub spelled_both : {X : Type 0} (spell : X → List ℕ) (xs ys : List X) → flat_map spell (xs ++ ys) ≡ flat_map spell xs ++ flat_map spell ys
spelled_both spell [] ys = refl
spelled_both spell (x ∷ xs) ys = ap (λ (l : List ℕ). spell x ++ l) (spelled_both spell xs ys) ∙ sym (append_assoc (spell x) (flat_map spell xs) (flat_map spell ys))

-- the first ones up to an end: those up to a place before it, and those from there on
pub taken_in_two : {X : Type 0} (xs : List X) (i j : ℕ) → i ≤ j → take j xs ≡ take i xs ++ take (j - i) (drop i xs)
taken_in_two {X = X} xs i j before =
    let there : j ≡ i + (j - i) = omega (arith, before) in
    sym (take-append-drop i (take j xs))
    ∙ ap (λ (l : List X). l ++ drop i (take j xs)) (take-take i j xs before)
    ∙ ap (λ (l : List X). take i xs ++ l) (ap (λ n. drop i (take n xs)) there ∙ drop-take i (j - i) xs)

-- what is appended for the next elements
pub put_part : {X : Type 0} (spell : X → List ℕ) (xs : List X) (i j : ℕ) (start out new : List ℕ) → i ≤ j → out ≡ start ++ flat_map spell (take i xs)
    → new ≡ out ++ flat_map spell (take (j - i) (drop i xs)) → new ≡ start ++ flat_map spell (take j xs)
put_part spell xs i j start out new before so_far put =
    let rest = take (j - i) (drop i xs) in
    put
    ∙ ap (λ (l : List ℕ). l ++ flat_map spell rest) so_far
    ∙ append_assoc start (flat_map spell (take i xs)) (flat_map spell rest)
    ∙ ap (λ (l : List ℕ). start ++ l) (sym (spelled_both spell (take i xs) rest) ∙ ap (flat_map spell) (sym (taken_in_two xs i j before)))

-- a test of each of so many elements
pub all_push : {X : Type 0} (P : X → Type 0) (xs : List X) (x : X) → AllByRecursion P xs → P x → AllByRecursion P (xs ++ x ∷ [])
all_push P [] x all one = (one, tt)
all_push P (y ∷ ys) x all one = (all.0, all_push P ys x all.1 one)

pub all_taken : {X : Type 0} (P : X → Type 0) (xs : List X) (i : ℕ) → length xs ≤ i → AllByRecursion P (take i xs) → AllByRecursion P xs
all_taken P xs i all is = subst (λ l. AllByRecursion P l) (take_all i xs all) is

pub all_next : {X : Type 0} (P : X → Type 0) (xs : List X) (i : ℕ) (d : X) → i < length xs → AllByRecursion P (take i xs) → P (get_or xs i d) → AllByRecursion P (take (i + 1) xs)
all_next P xs i d below all one = subst (λ l. AllByRecursion P l) (sym (take_more xs i d below)) (all_push P (take i xs) (get_or xs i d) all one)

pub all_both : {X : Type 0} (P : X → Type 0) (xs ys : List X) → AllByRecursion P xs → AllByRecursion P ys → AllByRecursion P (xs ++ ys)
all_both P [] ys all others = others
all_both P (x ∷ xs) ys all others = (all.0, all_both P xs ys all.1 others)

pub all_part : {X : Type 0} (P : X → Type 0) (xs : List X) (i j : ℕ) → i ≤ j → AllByRecursion P (take i xs) → AllByRecursion P (take (j - i) (drop i xs)) → AllByRecursion P (take j xs)
all_part P xs i j before all others = subst (λ l. AllByRecursion P l) (sym (taken_in_two xs i j before)) (all_both P (take i xs) (take (j - i) (drop i xs)) all others)

-- what is below a bound at each place is below it
pub all_fit : (xs : List ℕ) → ((i : ℕ) → get_or xs i 0 < 2 ^ 64) → AllByRecursion (λ n. n < 2 ^ 64) xs
all_fit [] each = tt
all_fit (x ∷ xs) each = (each 0, all_fit xs (λ i. each (suc i)))
