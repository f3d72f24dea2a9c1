-- Sums over lists, lists in some order, and numbers that are turned into others one-to-one.
use Rattle.std.proofs.Common.{◌≡◌, ℕ, zero, suc, ◌+◌, ◌≤◌, ◌<◌, ◌==◌, inl, inr, List, [], ◌∷◌, ◌++◌, Bool, true, false, cond, length, map, refl, sym, ap, ◌∙◌, arith, eq-eqb, subst as transport}
use Rattle.std.specs.Prelude.{count_by}
use Rattle.std.proofs.lemmas.Bool.{cases_eq, eqb-true, ne_eqb, true≢false}
use Rattle.std.proofs.lemmas.Bool.Decides.{same_from_decides}
use Rattle.std.proofs.lemmas.List.Sums.{sum_by-cons}
use Rattle.std.proofs.lemmas.Simd.{map-map}
use Rattle.ic_nets.specs.Likeness.{InSomeOrder, empty, matched, crossed, chained}

-- what the members of a list weigh together
abbrev pub sum : {A : Type 0} → (A → ℕ) → List A → ℕ
sum w [] = 0
sum w (x ∷ xs) = w x + sum w xs

module _ {A : Type 0} (w : A → ℕ) where
  pub sum-append : (xs ys : List A) → sum w (xs ++ ys) ≡ sum w xs + sum w ys
  sum-append [] ys = omega arith
  sum-append (x ∷ xs) ys = omega (arith, sum-append xs ys)

  pub sum-same : (v : A → ℕ) → ((x : A) → w x ≡ v x) → (xs : List A) → sum w xs ≡ sum v xs
  sum-same v is [] = refl
  sum-same v is (x ∷ xs) = λ i. is x i + sum-same v is xs i

pub sum-map : {A B : Type 0} (f : A → B) (w : B → ℕ) (xs : List A) → sum w (map f xs) ≡ sum (λ x. w (f x)) xs
sum-map f w [] = refl
sum-map f w (x ∷ xs) = ap (λ n. w (f x) + n) (sum-map f w xs)

abbrev pub bit : Bool → ℕ
bit b = cond b 1 0

pub sum-count : {A : Type 0} (is : A → Bool) (xs : List A) → sum (λ x. bit (is x)) xs ≡ count_by is xs
sum-count is [] = refl
sum-count is (x ∷ xs) = omega (arith, sum-count is xs, sum_by-cons (λ y. bit (is y)) x xs)

pub itself_equal : (n : ℕ) → bit (n == n) ≡ 1
itself_equal n = ap bit (eq-eqb n n refl)

pub not_equal : (m n : ℕ) → (m ≡ n → ⊥) → bit (m == n) ≡ 0
not_equal m n isnt = ap bit (ne_eqb m n isnt)

abbrev pub counted : (first count : ℕ) → List ℕ
counted k zero = []
counted k (suc n) = k ∷ counted (k + 1) n

-- ---- lists in some order, made of others

pub as_is : {A : Type 0} (like : A → A → Type 0) → ((x : A) → like x x) → (xs : List A) → InSomeOrder like xs xs
as_is like itself [] = empty
as_is like itself (x ∷ xs) = matched x x xs xs (itself x) (as_is like itself xs)

module _ {A B : Type 0} (like : A → A → Type 0) (likes : B → B → Type 0) (f : A → B) (kept : (x y : A) → like x y → likes (f x) (f y)) where
  pub mapped_order : (xs ys : List A) → InSomeOrder like xs ys → InSomeOrder likes (map f xs) (map f ys)
  mapped_order xs ys empty = empty
  mapped_order xs ys (matched x y us vs same rest) = matched (f x) (f y) (map f us) (map f vs) (kept x y same) (mapped_order us vs rest)
  mapped_order xs ys (crossed x y us) = crossed (f x) (f y) (map f us)
  mapped_order xs ys (chained us vs ws first second) = chained (map f us) (map f vs) (map f ws) (mapped_order us vs first) (mapped_order vs ws second)

-- ---- members have numbers

-- how many members have this number
abbrev pub among : {A : Type 0} → (A → ℕ) → ℕ → List A → ℕ
among number n xs = sum (λ y. bit (n == number y)) xs

-- lists with as many members of each number have them in some order
module _ {A : Type 0} (number : A → ℕ) (like : A → A → Type 0) (is : (x y : A) → number x ≡ number y → like x y) where
  abbrev Taken : A → List A → Type 0
  Taken x fs = (y : A) × (rest : List A) × (number x ≡ number y) × InSomeOrder like (y ∷ rest) fs × ((w : A → ℕ) → sum w fs ≡ w y + sum w rest)

  taken : (x : A) (fs : List A) → 1 ≤ among number (number x) fs → Taken x fs
  taken x [] some = absurd (omega arith)
  taken x (f ∷ fs) some =
      let later = taken x fs in
      elim (cases_eq (number x) (number f)) [
        | inl same ↦ (f, fs, same, as_is like (λ g. is g g refl) (f ∷ fs), λ w. refl)
        | inr isnt ↦
            let found = later (omega (arith, some, not_equal (number x) (number f) isnt)) in
            let y = found.0 in
            let rest = found.1 in (
              y,
              f ∷ rest,
              found.2,
              chained (y ∷ f ∷ rest) (f ∷ y ∷ rest) (f ∷ fs) (crossed y f rest) (matched f f (y ∷ rest) fs (is f f refl) found.3),
              λ w. omega (arith, found.4 w),
            )
      ]

  pub in_order : (es fs : List A) → ((n : ℕ) → among number n es ≡ among number n fs) → InSomeOrder like es fs
  in_order [] [] same = empty
  in_order [] (f ∷ fs) same = absurd (omega (arith, same (number f), itself_equal (number f)))
  in_order (x ∷ es) fs same =
      let found = taken x fs (omega (arith, same (number x), itself_equal (number x))) in
      let y = found.0 in
      let rest = found.1 in
      let later : (n : ℕ) → among number n es ≡ among number n rest =
      λ n. omega (arith, ap (λ k. bit (n == k)) found.2, same n, found.4 (λ z. bit (n == number z))) in
      chained (x ∷ es) (y ∷ rest) fs (matched x y es rest (is x y found.2) (in_order es rest later)) found.3

-- ---- sums over all numbers below a bound

abbrev pub total : (ℕ → ℕ) → ℕ → ℕ
total f zero = 0
total f (suc n) = f n + total f n

pub total-same : (f g : ℕ → ℕ) → ((n : ℕ) → f n ≡ g n) → (m : ℕ) → total f m ≡ total g m
total-same f g same zero = refl
total-same f g same (suc m) = λ i. same m i + total-same f g same m i

module _ (f g : ℕ → ℕ) (x : ℕ) (same : (n : ℕ) → (x == n) ≡ false → f n ≡ g n) where
  -- where two functions differ at one number
  total_to : (m : ℕ) → m ≤ x → total f m ≡ total g m
  total_to zero le = refl
  total_to (suc m) le = omega (arith, same m (ne_eqb x m (λ e. omega (arith, e, le))), total_to m (omega arith))

  pub total_but_one : (m : ℕ) → x < m → total f m + g x ≡ total g m + f x
  total_but_one zero le = absurd (omega arith)
  total_but_one (suc m) le =
      let later = total_but_one m in
      elim (cases_eq x m) [
        | inl here ↦ transport (λ k. f k + total f k + g x ≡ g k + total g k + f x) here (omega (arith, total_to x (omega arith)))
        | inr isnt ↦ omega (arith, same m (ne_eqb x m isnt), later (omega (arith, le, isnt)))
      ]

-- ---- lists of different members are turned into each other

module _ {A : Type 0} (number : A → ℕ) (one : (x y : A) → number x ≡ number y → x ≡ y) where
  abbrev pub IsOne : (A → A) → Type 0
  IsOne f = (x y : A) → f x ≡ f y → x ≡ y

  is : (x y : A) → (number x == number y) ≡ true → x ≡ y
  is x y e = one x y (eqb-true (number x) (number y) e)

  abbrev changed : A → A → A → A
  changed x z a = cond (number z == number a) x (cond (number x == number a) z a)

  other : (x y : A) → (number x == number y) ≡ false → x ≡ y → ⊥
  other x y e same = true≢false (sym (eq-eqb (number x) (number y) (ap number same)) ∙ e)

  changed_one : (x z : A) → IsOne (changed x z)
  changed_one x z a b = by (number z == number a) refl (number x == number a) refl (number z == number b) refl (number x == number b) refl
    where
      by : (p : Bool) → (number z == number a) ≡ p → (q : Bool) → (number x == number a) ≡ q → (r : Bool) → (number z == number b) ≡ r → (s : Bool) → (number x == number b) ≡ s
          → cond p x (cond q z a) ≡ cond r x (cond s z b) → a ≡ b
      by true e1 q e2 true e3 s e4 same = sym (is z a e1) ∙ is z b e3
      by true e1 q e2 false e3 true e4 same = sym (is z a e1) ∙ (sym same ∙ is x b e4)
      by true e1 q e2 false e3 false e4 same = absurd (other x b e4 same)
      by false e1 true e2 true e3 s e4 same = sym (is x a e2) ∙ (sym same ∙ is z b e3)
      by false e1 true e2 false e3 true e4 same = sym (is x a e2) ∙ is x b e4
      by false e1 true e2 false e3 false e4 same = absurd (other z b e3 same)
      by false e1 false e2 true e3 s e4 same = absurd (other x a e2 (sym same))
      by false e1 false e2 false e3 true e4 same = absurd (other z a e1 (sym same))
      by false e1 false e2 false e3 false e4 same = same

  off : (b : Bool) → bit b ≡ 0 → b ≡ false
  off true e = absurd (omega arith)
  off false e = refl

  changed_none : (x z : A) (xs : List A) → among number (number x) xs ≡ 0 → among number (number z) xs ≡ 0 → map (changed x z) xs ≡ xs
  changed_none x z [] none_x none_z = refl
  changed_none x z (a ∷ xs) none_x none_z =
      let not_x = off (number x == number a) (omega (arith, none_x)) in
      let not_z = off (number z == number a) (omega (arith, none_z)) in
      λ i. cond (not_z i) x (cond (not_x i) z a) ∷ changed_none x z xs (omega (arith, none_x)) (omega (arith, none_z)) i

  -- one-to-one turned members stand as often as before
  turned_test : (f : A → A) → IsOne f → (x y : A) → (number (f x) == number (f y)) ≡ (number x == number y)
  turned_test f one_f x y =
      same_from_decides {P = x ≡ y} (number (f x) == number (f y)) (number x == number y)
      (λ e. one_f x y (is (f x) (f y) e), λ same. eq-eqb (number (f x)) (number (f y)) (ap (λ a. number (f a)) same)) (is x y, λ same. eq-eqb (number x) (number y) (ap number same))

  abbrev pub AreApart : List A → Type 0
  AreApart [] = Unit {0}
  AreApart (x ∷ xs) = (among number (number x) xs ≡ 0) × AreApart xs

  -- where no member stands twice, they are apart
  low_apart : (xs : List A) → AreApart xs → (n : ℕ) → among number n xs ≤ 1
  low_apart [] is_apart n = omega arith
  low_apart (x ∷ xs) is_apart n =
      let later = low_apart xs is_apart.1 n in
      elim (cases_eq n (number x)) [
        | inl same ↦ omega (arith, itself_equal (number x), is_apart.0, ap (λ k. among number k (x ∷ xs)) same)
        | inr isnt ↦ omega (arith, later, not_equal n (number x) isnt)
      ]

  apart_low : (xs : List A) → ((n : ℕ) → among number n xs ≤ 1) → AreApart xs
  apart_low [] low = tt
  apart_low (x ∷ xs) low = (omega (arith, low (number x), itself_equal (number x)), apart_low xs (λ n. omega (arith, low n)))

  pub same_apart : (xs ys : List A) → ((n : ℕ) → among number n xs ≡ among number n ys) → AreApart xs → AreApart ys
  same_apart xs ys same is_apart = apart_low ys (λ n. omega (arith, same n, low_apart xs is_apart n))

  pub turned_into : (ys xs : List A) → AreApart ys → AreApart xs → length ys ≡ length xs → (f : A → A) × IsOne f × (map f ys ≡ xs)
  turned_into [] [] ay ax count = (λ x. x, λ x y same. same, refl)
  turned_into (y ∷ ys) (x ∷ xs) ay ax count =
      let later = turned_into ys xs ay.1 ax.1 (omega (arith, count)) in
      let f = later.0 in
      let z = f y in
      let here : changed x z z ≡ x = ap (λ b. cond b x (cond (number x == number z) z z)) (eq-eqb (number z) (number z) refl) in
      let none_z : among number (number z) xs ≡ 0 =
      ap (among number (number z)) (sym later.2) ∙ sum-map f (λ a. bit (number z == number a)) ys
      ∙ sum-same (λ a. bit (number z == number (f a))) (λ a. bit (number y == number a)) (λ a. ap bit (turned_test f later.1 y a)) ys ∙ ay.0 in (
        λ a. changed x z (f a),
        λ a b same. later.1 a b (changed_one x z (f a) (f b) same),
        λ i. here i ∷ (sym (map-map (changed x z) f ys) ∙ ap (map (changed x z)) later.2 ∙ changed_none x z xs ax.0 none_z) i,
      )
  turned_into _ _ ay ax count = absurd (omega arith)
