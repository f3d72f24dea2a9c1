-- A renaming that is one-to-one on some names goes on as one of all numbers, with a way back.
use Rattle.std.proofs.Common.{◌≡◌, ℕ, ◌<◌, ◌≤◌, ◌==◌, List, [], ◌∷◌, Bool, true, false, cond, refl, sym, ap, ◌∙◌, eq-eqb, arith}
use Rattle.std.specs.Cmp.{unsigned_Decides}
use Rattle.std.specs.List.{AllByRecursion}

abbrev pub swap : ℕ → ℕ → ℕ → ℕ
swap x y n = cond (n == x) y (cond (n == y) x n)

swap_left : (x y : ℕ) → swap x y x ≡ y
swap_left x y = rw (eq-eqb x x refl) refl

at_right : (x y : ℕ) (b : Bool) → (y == x) ≡ b → swap x y y ≡ x
at_right x y true e = rw e ((unsigned_Decides y x).0 e)
at_right x y false e = rw (e, eq-eqb y y refl) refl

swap_right : (x y : ℕ) → swap x y y ≡ x
swap_right x y = at_right x y (y == x) refl

swap_other : (x y n : ℕ) → (n == x) ≡ false → (n == y) ≡ false → swap x y n ≡ n
swap_other x y n e f = rw (e, f) refl

back_at : (x y n : ℕ) (b c : Bool) → (n == x) ≡ b → (n == y) ≡ c → swap x y (swap x y n) ≡ n
back_at x y n true c e f =
    let same = (unsigned_Decides n x).0 e in
    ap (λ k. swap x y (swap x y k)) same ∙ (ap (swap x y) (swap_left x y) ∙ (swap_right x y ∙ sym same))
back_at x y n false true e f =
    let same = (unsigned_Decides n y).0 f in
    ap (λ k. swap x y (swap x y k)) same ∙ (ap (swap x y) (swap_right x y) ∙ (swap_left x y ∙ sym same))
back_at x y n false false e f = ap (swap x y) (swap_other x y n e f) ∙ swap_other x y n e f

swap_back : (x y n : ℕ) → swap x y (swap x y n) ≡ n
swap_back x y n = back_at x y n (n == x) (n == y) refl refl

differ : (m n : ℕ) → ((m ≡ n) → ⊥) → (m == n) ≡ false
differ m n apart = at (m == n) refl
  where
    at : (b : Bool) → (m == n) ≡ b → (m == n) ≡ false
    at true e = absurd (apart ((unsigned_Decides m n).0 e))
    at false e = e

-- a renaming of all numbers, with the way back, that is f on the names of a list, and moves no number from a bound on
pub record Extends (f : ℕ → ℕ) (ns : List ℕ) (bound : ℕ) : Type 0 where
  pub to : ℕ → ℕ
  pub from : ℕ → ℕ
  pub there_and_back : (n : ℕ) → from (to n) ≡ n
  pub back_and_there : (n : ℕ) → to (from n) ≡ n
  pub agrees : AllByRecursion (λ n. to n ≡ f n) ns
  pub fresh : (n : ℕ) → bound ≤ n → to n ≡ n

-- below a bound, and so are their new names
abbrev pub Bounded : (ℕ → ℕ) → ℕ → List ℕ → Type 0
Bounded f bound ns = AllByRecursion (λ n. (n < bound) × (f n < bound)) ns

-- One more name: what it was turned into is exchanged with what it has to be.
module _ (f : ℕ → ℕ) (x : ℕ) (xs : List ℕ) (bound : ℕ) (apart : AllByRecursion (λ n. f x ≡ f n → x ≡ n) xs) (low : x < bound) (low_too : f x < bound) (e : Extends f xs bound) where
  abbrev turned : ℕ → ℕ
  turned n = swap (e.to x) (f x) (e.to n)

  abbrev back : ℕ → ℕ
  back n = e.from (swap (e.to x) (f x) n)

  one_to_one : (m n : ℕ) → e.to m ≡ e.to n → m ≡ n
  one_to_one m n same = sym (e.there_and_back m) ∙ ap e.from same ∙ e.there_and_back n

  still : (n : ℕ) → e.to n ≡ f n → (f x ≡ f n → x ≡ n) → turned n ≡ f n
  still n is only = at (n == x) refl
    where
      at : (b : Bool) → (n == x) ≡ b → turned n ≡ f n
      at true same =
          let here = (unsigned_Decides n x).0 same in
          ap (λ k. swap (e.to x) (f x) (e.to k)) here ∙ swap_left (e.to x) (f x) ∙ ap f (sym here)
      at false other =
          swap_other (e.to x) (f x) (e.to n)
          (differ (e.to n) (e.to x) (λ same. true_false (sym (eq-eqb n x (one_to_one n x same)) ∙ other)))
          (differ (e.to n) (f x) (λ same. true_false (sym (eq-eqb n x (sym (only (sym same ∙ is)))) ∙ other)))
          ∙ is
        where
          true_false : true ≡ false → ⊥
          true_false same = cc

  all_still : (ns : List ℕ) → AllByRecursion (λ n. e.to n ≡ f n) ns → AllByRecursion (λ n. f x ≡ f n → x ≡ n) ns → AllByRecursion (λ n. turned n ≡ f n) ns
  all_still [] is only = tt
  all_still (n ∷ ns) is only = (still n is.0 only.0, all_still ns is.1 only.1)

  pub one_more : Extends f (x ∷ xs) bound
  one_more = record {
    to = turned;
    from = back;
    there_and_back = λ n. ap e.from (swap_back (e.to x) (f x) (e.to n)) ∙ e.there_and_back n;
    back_and_there = λ n. ap (swap (e.to x) (f x)) (e.back_and_there (swap (e.to x) (f x) n)) ∙ swap_back (e.to x) (f x) n;
    agrees = (swap_left (e.to x) (f x), all_still xs e.agrees apart);
    fresh = λ n high.
        ap (swap (e.to x) (f x)) (e.fresh n high)
        ∙ swap_other (e.to x) (f x) n
        (differ n (e.to x) (λ same. omega (arith, low, high, one_to_one n x (e.fresh n high ∙ same))))
        (differ n (f x) (λ same. omega (arith, low_too, high, same)));
  }

-- of each name of a list, those after it
abbrev pub AreApart : (ℕ → ℕ) → List ℕ → Type 0
AreApart f [] = Unit {0}
AreApart f (x ∷ xs) = AllByRecursion (λ n. f x ≡ f n → x ≡ n) xs × AreApart f xs

pub extended : (f : ℕ → ℕ) (ns : List ℕ) (bound : ℕ) → AreApart f ns → Bounded f bound ns → Extends f ns bound
extended f [] bound apart low = record { to = λ n. n; from = λ n. n; there_and_back = λ n. refl; back_and_there = λ n. refl; agrees = tt; fresh = λ n high. refl }
extended f (x ∷ xs) bound apart low = one_more f x xs bound apart.0 low.0.0 low.0.1 (extended f xs bound apart.1 low.1)

-- each is apart from each
after : (f : ℕ → ℕ) (x : ℕ) (xs all : List ℕ) → AllByRecursion (λ m. AllByRecursion (λ n. f m ≡ f n → m ≡ n) (x ∷ all)) xs → AllByRecursion (λ m. AllByRecursion (λ n. f m ≡ f n → m ≡ n) all) xs
after f x [] all is = tt
after f x (m ∷ ms) all is = (is.0.1, after f x ms all is.1)

pub apart_from : (f : ℕ → ℕ) (ns : List ℕ) → AllByRecursion (λ m. AllByRecursion (λ n. f m ≡ f n → m ≡ n) ns) ns → AreApart f ns
apart_from f [] is = tt
apart_from f (x ∷ xs) is = (is.0.1, apart_from f xs (after f x xs xs is.1))
