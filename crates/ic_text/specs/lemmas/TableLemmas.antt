-- Symbols keep their numbers while a table grows.
use Rattle.std.proofs.Common.{◌≡◌, ◌==◌, ℕ, zero, suc, ◌+◌, ◌<◌, Bool, true, false, not, cond, leb, List, [], ◌∷◌, ◌++◌, Option, None, Some, Ok, is_some, length, refl, sym, ap, ◌∙◌, arith, subst}
use Rattle.std.specs.List.{position, prefix_len, slice_get, AllByRecursion, IsDistinct}
use Rattle.std.specs.Option.{option_map}
use Rattle.std.specs.Str.{bytes_eq}
use Rattle.std.proofs.lemmas.Bool.{leb-true, false≢true}
use Rattle.std.proofs.lemmas.Bool.Decides.{nat_tests}
use Rattle.std.proofs.lemmas.List.{map-append, length-map}
use Rattle.std.proofs.lemmas.Map.Keys.{IsDistinct-head, IsDistinct-tail}
use Rattle.std.proofs.lemmas.Option.{slice_get-map}
use Rattle.std.proofs.lemmas.Slice.Eq.{bytes_eq-Decides}
use Rattle.ic_term.specs.Symbol.{Symbol, AreSymbols, texts, fits_limits, has_arity, number_found, number_of_text, numbered, with_symbol}

lt-suc : (m n : ℕ) → leb (suc (1 + m)) (suc n) ≡ leb (suc m) n
lt-suc m n = grind (arith, nat_tests)

zero-lt : (n : ℕ) → leb (suc zero) (suc n) ≡ true
zero-lt n = grind (arith, nat_tests)

module _ {X : Type 0} (p : X → Bool) where
  -- the first place in a list, by its first element
  pub position-cons : (x : X) (xs : List X) → position p (x ∷ xs) ≡ cond (p x) (Some 0) (option_map (λ k. 1 + k) (position p xs))
  position-cons x xs = by_test (p x)
    where
      by_place : (k : ℕ) (b : Bool) → cond b (Some (1 + k)) None ≡ option_map (λ k. 1 + k) (cond b (Some k) None)
      by_place k true = refl
      by_place k false = refl

      by_test : (b : Bool) → cond (leb (suc (cond (not b) (1 + prefix_len (λ y. not (p y)) xs) 0)) (suc (length xs))) (Some (cond (not b) (1 + prefix_len (λ y. not (p y)) xs) 0)) None ≡ cond b (Some 0) (option_map (λ k. 1 + k) (position p xs))
      by_test true = rw (zero-lt (length xs)) refl
      by_test false = rw (lt-suc (prefix_len (λ y. not (p y)) xs) (length xs)) (by_place (prefix_len (λ y. not (p y)) xs) (leb (suc (prefix_len (λ y. not (p y)) xs)) (length xs)))

  -- a place that was found stays
  pub position-append : (xs ys : List X) (n : ℕ) → position p xs ≡ Some n → position p (xs ++ ys) ≡ Some n
  position-append [] ys n found = cc
  position-append (x ∷ xs) ys n found = position-cons x (xs ++ ys) ∙ by_test (p x) (sym (position-cons x xs) ∙ found) (position-append xs ys)
    where
      by_rest : (o r : Option ℕ) (n : ℕ) → option_map (λ k. 1 + k) o ≡ Some n → ((k : ℕ) → o ≡ Some k → r ≡ Some k) → option_map (λ k. 1 + k) r ≡ Some n
      by_rest None r n e step = cc
      by_rest (Some k) r n e step = ap (option_map (λ k. 1 + k)) (step k refl) ∙ e

      by_test : (b : Bool) → cond b (Some 0) (option_map (λ k. 1 + k) (position p xs)) ≡ Some n → ((k : ℕ) → position p xs ≡ Some k → position p (xs ++ ys) ≡ Some k) → cond b (Some 0) (option_map (λ k. 1 + k) (position p (xs ++ ys))) ≡ Some n
      by_test true e step = e
      by_test false e step = by_rest (position p xs) (position p (xs ++ ys)) n e step

  -- where nothing was found, the next element is the first
  pub position-next : (xs : List X) (y : X) (ys : List X) → position p xs ≡ None → p y ≡ true → position p (xs ++ y ∷ ys) ≡ Some (length xs)
  position-next [] y ys none is = position-cons y ys ∙ rw is refl
  position-next (x ∷ xs) y ys none is = position-cons x (xs ++ y ∷ ys) ∙ by_test (p x) (sym (position-cons x xs) ∙ none) (λ e. position-next xs y ys e is)
    where
      by_rest : (o r : Option ℕ) → option_map (λ k. 1 + k) o ≡ None → (o ≡ None → r ≡ Some (length xs)) → option_map (λ k. 1 + k) r ≡ Some (suc (length xs))
      by_rest None r e step = let more : 1 + length xs ≡ suc (length xs) = omega arith in ap (option_map (λ k. 1 + k)) (step refl) ∙ ap Some more
      by_rest (Some k) r e step = cc

      by_test : (b : Bool) → cond b (Some 0) (option_map (λ k. 1 + k) (position p xs)) ≡ None → (position p xs ≡ None → position p (xs ++ y ∷ ys) ≡ Some (length xs)) → cond b (Some 0) (option_map (λ k. 1 + k) (position p (xs ++ y ∷ ys))) ≡ Some (suc (length xs))
      by_test true e step = cc
      by_test false e step = by_rest (position p xs) (position p (xs ++ y ∷ ys)) e step

pub slice_get-append : {X : Type 0} (xs ys : List X) (n : ℕ) → n < length xs → slice_get (xs ++ ys) n ≡ slice_get xs n
slice_get-append [] ys n lt = absurd (omega arith)
slice_get-append (x ∷ xs) ys zero lt = refl
slice_get-append (x ∷ xs) ys (suc n) lt = slice_get-append xs ys n (omega arith)

pub slice_get-next : {X : Type 0} (xs : List X) (y : X) (ys : List X) → slice_get (xs ++ y ∷ ys) (length xs) ≡ Some y
slice_get-next [] y ys = refl
slice_get-next (x ∷ xs) y ys = slice_get-next xs y ys

pub number_of_text-append : (ss more : List Symbol) (text : List ℕ) (n : ℕ) → number_of_text ss text ≡ Some n → number_of_text (ss ++ more) text ≡ Some n
number_of_text-append ss more text n found =
    ap (position (bytes_eq text)) (map-append (λ (s : Symbol). s.text) ss more) ∙ position-append (bytes_eq text) (texts ss) (texts more) n found

pub number_of_text-next : (ss more : List Symbol) (text : List ℕ) (arity : ℕ) → number_of_text ss text ≡ None → number_of_text (ss ++ record { text = text; arity = arity } ∷ more) text ≡ Some (length ss)
number_of_text-next ss more text arity none =
    ap (position (bytes_eq text)) (map-append (λ (s : Symbol). s.text) ss (record { text = text; arity = arity } ∷ more))
    ∙ position-next (bytes_eq text) (texts ss) text (texts more) none ((bytes_eq-Decides text text).1 refl)
    ∙ ap Some (length-map ss (λ (s : Symbol). s.text))

position-lt : {X : Type 0} (p : X → Bool) (xs : List X) (n : ℕ) → position p xs ≡ Some n → n < length xs
position-lt p xs n found = by_test (leb (suc (prefix_len (λ y. not (p y)) xs)) (length xs)) refl found
  where
    by_test : (b : Bool) → leb (suc (prefix_len (λ y. not (p y)) xs)) (length xs) ≡ b → cond b (Some (prefix_len (λ y. not (p y)) xs)) None ≡ Some n → n < length xs
    by_test true is e = let same : prefix_len (λ y. not (p y)) xs ≡ n = cc in omega (arith, leb-true _ _ is, same)
    by_test false is e = cc

pub number_of_text-lt : (ss : List Symbol) (text : List ℕ) (n : ℕ) → number_of_text ss text ≡ Some n → n < length ss
number_of_text-lt ss text n found = omega (arith, position-lt (bytes_eq text) (texts ss) n found, length-map ss (λ (s : Symbol). s.text))

all_at : {X : Type 0} (P : X → Type 0) (xs : List X) (n : ℕ) (x : X) → AllByRecursion P xs → slice_get xs n ≡ Some x → P x
all_at P [] n x all e = cc
all_at P (y ∷ ys) zero x all e = let same : y ≡ x = cc in subst P same all.0
all_at P (y ∷ ys) (suc n) x all e = all_at P ys n x all.1 e

-- texts that differ one way round differ the other way round
flipped : (a b : List ℕ) → bytes_eq a b ≡ false → bytes_eq b a ≡ false
flipped a b apart = by_test (bytes_eq b a) refl
  where
    by_test : (t : Bool) → bytes_eq b a ≡ t → t ≡ false
    by_test false e = refl
    by_test true e = absurd (false≢true (sym apart ∙ (bytes_eq-Decides a b).1 (sym ((bytes_eq-Decides b a).0 e))))

-- a symbol of a table is found again at its place
found_at : (ss : List Symbol) (n : ℕ) (s : Symbol) → IsDistinct bytes_eq (texts ss) → slice_get ss n ≡ Some s → number_of_text ss s.text ≡ Some n
found_at [] n s apart e = cc
found_at (x ∷ ss) zero s apart e =
    let one : s ≡ x = cc in
    let same : bytes_eq s.text x.text ≡ true = (bytes_eq-Decides s.text x.text).1 (ap (λ (t : Symbol). t.text) one) in
    position-cons (bytes_eq s.text) x.text (texts ss) ∙ rw same refl
found_at (x ∷ ss) (suc n) s apart e =
    let there : slice_get (texts ss) n ≡ Some s.text = slice_get-map (λ (t : Symbol). t.text) ss n ∙ ap (option_map (λ (t : Symbol). t.text)) e in
    let other : bytes_eq s.text x.text ≡ false = flipped x.text s.text (all_at (λ t. bytes_eq x.text t ≡ false) (texts ss) n s.text (IsDistinct-head bytes_eq x.text (texts ss) apart) there) in
    let more : 1 + n ≡ suc n = omega arith in
    position-cons (bytes_eq s.text) x.text (texts ss) ∙ rw other (ap (option_map (λ k. 1 + k)) (found_at ss n s (IsDistinct-tail bytes_eq x.text (texts ss) apart) e) ∙ ap Some more)

pub numbered_again : (ss : List Symbol) (n : ℕ) (s : Symbol) → AreSymbols ss → slice_get ss n ≡ Some s → Ok n ≡ numbered ss s.text s.arity
numbered_again ss n s are e =
    let fits : fits_limits s.text s.arity ≡ true = (all_at _ ss n s are.each e).1 in
    let own : has_arity s.arity (slice_get ss n) ≡ true = ap (has_arity s.arity) e ∙ same s.arity in
    sym (rw fits (ap (number_found ss s.arity) (found_at ss n s are.distinct e) ∙ rw own refl))
  where
    same : (k : ℕ) → (k == k) ≡ true
    same k = grind (arith, nat_tests)

pub stays_with : (ss : List Symbol) (n : ℕ) (s : Symbol) → AreSymbols ss → slice_get ss n ≡ Some s → ss ≡ with_symbol ss s.text s.arity
stays_with ss n s are e = sym (rw (ap is_some (found_at ss n s are.distinct e)) refl)
