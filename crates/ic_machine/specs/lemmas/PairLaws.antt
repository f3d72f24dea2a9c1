-- The numbers of plans: what is found, one more, and what plans keep with it.
use Rattle.std.proofs.Common.{◌≡◌, ℕ, zero, suc, ◌+◌, ◌<◌, ◌==◌, ◌&&◌, Bool, true, false, cond, List, [], ◌∷◌, ◌++◌, Option, None, Some, length, slice_get, IfSome, refl, sym, ap, subst, ◌∙◌, arith}
use Rattle.std.specs.Cmp.{unsigned_Decides}
use Rattle.std.specs.List.{position_from, AllByRecursion}
use Rattle.std.proofs.lemmas.Option.{none-some, same_Some}
use Rattle.std.proofs.lemmas.Bool.{and_from, and_parts}
use Rattle.std.proofs.lemmas.List.{length-append}
use Rattle.ic_machine.specs.Plan.{Planned, Plans, IsPlan, ArePlans, number_of, place_of, plan_at, plan_of}
use Rattle.ic_machine.specs.lemmas.FiringKeeps.{all_append}

module _ (a b x y : ℕ) where
  pub same_pair : (a == x && b == y) ≡ true → (x ≡ a) × (y ≡ b)
  same_pair e = let both = and_parts (a == x) (b == y) e in (sym ((unsigned_Decides a x).0 both.0), sym ((unsigned_Decides b y).0 both.1))

  pub pair_same : x ≡ a → y ≡ b → (a == x && b == y) ≡ true
  pair_same e f = and_from (a == x) (b == y) ((unsigned_Decides a x).1 (sym e)) ((unsigned_Decides b y).1 (sym f))

-- ---- places

module _ {X : Type 0} (t : X → Bool) where
  pub pushed_none : (xs : List X) (j : ℕ) (q : X) → position_from t j xs ≡ None → position_from t j (xs ++ q ∷ []) ≡ cond (t q) (Some (j + length xs)) None
  pushed_none [] j q none = let same : j ≡ j + 0 = omega arith in ap (λ k. cond (t q) (Some k) None) same
  pushed_none (x ∷ xs) j q none = by (t x) none (λ rest. pushed_none xs (j + 1) q rest)
    where
      by : (c : Bool) → cond c (Some j) (position_from t (j + 1) xs) ≡ None
          → (position_from t (j + 1) xs ≡ None → position_from t (j + 1) (xs ++ q ∷ []) ≡ cond (t q) (Some (j + 1 + length xs)) None)
          → cond c (Some j) (position_from t (j + 1) (xs ++ q ∷ [])) ≡ cond (t q) (Some (j + length (x ∷ xs))) None
      by true none rest = absurd (let z = sym none in none-some j z)
      by false none rest = let same : j + 1 + length xs ≡ j + length (x ∷ xs) = omega arith in rest none ∙ ap (λ k. cond (t q) (Some k) None) same

  -- what is found is one of the list
  pub found_there : (P : X → Type 0) (xs : List X) (j i : ℕ) → AllByRecursion P xs → position_from t j xs ≡ Some i
      → (x : X) × (t x ≡ true) × P x × (i < j + length xs)
  found_there P [] j i all some = absurd (none-some i some)
  found_there P (x ∷ xs) j i all some = by (t x) refl some (λ rest. found_there P xs (j + 1) i all.1 rest)
    where
      by : (c : Bool) → t x ≡ c → cond c (Some j) (position_from t (j + 1) xs) ≡ Some i
          → (position_from t (j + 1) xs ≡ Some i → (y : X) × (t y ≡ true) × P y × (i < j + 1 + length xs))
          → (y : X) × (t y ≡ true) × P y × (i < j + length (x ∷ xs))
      by true e some rest = let same = same_Some j i some in (x, e, all.0, omega (arith, same))
      by false e some rest = let found = rest some in let low = found.3 in (found.0, found.1, found.2, omega (arith, low))

  -- and stays where it is in a longer list
  pub found_on : (xs more : List X) (j i : ℕ) → position_from t j xs ≡ Some i → position_from t j (xs ++ more) ≡ Some i
  found_on [] more j i some = absurd (none-some i some)
  found_on (x ∷ xs) more j i some = by (t x) some (λ rest. found_on xs more (j + 1) i rest)
    where
      by : (c : Bool) → cond c (Some j) (position_from t (j + 1) xs) ≡ Some i
          → (position_from t (j + 1) xs ≡ Some i → position_from t (j + 1) (xs ++ more) ≡ Some i)
          → cond c (Some j) (position_from t (j + 1) (xs ++ more)) ≡ Some i
      by true some rest = some
      by false some rest = rest some

-- a pair more, for which there was no number
module _ (pairs : List (ℕ × ℕ)) (a b : ℕ) (new : place_of a b pairs ≡ None) where
  pub place_pushed : (x y : ℕ) → place_of x y (pairs ++ (a, b) ∷ []) ≡ cond (a == x && b == y) (Some (length pairs)) (place_of x y pairs)
  place_pushed x y = by (a == x && b == y) refl (place_of x y pairs) refl
    where
      t : ℕ × ℕ → Bool
      t q = q.0 == x && q.1 == y

      last : 0 + length pairs ≡ length pairs
      last = omega arith

      by : (c : Bool) → (a == x && b == y) ≡ c → (o : Option ℕ) → place_of x y pairs ≡ o
          → place_of x y (pairs ++ (a, b) ∷ []) ≡ cond c (Some (length pairs)) o
      by true e o is =
          let same = same_pair a b x y e in
          let none : place_of x y pairs ≡ None = (λ i. place_of (same.0 i) (same.1 i) pairs) ∙ new in
          pushed_none t pairs 0 (a, b) none ∙ (λ i. cond (e i) (Some (last i)) None)
      by false e None is = pushed_none t pairs 0 (a, b) is ∙ (λ i. cond (e i) (Some (last i)) None)
      by false e (Some i) is = found_on t pairs ((a, b) ∷ []) 0 i is

-- ---- plans

none_or : (ps : List Planned) (i : ℕ) → i < length ps → slice_get ps i ≡ None → ⊥
none_or [] i low none = omega arith
none_or (p ∷ ps) zero low none = none-some p (sym none)
none_or (p ∷ ps) (suc i) low none = none_or ps i (omega arith) none

there_front : (ps : List Planned) (q : Planned) (i : ℕ) → i < length ps → slice_get (ps ++ q ∷ []) i ≡ slice_get ps i
there_front [] q i low = absurd (omega arith)
there_front (p ∷ ps) q zero low = refl
there_front (p ∷ ps) q (suc i) low = there_front ps q i (omega arith)

there_last : (ps : List Planned) (q : Planned) (i : ℕ) → i ≡ length ps → slice_get (ps ++ q ∷ []) i ≡ Some q
there_last ps q i last = ap (slice_get (ps ++ q ∷ [])) last ∙ at ps
  where
    at : (ps : List Planned) → slice_get (ps ++ q ∷ []) (length ps) ≡ Some q
    at [] = refl
    at (p ∷ ps) = at ps

-- the symbols of a number, and the plan that it has
pub numbered_pair : (p : Plans) (a b i : ℕ) → ArePlans p → number_of p a b ≡ Some i
    → (a < length p.arities) × (b < length p.arities) × (i < length p.plans)
numbered_pair p a b i sound number =
    let f = found_there (λ (q : ℕ × ℕ). q.0 == a && q.1 == b) (λ (q : ℕ × ℕ). (q.0 < length p.arities) × (q.1 < length p.arities)) p.pairs 0 i sound.known number in
    let both = and_parts (f.0.0 == a) (f.0.1 == b) f.1 in
    let left = (unsigned_Decides f.0.0 a).0 both.0 in
    let right = (unsigned_Decides f.0.1 b).0 both.1 in
    let known = f.2 in
    let low = f.3 in
    (omega (arith, left, known.0), omega (arith, right, known.1), omega (arith, low, sound.counted))

pub no_number : (p : Plans) (a b : ℕ) → ArePlans p → plan_of p a b ≡ None → number_of p a b ≡ None
no_number p a b sound none = at (number_of p a b) refl
  where
    at : (o : Option ℕ) → number_of p a b ≡ o → o ≡ None
    at None is = refl
    at (Some i) is =
        let low = (numbered_pair p a b i sound is).2 in
        absurd (none_or p.plans i low (sym (ap (plan_at p.plans) is) ∙ none))

-- What holds of the plan of each pair, by the arities of its symbols, holds with a plan more, of a pair that had none.
module _ (P : ℕ → Planned → Type 0) (p : Plans) (a b : ℕ) (plan : Planned) (sound : ArePlans p) (none : plan_of p a b ≡ None)
    (each : (x y left right : ℕ) → slice_get p.arities x ≡ Some left → slice_get p.arities y ≡ Some right → IfSome (plan_of p x y) (P (left + right)))
    (fits : (left right : ℕ) → slice_get p.arities a ≡ Some left → slice_get p.arities b ≡ Some right → P (left + right) plan) where
  pub each_added : (x y left right : ℕ) → slice_get p.arities x ≡ Some left → slice_get p.arities y ≡ Some right
      → IfSome (plan_at (p.plans ++ plan ∷ []) (place_of x y (p.pairs ++ (a, b) ∷ []))) (P (left + right))
  each_added x y left right first second = at (a == x && b == y) refl (number_of p x y) refl
    where
      new : place_of a b p.pairs ≡ None
      new = no_number p a b sound none

      plans : List Planned
      plans = p.plans ++ plan ∷ []

      at : (c : Bool) → (a == x && b == y) ≡ c → (o : Option ℕ) → number_of p x y ≡ o
          → IfSome (plan_at plans (place_of x y (p.pairs ++ (a, b) ∷ []))) (P (left + right))
      at true e o is =
          let same = same_pair a b x y e in
          let place : place_of x y (p.pairs ++ (a, b) ∷ []) ≡ Some (length p.pairs) =
          place_pushed p.pairs a b new x y ∙ ap (λ c. cond c (Some (length p.pairs)) (number_of p x y)) e in
          let there = ap (plan_at plans) place ∙ there_last p.plans plan (length p.pairs) sound.counted in
          subst (λ (o : Option Planned). IfSome o (P (left + right))) (sym there)
          (fits left right (ap (slice_get p.arities) (sym same.0) ∙ first) (ap (slice_get p.arities) (sym same.1) ∙ second))
      at false e None is =
          let place : place_of x y (p.pairs ++ (a, b) ∷ []) ≡ None =
          place_pushed p.pairs a b new x y ∙ ap (λ c. cond c (Some (length p.pairs)) (number_of p x y)) e ∙ is in
          subst (λ (o : Option Planned). IfSome o (P (left + right))) (sym (ap (plan_at plans) place)) tt
      at false e (Some i) is =
          let place : place_of x y (p.pairs ++ (a, b) ∷ []) ≡ Some i =
          place_pushed p.pairs a b new x y ∙ ap (λ c. cond c (Some (length p.pairs)) (number_of p x y)) e ∙ is in
          let low = (numbered_pair p x y i sound is).2 in
          let there = ap (plan_at plans) place ∙ there_front p.plans plan i low ∙ sym (ap (plan_at p.plans) is) in
          subst (λ (o : Option Planned). IfSome o (P (left + right))) (sym there) (each x y left right first second)

-- a plan more, of a pair that had none
pub plans_added : (p : Plans) (a b : ℕ) (plan : Planned) → ArePlans p → a < length p.arities → b < length p.arities → plan_of p a b ≡ None
    → ((left right : ℕ) → slice_get p.arities a ≡ Some left → slice_get p.arities b ≡ Some right → IsPlan p.arities (left + right) plan)
    → ArePlans (record { arities = p.arities; pairs = p.pairs ++ (a, b) ∷ []; plans = p.plans ++ plan ∷ [] })
plans_added p a b plan sound la lb none fits = record {
  counted = omega (arith, length-append p.pairs ((a, b) ∷ []), length-append p.plans (plan ∷ []), sound.counted);
  known = all_append (λ (q : ℕ × ℕ). (q.0 < length p.arities) × (q.1 < length p.arities)) p.pairs ((a, b) ∷ []) sound.known ((la, lb), tt);
  each = each_added (IsPlan p.arities) p a b plan sound none sound.each fits;
}
