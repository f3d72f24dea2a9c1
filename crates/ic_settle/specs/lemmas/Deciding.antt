-- A name occurs outside of an equation just where the links from one of its containers end elsewhere.
use Rattle.std.proofs.Common.{◌≡◌, ℕ, ◌+◌, ◌*◌, ◌<◌, ◌≤◌, ◌==◌, List, [], ◌∷◌, ◌++◌, Bool, true, false, cond, Option, None, Some, is_some, option_map, length, map, refl, sym, ap, ◌∙◌, eq-eqb, inl, inr, arith}
use Rattle.std.proofs.lemmas.Bool.{cases_Bool, eqb-true, ne_eqb, true_from_ne_false}
use Rattle.std.proofs.lemmas.Option.{same_Some}
use Rattle.std.specs.Option.{option_or}
use Rattle.ic_term.specs.Tree.{Tree, name, agent, Pair, pair_names}
use Rattle.ic_term.specs.Configuration.{names_in, occurrences}
use Rattle.ic_settle.specs.declared.applicability.Side.{Side}
use Rattle.ic_settle.specs.declared.applicability.Side.TheVariants.{Left, Right}
use Rattle.ic_settle.specs.declared.applicability.Outlet.{Outlet}
use Rattle.ic_settle.specs.Settling.{Binding, occurs, side_binding, binding}
use Rattle.ic_settle.specs.Sides.{other_side, bound_by}
use Rattle.ic_settle.specs.lemmas.Waiting.{put_each, put_each_pair, bound, IsTop}
use Rattle.ic_settle.specs.lemmas.Containers.{elsewhere, outlet_at, first_outlet, outlet, applicable_of, redirected}
use Rattle.ic_settle.specs.lemmas.SubstitutionLaws.{occurrences-cons, occurrences_none, occurs_none}
use Rattle.ic_settle.specs.lemmas.MiddleLaws.{occurrences-middle}
use Rattle.ic_settle.specs.lemmas.PutEach.{put_each-unbound, put_each-stays_agent}
use Rattle.ic_settle.specs.lemmas.Spots.{IsPlaced}

-- ---- one or two spots

count_one : (e x : ℕ) → occurrences e (x ∷ []) ≡ cond (x == e) 1 0
count_one e x = sum_is (cond (x == e) 1 0)
  where
    sum_is : (k : ℕ) → 0 + k ≡ k
    sum_is k = omega arith

count_two : (e x y : ℕ) → occurrences e (x ∷ y ∷ []) ≡ cond (x == e) 1 0 + cond (y == e) 1 0
count_two e x y = sum_is (cond (x == e) 1 0) (cond (y == e) 1 0)
  where
    sum_is : (k l : ℕ) → (0 + k) + l ≡ k + l
    sum_is k l = omega arith

bit : (x e : ℕ) (b : Bool) → (x == e) ≡ b → ◌≡◌ {A = ℕ} (cond (x == e) 1 0) (cond b 1 0)
bit x e b h = ap (λ c. cond c 1 0) h

-- where the links from both end
elsewhere_pair : (root : ℕ → ℕ) (e : ℕ) (found : Option (ℕ × ℕ)) (a b : ℕ) (c d : Bool) → found ≡ Some (a, b) → (root a == e) ≡ c → (root b == e) ≡ d
    → elsewhere root e found ≡ cond c (cond d None (Some (root b))) (Some (root a))
elsewhere_pair root e found a b c d is f g =
    ap (elsewhere root e) is ∙ ap (λ x. cond x (cond (root b == e) None (Some (root b))) (Some (root a))) f ∙ ap (λ x. cond c (cond x None (Some (root b))) (Some (root a))) g

pub elsewhere_none : (root : ℕ → ℕ) (e : ℕ) (found : Option (ℕ × ℕ)) (spots : List ℕ) → IsPlaced found spots → length spots ≤ 2
    → elsewhere root e found ≡ None → occurrences e (map root spots) ≡ length spots
elsewhere_none root e found [] is few none = refl
elsewhere_none root e found (a ∷ []) is few none = elim (cases_Bool (root a == e)) [
  | inl h ↦ count_one e (root a) ∙ bit (root a) e true h
  | inr h ↦ let bad : Some (root a) ≡ None = sym (elsewhere_pair root e found a a false false is h h) ∙ none in cc
]
elsewhere_none root e found (a ∷ b ∷ []) is few none = elim (cases_Bool (root a == e)) [
  | inl h ↦ elim (cases_Bool (root b == e)) [
    | inl k ↦ omega (arith, count_two e (root a) (root b), bit (root a) e true h, bit (root b) e true k)
    | inr k ↦ let bad : Some (root b) ≡ None = sym (elsewhere_pair root e found a b true false is h k) ∙ none in cc
  ]
  | inr h ↦ let bad : Some (root a) ≡ None = sym (elsewhere_pair root e found a b false (root b == e) is h refl) ∙ none in cc
]
elsewhere_none root e found (a ∷ b ∷ c ∷ ds) is few none = absurd (omega arith)

pub elsewhere_fewer : (root : ℕ → ℕ) (e : ℕ) (found : Option (ℕ × ℕ)) (spots : List ℕ) (t : ℕ) → IsPlaced found spots → length spots ≤ 2
    → elsewhere root e found ≡ Some t → occurrences e (map root spots) < length spots
elsewhere_fewer root e found [] t is few some = let bad : None ≡ Some t = sym (ap (elsewhere root e) is) ∙ some in cc
elsewhere_fewer root e found (a ∷ []) t is few some = elim (cases_Bool (root a == e)) [
  | inl h ↦ let bad : None ≡ Some t = sym (elsewhere_pair root e found a a true true is h h) ∙ some in cc
  | inr h ↦ omega (arith, count_one e (root a), bit (root a) e false h)
]
elsewhere_fewer root e found (a ∷ b ∷ []) t is few some = elim (cases_Bool (root a == e)) [
  | inl h ↦ elim (cases_Bool (root b == e)) [
    | inl k ↦ let bad : None ≡ Some t = sym (elsewhere_pair root e found a b true true is h k) ∙ some in cc
    | inr k ↦ omega (arith, count_two e (root a) (root b), bit (root a) e true h, bit (root b) e false k)
  ]
  | inr h ↦ elim (cases_Bool (root b == e)) [
    | inl k ↦ omega (arith, count_two e (root a) (root b), bit (root a) e false h, bit (root b) e true k)
    | inr k ↦ omega (arith, count_two e (root a) (root b), bit (root a) e false h, bit (root b) e false k)
  ]
]
elsewhere_fewer root e found (a ∷ b ∷ c ∷ ds) t is few some = absurd (omega arith)

-- where a name occurs in this container and in another one, it occurs in no third
pub elsewhere_other : (root : ℕ → ℕ) (e : ℕ) (found : Option (ℕ × ℕ)) (spots : List ℕ) (t : ℕ) → IsPlaced found spots → length spots ≤ 2
    → elsewhere root e found ≡ Some t → 1 ≤ occurrences e (map root spots)
    → (k : ℕ) → occurrences k (map root spots) ≡ cond (e == k) 1 0 + cond (t == k) 1 0
elsewhere_other root e found [] t is few some here k = absurd (omega arith)
elsewhere_other root e found (a ∷ []) t is few some here k = elim (cases_Bool (root a == e)) [
  | inl h ↦ let bad : None ≡ Some t = sym (elsewhere_pair root e found a a true true is h h) ∙ some in cc
  | inr h ↦ absurd (omega (arith, count_one e (root a), bit (root a) e false h))
]
elsewhere_other root e found (a ∷ b ∷ []) t is few some here k = elim (cases_Bool (root a == e)) [
  | inl h ↦ elim (cases_Bool (root b == e)) [
    | inl m ↦ let bad : None ≡ Some t = sym (elsewhere_pair root e found a b true true is h m) ∙ some in cc
    | inr m ↦ let target = same_Some (root b) t (sym (elsewhere_pair root e found a b true false is h m) ∙ some) in
        count_two k (root a) (root b) ∙ ap (λ x. cond (x == k) 1 0 + cond (root b == k) 1 0) (eqb-true (root a) e h) ∙ ap (λ x. cond (e == k) 1 0 + cond (x == k) 1 0) target
  ]
  | inr h ↦ elim (cases_Bool (root b == e)) [
    | inl m ↦ let target = same_Some (root a) t (sym (elsewhere_pair root e found a b false true is h m) ∙ some) in
        count_two k (root a) (root b) ∙ turned (cond (root a == k) 1 0) (cond (root b == k) 1 0)
        ∙ ap (λ x. cond (x == k) 1 0 + cond (root a == k) 1 0) (eqb-true (root b) e m) ∙ ap (λ x. cond (e == k) 1 0 + cond (x == k) 1 0) target
    | inr m ↦ absurd (omega (arith, count_two e (root a) (root b), bit (root a) e false h, bit (root b) e false m))
  ]
]
  where
    turned : (x y : ℕ) → x + y ≡ y + x
    turned x y = omega arith
elsewhere_other root e found (a ∷ b ∷ c ∷ ds) t is few some here k = absurd (omega arith)

-- what ended at one container ends at another one
pub count-redirected : (root : ℕ → ℕ) (e t k : ℕ) (spots : List ℕ) → (e ≡ k → ⊥)
    → occurrences k (map (redirected e t root) spots) ≡ occurrences k (map root spots) + cond (t == k) 1 0 * occurrences e (map root spots)
count-redirected root e t k [] apart = nothing (cond (t == k) 1 0)
  where
    nothing : (c : ℕ) → 0 ≡ 0 + c * 0
    nothing c = omega arith
count-redirected root e t k (s ∷ ss) apart =
    let rest = count-redirected root e t k ss apart in
    elim (cases_Bool (root s == e)) [
      | inl h ↦ let here : (root s == k) ≡ false = ne_eqb (root s) k (λ m. apart (sym (eqb-true (root s) e h) ∙ m)) in
          occurrences-cons k (redirected e t root s) (map (redirected e t root) ss)
          ∙ ap (λ b. cond (cond b t (root s) == k) 1 0 + occurrences k (map (redirected e t root) ss)) h
          ∙ moved (cond (t == k) 1 0) _ (occurrences k (map root ss)) (occurrences e (map root ss)) _ _ rest
          (occurrences-cons k (root s) (map root ss) ∙ ap (λ b. cond b 1 0 + occurrences k (map root ss)) here)
          (occurrences-cons e (root s) (map root ss) ∙ ap (λ b. cond b 1 0 + occurrences e (map root ss)) h)
      | inr h ↦ occurrences-cons k (redirected e t root s) (map (redirected e t root) ss)
          ∙ ap (λ b. cond (cond b t (root s) == k) 1 0 + occurrences k (map (redirected e t root) ss)) h
          ∙ stayed (cond (root s == k) 1 0) (cond (t == k) 1 0) _ (occurrences k (map root ss)) (occurrences e (map root ss)) _ _ rest
          (occurrences-cons k (root s) (map root ss))
          (occurrences-cons e (root s) (map root ss) ∙ ap (λ b. cond b 1 0 + occurrences e (map root ss)) h)
    ]
  where
    moved : (c L K E K' E' : ℕ) → L ≡ K + c * E → K' ≡ 0 + K → E' ≡ 1 + E → c + L ≡ K' + c * E'
    moved c L K E K' E' f g h = rw (f, g, h) (omega arith)

    stayed : (d c L K E K' E' : ℕ) → L ≡ K + c * E → K' ≡ d + K → E' ≡ 0 + E → d + L ≡ K' + c * E'
    stayed d c L K E K' E' f g h = rw (f, g, h) (omega arith)

-- ---- the decision

pub outside_is : (y : ℕ) (ts : List Tree) (before : List Pair) (p : Pair) (after : List Pair) (root : ℕ → ℕ) (e : ℕ) (found : Option (ℕ × ℕ)) (spots : List ℕ)
    → IsPlaced found spots → length spots ≤ 2 → occurrences y (names_in ts (before ++ p ∷ after)) ≡ length spots → occurrences y (pair_names p) ≡ occurrences e (map root spots)
    → occurs y (names_in ts (before ++ after)) ≡ is_some (elsewhere root e found)
outside_is y ts before p after root e found spots is few total inside = by (elsewhere root e found) refl
  where
    by : (o : Option ℕ) → elsewhere root e found ≡ o → occurs y (names_in ts (before ++ after)) ≡ is_some (elsewhere root e found)
    by None none =
        let all = elsewhere_none root e found spots is few none in
        let nothing : occurrences y (names_in ts (before ++ after)) ≡ 0 = omega (arith, occurrences-middle y ts before p after) in
        occurs_none y (names_in ts (before ++ after)) nothing ∙ sym (ap is_some none)
    by (Some t) some =
        let fewer = elsewhere_fewer root e found spots t is few some in
        true_from_ne_false (occurs y (names_in ts (before ++ after)))
        (λ h. omega (arith, occurrences_none y (names_in ts (before ++ after)) h, occurrences-middle y ts before p after))
        ∙ sym (ap is_some some)

-- what stands at a side
abbrev pub side_of : Pair → Side → Tree
side_of p Left = p.left
side_of p Right = p.right

-- the program's choice of a side is the definition's
side_is : (outside : List ℕ) (f : ℕ → Option ℕ) (bs : List Binding) (p : Pair) (side : Side) (t : Tree) → IsTop bs t
    → ((y : ℕ) → bound y bs ≡ 0 → occurs y outside ≡ is_some (f y))
    → side_binding outside (put_each bs t) (other_side p side) ≡ option_map (λ o. bound_by p (applicable_of o)) (outlet_at f side t)
side_is outside f bs p side (name y) top says =
    ap (λ t. side_binding outside t (other_side p side)) (put_each-unbound bs y top) ∙ named (f y) (occurs y outside) (says y top)
  where
    named : (o : Option ℕ) (b : Bool) → b ≡ is_some o
        → cond {A = Option Binding} b (Some (record { name = y; term = other_side p side })) None
        ≡ option_map (λ o'. bound_by p (applicable_of o')) (option_map {T = ℕ} {U = Outlet} (λ target. record { name = y; side = side; target = target }) o)
    named None b e = ap (λ c. cond {A = Option Binding} c (Some (record { name = y; term = other_side p side })) None) e
    named (Some t) b e = ap (λ c. cond {A = Option Binding} c (Some (record { name = y; term = other_side p side })) None) e
side_is outside f bs p side (agent s ts) top says =
    ap (λ t. side_binding outside t (other_side p side)) (put_each-stays_agent bs s ts).1

pub binding_is : (outside : List ℕ) (f : ℕ → Option ℕ) (bs : List Binding) (q : Pair) → IsTop bs q.left → IsTop bs q.right
    → ((y : ℕ) → bound y bs ≡ 0 → occurs y outside ≡ is_some (f y))
    → binding outside (put_each_pair bs q) ≡ option_map (λ o. bound_by (put_each_pair bs q) (applicable_of o)) (outlet f q.left q.right)
binding_is outside f bs q left right says =
    let p = put_each_pair bs q in
    ap (λ o. option_or o (side_binding outside p.right p.left)) (side_is outside f bs p Left q.left left says)
    ∙ ap (option_or (option_map (λ o. bound_by p (applicable_of o)) (outlet_at f Left q.left))) (side_is outside f bs p Right q.right right says)
    ∙ first_is p (outlet_at f Left q.left) (outlet_at f Right q.right)
  where
    first_is : (p : Pair) (a b : Option Outlet)
        → option_or (option_map (λ o. bound_by p (applicable_of o)) a) (option_map (λ o. bound_by p (applicable_of o)) b) ≡ option_map (λ o. bound_by p (applicable_of o)) (first_outlet a b)
    first_is p (Some o) b = refl
    first_is p None b = refl

-- what an outlet says of its side
abbrev OutletOf : (ℕ → Option ℕ) → Tree → Side → Outlet → Type 0
OutletOf f t side o = (t ≡ name o.name) × ((f o.name ≡ Some o.target) × (o.side ≡ side))

outlet_at_is : (f : ℕ → Option ℕ) (side : Side) (t : Tree) (o : Outlet) → outlet_at f side t ≡ Some o → OutletOf f t side o
outlet_at_is f side (name x) o is = by (f x) refl is
  where
    by : (found : Option ℕ) → f x ≡ found → option_map {T = ℕ} {U = Outlet} (λ target. record { name = x; side = side; target = target }) found ≡ Some o → OutletOf f (name x) side o
    by None here e = (let bad : None ≡ Some o = e in cc)
    by (Some t) here e =
        let made : Outlet = record { name = x; side = side; target = t } in
        let same = same_Some made o e in
        (ap (λ w. name w.name) same, (ap (λ w. f w.name) (sym same) ∙ here ∙ ap (λ w. Some w.target) same, ap (λ w. w.side) (sym same)))
outlet_at_is f side (agent s ts) o is = cc

pub outlet_is : (f : ℕ → Option ℕ) (l r : Tree) (o : Outlet) → outlet f l r ≡ Some o → (side_of (record { left = l; right = r }) o.side ≡ name o.name) × (f o.name ≡ Some o.target)
outlet_is f l r o is = by (outlet_at f Left l) refl is
  where
    by : (first : Option Outlet) → outlet_at f Left l ≡ first → first_outlet first (outlet_at f Right r) ≡ Some o
        → (side_of (record { left = l; right = r }) o.side ≡ name o.name) × (f o.name ≡ Some o.target)
    by None none e =
        let second = outlet_at_is f Right r o e in
        (ap (side_of (record { left = l; right = r })) second.1.1 ∙ second.0, second.1.0)
    by (Some w) some e =
        let first = outlet_at_is f Left l o (some ∙ e) in
        (ap (side_of (record { left = l; right = r })) first.1.1 ∙ first.0, first.1.0)

-- what the program finds, where the links from the first container end in this one and those from the last elsewhere
pub outlet_second : (r : ℕ → ℕ) (place : ℕ) (look : ℕ → Option (ℕ × ℕ)) (side : Side) (t : Tree) (x : ℕ) (p : ℕ × ℕ) (first last : ℕ) → t ≡ name x
    → Some p ≡ look x → first ≡ r p.0 → last ≡ r p.1 → first ≡ place → (last ≡ place → ⊥)
    → ◌≡◌ {A = Option Outlet} (Some (record { name = x; side = side; target = last })) (outlet_at (λ y. elsewhere r place (look y)) side t)
outlet_second r place look side t x p first last is found one two here away =
    let f : ℕ → Option ℕ = λ y. elsewhere r place (look y) in
    let make : ℕ → Outlet = λ target. record { name = x; side = side; target = target } in
    let stays = eq-eqb (r p.0) place (sym one ∙ here) in
    let leaves = ne_eqb (r p.1) place (λ h. away (two ∙ h)) in
    let target : f x ≡ Some last =
    ap (elsewhere r place) (sym found) ∙ ap (λ b. cond b (cond (r p.1 == place) None (Some (r p.1))) (Some (r p.0))) stays
    ∙ ap (λ b. cond b None (Some (r p.1))) leaves ∙ ap Some (sym two) in
    sym (ap (outlet_at f side) is ∙ ap (option_map make) target)
