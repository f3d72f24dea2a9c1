-- Lemmas: where an answer is put together, no term can be put for a name.
use Rattle.std.proofs.Common.{◌≡◌, ◌⊎◌, ℕ, ◌+◌, ◌≤◌, ◌==◌, inl, inr, List, [], ◌∷◌, ◌++◌, Bool, true, false, cond, refl, sym, ap, ◌∙◌, arith, subst as transport}
use Rattle.std.proofs.lemmas.Bool.{eq-eqb}
use Rattle.std.proofs.lemmas.List.Sums.{sum_by-cons}
use Rattle.std.specs.Cmp.{unsigned_Decides}
use Rattle.std.specs.List.{AllByRecursion}
use Rattle.ic_term.specs.Tree.{Tree, name, agent, names, Pair, pair_names}
use Rattle.ic_term.specs.Configuration.{Configuration, configuration_names, names_in, occurrences}
use Rattle.ic_settle.specs.NameSteps.{NameStep}
use Rattle.ic_settle.specs.Settling.{Binds, Binding}
use Rattle.ic_settle.specs.lemmas.MiddleLaws.{occurrences-middle}
use Rattle.ic_settle.specs.lemmas.SubstitutionLaws.{occurrences-append, occurrences_some}
use Rattle.ic_round.specs.Naming.{HasNames}
use Rattle.ic_in_place.specs.Reducing.{IsAgentOrFree, IsCircle, IsPutTogether}

-- ---- how often a name occurs

pub one_name : (x y : ℕ) → occurrences y (x ∷ []) ≡ cond (x == y) 1 0
one_name x y = sum_by-cons (λ m. cond (m == y) 1 0) x [] ∙ omega arith

once_itself : (x : ℕ) → occurrences x (x ∷ []) ≡ 1
once_itself x = one_name x x ∙ ap (λ b. cond b 1 0) (eq-eqb x x refl)

same_name : (x y : ℕ) → occurrences y (x ∷ []) ≡ 1 → x ≡ y
same_name x y once = at (x == y) refl
  where
    at : (b : Bool) → (x == y) ≡ b → x ≡ y
    at true e = (unsigned_Decides x y).0 e
    at false e =
        let none : ◌≡◌ {A = ℕ} (cond (x == y) 1 0) 0 = ap (λ b. cond b 1 0) e in
        absurd (omega (arith, one_name x y, none, once))

abbrev name_of : Tree → ℕ
name_of (name x) = x
name_of (agent s ts) = 0

-- ---- the names of an equation

left_there : (e : Pair) (x : ℕ) → e.left ≡ name x → occurrences x (pair_names e) ≡ 1 + occurrences x (names e.right)
left_there e x left =
    let here : occurrences x (names e.left) ≡ 1 = ap (λ t. occurrences x (names t)) left ∙ once_itself x in
    omega (arith, occurrences-append x (names e.left) (names e.right), here)

right_there : (e : Pair) (x : ℕ) → e.right ≡ name x → occurrences x (pair_names e) ≡ occurrences x (names e.left) + 1
right_there e x right =
    let here : occurrences x (names e.right) ≡ 1 = ap (λ t. occurrences x (names t)) right ∙ once_itself x in
    omega (arith, occurrences-append x (names e.left) (names e.right), here)

pub side_there : (e : Pair) (b : Binding) → Binds e b → 1 ≤ occurrences b.name (pair_names e)
side_there e b (inl is) = omega (arith, left_there e b.name (ap (λ (p : Pair). p.left) is))
side_there e b (inr is) = omega (arith, right_there e b.name (ap (λ (p : Pair). p.right) is))

-- ---- ends and circles

free_side : (c : Configuration) (e : Pair) (b : Binding) → Binds e b → IsAgentOrFree c e.left × IsAgentOrFree c e.right
    → occurrences b.name (configuration_names c) ≡ 1
free_side c e b (inl is) free = transport (IsAgentOrFree c) (ap (λ (p : Pair). p.left) is) free.0
free_side c e b (inr is) free = transport (IsAgentOrFree c) (ap (λ (p : Pair). p.right) is) free.1

circle_name : (e : Pair) (b : Binding) → Binds e b → (circle : IsCircle e) → b.name ≡ circle.0
circle_name e b (inl is) circle = ap name_of (sym (ap (λ (p : Pair). p.left) is) ∙ circle.1)
circle_name e b (inr is) circle =
    same_name b.name circle.0 (sym (ap (λ (p : Pair). occurrences circle.0 (names p.right)) is) ∙ circle.2)

circle_twice : (e : Pair) (b : Binding) → Binds e b → IsCircle e → occurrences b.name (pair_names e) ≡ 2
circle_twice e b side circle =
    let twice : occurrences circle.0 (pair_names e) ≡ 2 = omega (arith, left_there e circle.0 circle.1, circle.2) in
    ap (λ x. occurrences x (pair_names e)) (circle_name e b side circle) ∙ twice

-- ---- each equation is an end or a circle

abbrev Stays : Configuration → Pair → Type 0
Stays c e = (IsAgentOrFree c e.left × IsAgentOrFree c e.right) ⊎ IsCircle e

all_stay : (c : Configuration) (es fs : List Pair) → AllByRecursion (λ e. IsAgentOrFree c e.left × IsAgentOrFree c e.right) es → AllByRecursion IsCircle fs
    → AllByRecursion (Stays c) (es ++ fs)
all_stay c [] [] a b = tt
all_stay c [] (f ∷ fs) a b = (inr b.0, all_stay c [] fs tt b.1)
all_stay c (e ∷ es) fs a b = (inl a.0, all_stay c es fs a.1 b)

at_place : (P : Pair → Type 0) (before : List Pair) (e : Pair) (after : List Pair) → AllByRecursion P (before ++ e ∷ after) → P e
at_place P [] e after all = all.0
at_place P (b ∷ before) e after all = at_place P before e after all.1

too_often : (c : Configuration) (e : Pair) (b : Binding) (outside : ℕ) → HasNames c → Binds e b → 1 ≤ outside
    → occurrences b.name (configuration_names c) ≡ outside + occurrences b.name (pair_names e) → Stays c e → ⊥
too_often c e b outside named side some whole (inl free) = omega (arith, some, whole, side_there e b side, free_side c e b side free)
too_often c e b outside named side some whole (inr circle) = omega (arith, some, whole, circle_twice e b side circle, named.twice b.name)

pub no_name_step : (c d : Configuration) → HasNames c → IsPutTogether c → NameStep c d → ⊥
no_name_step c d named together step =
    let x : ℕ = step.bound.name in
    let others : List ℕ = names_in c.interface (step.before ++ step.after) in
    let all : AllByRecursion (Stays c) (together.ends ++ together.circles) =
    all_stay c together.ends together.circles together.are_ends together.are_circles in
    let here : Stays c step.equation = at_place (Stays c) step.before step.equation step.after
    (transport (AllByRecursion (Stays c)) (sym together.parts ∙ step.place) all) in
    too_often c step.equation step.bound (occurrences x others) named step.side (occurrences_some x others step.outside)
    (ap (λ es. occurrences x (names_in c.interface es)) step.place ∙ occurrences-middle x c.interface step.before step.equation step.after)
    here
