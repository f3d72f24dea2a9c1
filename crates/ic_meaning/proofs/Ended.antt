-- Lemmas: where each equation is a name of its own with a term, or stuck, putting terms for names ends quiet.
use Rattle.std.proofs.Common.{◌≡◌, ◌⊎◌, ℕ, zero, suc, ◌+◌, ◌*◌, ◌≤◌, ◌==◌, List, [], ◌∷◌, ◌++◌, Bool, true, false, cond, Option, None, Some, length, map, refl, sym, ap, ◌∙◌, eq-eqb, arith, inl, inr, subst as transport}
use Rattle.std.proofs.lemmas.Bool.{ne_eqb}
use Rattle.std.proofs.lemmas.List.{map-append}
use Rattle.std.proofs.lemmas.List.Sorted.{IsPermutation-refl, IsPermutation-sym, IsPermutation-middle}
use Rattle.std.specs.Cmp.{unsigned_Decides}
use Rattle.std.specs.List.{flat_map, AllByRecursion}
use Rattle.ic_term.specs.Tree.{Tree, name, agent, Trees, no_trees, more_trees, names, names_of, Pair, pair_names}
use Rattle.ic_term.specs.Configuration.{Configuration, configuration_names, names_in, occurrences}
use Rattle.ic_rules.specs.Rule.{Rule}
use Rattle.ic_rules.specs.RuleSet.{rule_for}
use Rattle.ic_settle.specs.Settling.{Binding, subst, subst_all, subst_pair, Binds}
use Rattle.ic_settle.specs.lemmas.SubstitutionLaws.{occurrences-append, occurrences-cons, occurrences_some}
use Rattle.ic_settle.specs.lemmas.MiddleLaws.{occurrences-middle}
use Rattle.ic_settle.specs.lemmas.WholeLaws.{whole, names_of-whole, subst_all-whole}
use Rattle.ic_settle.specs.lemmas.StepLaws.{itself_once as name_itself}
use Rattle.ic_round.specs.Naming.{HasNames}
use Rattle.ic_round.specs.Firing.{Active, active_pair, oriented, rule_of_sides}
use Rattle.ic_round.specs.Quiet.{IsQuiet}
use Rattle.ic_round.specs.Steps.{Step, interaction, indirection, collect}
use Rattle.ic_reaching.specs.OneNet.{OneNet}
use Rattle.ic_reaching.specs.Pieces.{piece_of}
use Rattle.ic_meaning.proofs.Given.{NetLaws}
use Rattle.ic_meaning.specs.lemmas.Terms.{flat_names}
use Rattle.ic_meaning.specs.lemmas.Orders.{all_back}
use Rattle.ic_meaning.proofs.Wholes.{in_front}
use Rattle.ic_machine.specs.lemmas.FiringKeeps.{all_append}

-- ---- how often names occur where a term is put for a name

put_name : (n x m : ℕ) (u : Tree) → (x ≡ n → ⊥) → (b : Bool) → (m == x) ≡ b
    → occurrences n (names (cond b u (name m))) ≡ occurrences n (m ∷ []) + cond b 1 0 * occurrences n (names u)
put_name n x m u apart true e =
    let same = (unsigned_Decides m x).0 e in
    let none : occurrences n (m ∷ []) ≡ 0 = rw (ne_eqb m n (λ is. apart (sym same ∙ is))) refl in
    omega arith
put_name n x m u apart false e = omega arith

one_name : (m x : ℕ) → occurrences x (m ∷ []) ≡ cond (m == x) 1 0
one_name m x = occurrences-cons x m [] ∙ omega arith

put_more : (p m o k q r s t u a b : ℕ) → p ≡ m + o * k → q ≡ r + s * k → t ≡ p + q → a ≡ m + r → b ≡ o + s → u ≡ a + b * k → t ≡ u
put_more p m o k q r s t u a b e f g h i j = rw (g, j, h, i, e, f) (omega arith)

mutual
  put_counts : (n x : ℕ) (u t : Tree) → (x ≡ n → ⊥) → occurrences n (names (subst x u t)) ≡ occurrences n (names t) + occurrences x (names t) * occurrences n (names u)
  put_counts n x u (name m) apart =
      put_name n x m u apart (m == x) refl ∙ ap (λ (k : ℕ). occurrences n (m ∷ []) + k * occurrences n (names u)) (sym (one_name m x))
  put_counts n x u (agent s ts) apart = put_counts_all n x u ts apart

  put_counts_all : (n x : ℕ) (u : Tree) (ts : Trees) → (x ≡ n → ⊥) → occurrences n (names_of (subst_all x u ts)) ≡ occurrences n (names_of ts) + occurrences x (names_of ts) * occurrences n (names u)
  put_counts_all n x u no_trees apart = omega arith
  put_counts_all n x u (more_trees t ts) apart =
      put_more (occurrences n (names (subst x u t))) (occurrences n (names t)) (occurrences x (names t)) (occurrences n (names u))
      (occurrences n (names_of (subst_all x u ts))) (occurrences n (names_of ts)) (occurrences x (names_of ts))
      (occurrences n (names (subst x u t) ++ names_of (subst_all x u ts)))
      (occurrences n (names t ++ names_of ts) + occurrences x (names t ++ names_of ts) * occurrences n (names u))
      (occurrences n (names t ++ names_of ts)) (occurrences x (names t ++ names_of ts))
      (put_counts n x u t apart) (put_counts_all n x u ts apart) (occurrences-append n (names (subst x u t)) (names_of (subst_all x u ts)))
      (occurrences-append n (names t) (names_of ts)) (occurrences-append x (names t) (names_of ts)) refl

put_counts_in : (n x : ℕ) (u : Tree) (ts : List Tree) (es : List Pair) → (x ≡ n → ⊥)
    → occurrences n (names_in (map (subst x u) ts) (map (subst_pair x u) es)) ≡ occurrences n (names_in ts es) + occurrences x (names_in ts es) * occurrences n (names u)
put_counts_in n x u ts es apart =
    let after : names_of (subst_all x u (whole ts es)) ≡ names_in (map (subst x u) ts) (map (subst_pair x u) es) =
    ap names_of (subst_all-whole x u ts es) ∙ names_of-whole (map (subst x u) ts) (map (subst_pair x u) es) in
    let before = names_of-whole ts es in
    ap (occurrences n) (sym after)
    ∙ (put_counts_all n x u (whole ts es) apart
    ∙ (λ i. occurrences n (before i) + occurrences x (before i) * occurrences n (names u)))

-- ---- what each equation is

-- a name is that of a binding to an agent with this symbol
abbrev pub BindsTo : List Binding → ℕ → ℕ → Type 0
BindsTo [] x a = ⊥
BindsTo (b ∷ bs) x a = ((b.name ≡ x) × (us : Trees) × (b.term ≡ agent a us)) ⊎ BindsTo bs x a

-- A side of a stuck equation: an agent, or a name of one, or a free name.
pub data Side (total : ℕ → ℕ) (bs : List Binding) : Tree → Option ℕ → Type 0 where
  of_agent : (a : ℕ) (us : Trees) → Side total bs (agent a us) (Some a)
  of_name : (a x : ℕ) → BindsTo bs x a → Side total bs (name x) (Some a)
  of_free : (x : ℕ) → total x ≡ 1 → Side total bs (name x) None

abbrev pub HaveNoRule : List Rule → Option ℕ → Option ℕ → Type 0
HaveNoRule rs None q = Unit {0}
HaveNoRule rs (Some a) None = Unit {0}
HaveNoRule rs (Some a) (Some b) = rule_for rs a b ≡ None

pub record Stuck (rs : List Rule) (total : ℕ → ℕ) (bs : List Binding) (e : Pair) : Type 0 where
  pub left_symbol : Option ℕ
  pub right_symbol : Option ℕ
  pub left : Side total bs e.left left_symbol
  pub right : Side total bs e.right right_symbol
  pub none : HaveNoRule rs left_symbol right_symbol

-- A circle: all occurrences of the name are in the equation.
pub record Circle (total : ℕ → ℕ) (b : Binding) : Type 0 where
  pub own : total b.name ≡ 1 + occurrences b.name (names b.term)
  pub some : 1 ≤ occurrences b.name (names b.term)
  pub kind : ((s : ℕ) × (us : Trees) × (b.term ≡ agent s us)) ⊎ (b.term ≡ name b.name)

abbrev pub HeadsApart : List Binding → Type 0
HeadsApart [] = Unit {0}
HeadsApart (b ∷ bs) = AllByRecursion (λ o. o.name ≡ b.name → ⊥) bs × HeadsApart bs

abbrev pub in_bindings : List Tree → List Binding → List Binding → List Pair → ℕ → Configuration
in_bindings ts bs zs ss next = record {
  interface = ts;
  equations = map piece_of bs ++ (map piece_of zs ++ ss);
  next = next;
}

pub record Bound (rs : List Rule) (total : ℕ → ℕ) (c : Configuration) (bs zs : List Binding) (ss : List Pair) : Type 0 where
  pub counts : (n : ℕ) → 1 ≤ occurrences n (configuration_names c) → occurrences n (configuration_names c) ≡ total n
  pub heads : AllByRecursion (λ b. total b.name ≡ 2) bs
  pub apart : HeadsApart bs
  pub circles : AllByRecursion (Circle total) zs
  pub stuck : AllByRecursion (Stuck rs total bs) ss

-- ---- a quiet end

-- an equation is of no rule, and its sides bind nothing elsewhere
abbrev pub IsEnded : List Rule → (ℕ → ℕ) → Pair → Type 0
IsEnded rs total e = (active_pair rs e ≡ None) × ((y : ℕ) → (e.left ≡ name y) ⊎ (e.right ≡ name y) → total y ≡ occurrences y (pair_names e))

all_at_middle : {X : Type 0} (P : X → Type 0) (before : List X) (x : X) (after : List X) → AllByRecursion P (before ++ x ∷ after) → P x
all_at_middle P before x after all = (all_back P before (x ∷ after) all).0

pub name_agent : {x s : ℕ} {us : Trees} → name x ≡ agent s us → ⊥
name_agent e = cc

same_name : {x y : ℕ} → name x ≡ name y → x ≡ y
same_name e = cc

pub circle_inert : (rs : List Rule) (total : ℕ → ℕ) (zs : List Binding) → AllByRecursion (Circle total) zs
    → AllByRecursion (IsEnded rs total) (map piece_of zs)
circle_inert rs total [] all = tt
circle_inert rs total (z ∷ zs) all = ((refl, λ y. at y all.0.kind), circle_inert rs total zs all.1)
  where
    own : total z.name ≡ occurrences z.name (z.name ∷ names z.term)
    own =
        let first = occurrences-append z.name (z.name ∷ []) (names z.term) in
        let itself = name_itself z.name in
        let is = all.0.own in
        omega arith

    at : (y : ℕ) → ((s : ℕ) × (us : Trees) × (z.term ≡ agent s us)) ⊎ (z.term ≡ name z.name) → (name z.name ≡ name y) ⊎ (z.term ≡ name y) → total y ≡ occurrences y (z.name ∷ names z.term)
    at y kind (inl here) = transport (λ (x : ℕ). total x ≡ occurrences x (z.name ∷ names z.term)) (same_name here) own
    at y (inl (s, us, is)) (inr there) = absurd (name_agent (sym there ∙ is))
    at y (inr is) (inr there) = transport (λ (x : ℕ). total x ≡ occurrences x (z.name ∷ names z.term)) (same_name (sym is ∙ there)) own

pub side_free : (total : ℕ → ℕ) (t : Tree) (o : Option ℕ) (y : ℕ) → Side total [] t o → t ≡ name y → total y ≡ 1
side_free total t o y (of_agent a us) is = absurd (name_agent (sym is))
side_free total t o y (of_name a x bound) is = absurd bound
side_free total t o y (of_free x one) is = transport (λ (z : ℕ). total z ≡ 1) (same_name is) one

stuck_inert : (rs : List Rule) (total : ℕ → ℕ) (e : Pair) → Stuck rs total [] e → active_pair rs e ≡ None
stuck_inert rs total e s = at e.left e.right s.left_symbol s.right_symbol s.left s.right s.none
  where
    at : (t u : Tree) (o q : Option ℕ) → Side total [] t o → Side total [] u q → HaveNoRule rs o q → oriented t u (rule_of_sides rs t u) ≡ None
    at t u o q (of_agent a us) (of_agent b vs) none = ap (oriented (agent a us) (agent b vs)) none
    at t u o q (of_agent a us) (of_name b x bound) none = absurd bound
    at t u o q (of_name a x bound) other none = absurd bound
    at t u o q _ _ none = refl

pub stuck_ends : (rs : List Rule) (total : ℕ → ℕ) (c : Configuration) (ss : List Pair) → AllByRecursion (Stuck rs total []) ss
    → ((n : ℕ) → 1 ≤ occurrences n (configuration_names c) → occurrences n (configuration_names c) ≡ total n)
    → ((n : ℕ) → occurrences n (flat_map pair_names ss) ≤ occurrences n (configuration_names c))
    → AllByRecursion (IsEnded rs total) ss
stuck_ends rs total c [] all counts inside = tt
stuck_ends rs total c (e ∷ ss) all counts inside =
    ((stuck_inert rs total e all.0, at), stuck_ends rs total c ss all.1 counts (λ n. let parts = occurrences-append n (pair_names e) (flat_map pair_names ss) in let few = inside n in omega arith))
  where
    few_here : (y : ℕ) → occurrences y (pair_names e) ≤ occurrences y (configuration_names c)
    few_here y = let parts = occurrences-append y (pair_names e) (flat_map pair_names ss) in let few = inside y in omega arith

    at : (y : ℕ) → (e.left ≡ name y) ⊎ (e.right ≡ name y) → total y ≡ occurrences y (pair_names e)
    at y (inl is) =
        let one = side_free total e.left all.0.left_symbol y all.0.left is in
        let here : occurrences y (names e.left) ≡ 1 = ap (λ (t : Tree). occurrences y (names t)) is ∙ name_itself y in
        let parts = occurrences-append y (names e.left) (names e.right) in
        let few = few_here y in
        let same = counts y (omega arith) in
        omega arith
    at y (inr is) =
        let one = side_free total e.right all.0.right_symbol y all.0.right is in
        let here : occurrences y (names e.right) ≡ 1 = ap (λ (t : Tree). occurrences y (names t)) is ∙ name_itself y in
        let parts = occurrences-append y (names e.left) (names e.right) in
        let few = few_here y in
        let same = counts y (omega arith) in
        omega arith

some_none : {a : Active} {o : Option Active} → o ≡ Some a → o ≡ None → ⊥
some_none e f = let both = sym e ∙ f in cc

pub quiet_end : (rs : List Rule) (total : ℕ → ℕ) (ts : List Tree) (zs : List Binding) (ss : List Pair) (next : ℕ) → Bound rs total (in_bindings ts [] zs ss next) [] zs ss
    → IsQuiet rs (in_bindings ts [] zs ss next)
quiet_end rs total ts zs ss next is d step = at step
  where
    inside : (n : ℕ) → occurrences n (flat_map pair_names ss) ≤ occurrences n (names_in ts (map piece_of zs ++ ss))
    inside n =
        let one = occurrences-append n (flat_map names ts) (flat_map pair_names (map piece_of zs ++ ss)) in
        let two = ap (occurrences n) (flat_names (map piece_of zs) ss) ∙ occurrences-append n (flat_map pair_names (map piece_of zs)) (flat_map pair_names ss) in
        omega arith

    all : AllByRecursion (IsEnded rs total) (map piece_of zs ++ ss)
    all = all_append (IsEnded rs total) (map piece_of zs) ss
        (circle_inert rs total zs is.circles) (stuck_ends rs total (in_bindings ts [] zs ss next) ss is.stuck is.counts inside)

    at_place : (before : List Pair) (e : Pair) (after : List Pair) → map piece_of zs ++ ss ≡ before ++ e ∷ after
        → IsEnded rs total e
    at_place before e after parts =
        all_at_middle (IsEnded rs total) before e after
        (transport (AllByRecursion (IsEnded rs total)) parts all)

    no_side : (before : List Pair) (e : Pair) (after : List Pair) (b : Binding) → map piece_of zs ++ ss ≡ before ++ e ∷ after → Binds e b
        → 1 ≤ occurrences b.name (names_in ts (before ++ after)) → ⊥
    no_side before e after b parts side some =
        let own = (at_place before e after parts).1 b.name (side_of side) in
        let total_is = ap (λ l. occurrences b.name (names_in ts l)) parts ∙ occurrences-middle b.name ts before e after in
        let same = is.counts b.name (omega arith) in
        absurd (omega arith)
      where
        side_of : Binds e b → (e.left ≡ name b.name) ⊎ (e.right ≡ name b.name)
        side_of (inl here) = inl (ap (λ (p : Pair). p.left) here)
        side_of (inr here) = inr (ap (λ (p : Pair). p.right) here)

    at : Step rs (in_bindings ts [] zs ss next) d → ⊥
    at (interaction x y place i) = some_none i.has_rule (at_place i.before i.equation i.after i.stands.parts).0
    at (indirection x y place i) =
        no_side i.before i.equation i.after i.bound i.stands.parts i.side
        (let some = occurrences_some i.bound.name (flat_map pair_names (i.before ++ i.after)) i.elsewhere in
        let parts = occurrences-append i.bound.name (flat_map names ts) (flat_map pair_names (i.before ++ i.after)) in omega arith)
    at (collect x y place i) =
        no_side i.before i.equation i.after i.bound i.stands.parts i.side
        (let some = occurrences_some i.bound.name (flat_map names ts) i.elsewhere in
        let parts = occurrences-append i.bound.name (flat_map names ts) (flat_map pair_names (i.before ++ i.after)) in omega arith)

-- ---- a term that is put for its name

gone_name : (x m : ℕ) (u : Tree) → occurrences x (names u) ≡ 0 → (b : Bool) → (m == x) ≡ b → occurrences x (names (cond b u (name m))) ≡ 0
gone_name x m u none true e = none
gone_name x m u none false e = rw e refl

mutual
  gone_counts : (x : ℕ) (u t : Tree) → occurrences x (names u) ≡ 0 → occurrences x (names (subst x u t)) ≡ 0
  gone_counts x u (name m) none = gone_name x m u none (m == x) refl
  gone_counts x u (agent s ts) none = gone_counts_all x u ts none

  gone_counts_all : (x : ℕ) (u : Tree) (ts : Trees) → occurrences x (names u) ≡ 0 → occurrences x (names_of (subst_all x u ts)) ≡ 0
  gone_counts_all x u no_trees none = refl
  gone_counts_all x u (more_trees t ts) none =
      let here = gone_counts x u t none in
      let rest = gone_counts_all x u ts none in
      let parts = occurrences-append x (names (subst x u t)) (names_of (subst_all x u ts)) in
      omega arith

gone_counts_in : (x : ℕ) (u : Tree) (ts : List Tree) (es : List Pair) → occurrences x (names u) ≡ 0
    → occurrences x (names_in (map (subst x u) ts) (map (subst_pair x u) es)) ≡ 0
gone_counts_in x u ts es none =
    ap (occurrences x) (sym (ap names_of (subst_all-whole x u ts es) ∙ names_of-whole (map (subst x u) ts) (map (subst_pair x u) es)))
    ∙ gone_counts_all x u (whole ts es) none

put_name_other : (x y : ℕ) (u : Tree) → (y ≡ x → ⊥) → subst x u (name y) ≡ name y
put_name_other x y u other = rw (ne_eqb y x other) refl

put_name_itself : (x : ℕ) (u : Tree) → subst x u (name x) ≡ u
put_name_itself x u = rw (eq-eqb x x refl) refl

-- bindings with a term put for a name in their terms
abbrev pub put_terms : ℕ → Tree → List Binding → List Binding
put_terms x t bs = map (λ b. record { name = b.name; term = subst x t b.term }) bs

put_pieces : (x : ℕ) (t : Tree) (bs : List Binding) → AllByRecursion (λ o. o.name ≡ x → ⊥) bs → map (subst_pair x t) (map piece_of bs) ≡ map piece_of (put_terms x t bs)
put_pieces x t [] apart = refl
put_pieces x t (b ∷ bs) apart =
    let head = put_name_other x b.name t apart.0 in
    λ i. record { left = head i; right = subst x t b.term } ∷ put_pieces x t bs apart.1 i

put_heads : (total : ℕ → ℕ) (x : ℕ) (t : Tree) (bs : List Binding) → AllByRecursion (λ b. total b.name ≡ 2) bs → AllByRecursion (λ b. total b.name ≡ 2) (put_terms x t bs)
put_heads total x t [] all = tt
put_heads total x t (b ∷ bs) all = (all.0, put_heads total x t bs all.1)

put_differ : (y x : ℕ) (t : Tree) (bs : List Binding) → AllByRecursion (λ o. o.name ≡ y → ⊥) bs → AllByRecursion (λ o. o.name ≡ y → ⊥) (put_terms x t bs)
put_differ y x t [] all = tt
put_differ y x t (b ∷ bs) all = (all.0, put_differ y x t bs all.1)

put_apart : (x : ℕ) (t : Tree) (bs : List Binding) → HeadsApart bs → HeadsApart (put_terms x t bs)
put_apart x t [] apart = tt
put_apart x t (b ∷ bs) apart = (put_differ b.name x t bs apart.0, put_apart x t bs apart.1)

-- circles don't have this name, and what is put has none of theirs
circles_differ : (total : ℕ → ℕ) (x : ℕ) (zs : List Binding) → AllByRecursion (Circle total) zs → total x ≡ 2 → occurrences x (flat_map pair_names (map piece_of zs)) ≤ 1
    → AllByRecursion (λ o. o.name ≡ x → ⊥) zs
circles_differ total x [] all two few = tt
circles_differ total x (z ∷ zs) all two few =
    let parts = occurrences-append x (z.name ∷ names z.term) (flat_map pair_names (map piece_of zs)) in
    (differs, circles_differ total x zs all.1 two (omega arith))
  where
    differs : z.name ≡ x → ⊥
    differs same =
        let own = all.0.own in
        let itself = name_itself z.name in
        let first = occurrences-append z.name (z.name ∷ []) (names z.term) in
        let middle : occurrences z.name (z.name ∷ names z.term) ≡ total z.name = omega arith in
        let here : occurrences x (z.name ∷ names z.term) ≡ total x =
        ap (λ (y : ℕ). occurrences y (z.name ∷ names z.term)) (sym same) ∙ (middle ∙ ap total same) in
        let parts = occurrences-append x (z.name ∷ names z.term) (flat_map pair_names (map piece_of zs)) in
        omega arith

put_circles : (total : ℕ → ℕ) (x : ℕ) (t : Tree) (zs : List Binding) → AllByRecursion (Circle total) zs → AllByRecursion (λ o. o.name ≡ x → ⊥) zs
    → ((n : ℕ) → 1 ≤ occurrences n (flat_map pair_names (map piece_of zs)) → occurrences n (flat_map pair_names (map piece_of zs)) + occurrences n (names t) ≤ total n)
    → AllByRecursion (Circle total) (put_terms x t zs)
put_circles total x t [] all differ few = tt
put_circles total x t (z ∷ zs) all differ few = (
  record { own = own_put; some = some_put; kind = kind_put all.0.kind },
  put_circles total x t zs all.1 differ.1 (λ n some.
      let parts = occurrences-append n (z.name ∷ names z.term) (flat_map pair_names (map piece_of zs)) in
      let less = few n (omega arith) in omega arith),
)
  where
    other : x ≡ z.name → ⊥
    other same = differ.0 (sym same)

    none : occurrences z.name (names t) ≡ 0
    none =
        let own = all.0.own in
        let itself = name_itself z.name in
        let first = occurrences-append z.name (z.name ∷ []) (names z.term) in
        let parts = occurrences-append z.name (z.name ∷ names z.term) (flat_map pair_names (map piece_of zs)) in
        let less = few z.name (omega arith) in
        omega arith

    own_put : total z.name ≡ 1 + occurrences z.name (names (subst x t z.term))
    own_put =
        let own = all.0.own in
        let counts = put_counts z.name x t z.term other in
        let product : occurrences x (names z.term) * occurrences z.name (names t) ≡ 0 = rw none (omega arith) in
        omega arith

    some_put : 1 ≤ occurrences z.name (names (subst x t z.term))
    some_put = let before = all.0.own in let after = own_put in let more = all.0.some in omega (arith, before, after, more)

    kind_put : ((s : ℕ) × (us : Trees) × (z.term ≡ agent s us)) ⊎ (z.term ≡ name z.name)
        → ((s : ℕ) × (us : Trees) × (subst x t z.term ≡ agent s us)) ⊎ (subst x t z.term ≡ name z.name)
    kind_put (inl (s, us, is)) = inl (s, subst_all x t us, ap (subst x t) is)
    kind_put (inr is) = inr (ap (subst x t) is ∙ put_name_other x z.name t differ.0)

binds_put : (x : ℕ) (t : Tree) (bs : List Binding) (y a : ℕ) → BindsTo bs y a → BindsTo (put_terms x t bs) y a
binds_put x t [] y a bound = bound
binds_put x t (b ∷ bs) y a (inl (same, us, is)) = inl (same, subst_all x t us, ap (subst x t) is)
binds_put x t (b ∷ bs) y a (inr later) = inr (binds_put x t bs y a later)

binds_differ : (x : ℕ) (bs : List Binding) (y a : ℕ) → AllByRecursion (λ o. o.name ≡ x → ⊥) bs → BindsTo bs y a → y ≡ x → ⊥
binds_differ x [] y a apart bound same = bound
binds_differ x (b ∷ bs) y a apart (inl here) same = apart.0 (here.0 ∙ same)
binds_differ x (b ∷ bs) y a apart (inr later) same = binds_differ x bs y a apart.1 later same

side_put : (total : ℕ → ℕ) (b : Binding) (bs : List Binding) → AllByRecursion (λ o. o.name ≡ b.name → ⊥) bs → total b.name ≡ 2 → (u : Tree) (o : Option ℕ)
    → Side total (b ∷ bs) u o → Side total (put_terms b.name b.term bs) (subst b.name b.term u) o
side_put total b bs apart two u o (of_agent a us) = of_agent a (subst_all b.name b.term us)
side_put total b bs apart two u o (of_name a y (inl (same, us, is))) =
    let put : agent a us ≡ subst b.name b.term (name y) =
    sym is ∙ (sym (put_name_itself b.name b.term) ∙ ap (λ (z : ℕ). subst b.name b.term (name z)) same) in
    transport (λ (t : Tree). Side total (put_terms b.name b.term bs) t (Some a)) put (of_agent a us)
side_put total b bs apart two u o (of_name a y (inr later)) =
    let other = binds_differ b.name bs y a apart later in
    transport (λ (t : Tree). Side total (put_terms b.name b.term bs) t (Some a)) (sym (put_name_other b.name y b.term other)) (of_name a y (binds_put b.name b.term bs y a later))
side_put total b bs apart two u o (of_free y one) =
    let other : y ≡ b.name → ⊥ = (λ same. let is = ap total same in omega arith) in
    transport (λ (t : Tree). Side total (put_terms b.name b.term bs) t None) (sym (put_name_other b.name y b.term other)) (of_free y one)

put_stuck : (rs : List Rule) (total : ℕ → ℕ) (b : Binding) (bs : List Binding) → AllByRecursion (λ o. o.name ≡ b.name → ⊥) bs → total b.name ≡ 2 → (ss : List Pair)
    → AllByRecursion (Stuck rs total (b ∷ bs)) ss → AllByRecursion (Stuck rs total (put_terms b.name b.term bs)) (map (subst_pair b.name b.term) ss)
put_stuck rs total b bs apart two [] all = tt
put_stuck rs total b bs apart two (s ∷ ss) all = (
  record {
    left_symbol = all.0.left_symbol;
    right_symbol = all.0.right_symbol;
    left = side_put total b bs apart two s.left all.0.left_symbol all.0.left;
    right = side_put total b bs apart two s.right all.0.right_symbol all.0.right;
    none = all.0.none;
  },
  put_stuck rs total b bs apart two ss all.1,
)

circles_inside : (n : ℕ) (ts : List Tree) (bs zs : List Binding) (ss : List Pair)
    → occurrences n (flat_map pair_names (map piece_of zs)) + occurrences n (flat_map pair_names ss) ≤ occurrences n (names_in ts (map piece_of bs ++ (map piece_of zs ++ ss)))
circles_inside n ts bs zs ss =
    let a = occurrences-append n (flat_map names ts) (flat_map pair_names (map piece_of bs ++ (map piece_of zs ++ ss))) in
    let b = ap (occurrences n) (flat_names (map piece_of bs) (map piece_of zs ++ ss)) ∙ occurrences-append n (flat_map pair_names (map piece_of bs)) (flat_map pair_names (map piece_of zs ++ ss)) in
    let c = ap (occurrences n) (flat_names (map piece_of zs) ss) ∙ occurrences-append n (flat_map pair_names (map piece_of zs)) (flat_map pair_names ss) in
    omega arith

put_bound : NetLaws → (rs : List Rule) (total : ℕ → ℕ) (ts : List Tree) (b : Binding) (bs zs : List Binding) (ss : List Pair) (next : ℕ)
    → HasNames (in_bindings ts (b ∷ bs) zs ss next) → Bound rs total (in_bindings ts (b ∷ bs) zs ss next) (b ∷ bs) zs ss
    → 1 ≤ occurrences b.name (names_in ts (map piece_of bs ++ (map piece_of zs ++ ss)))
    → OneNet (in_bindings ts (b ∷ bs) zs ss next)
    (in_bindings (map (subst b.name b.term) ts) (put_terms b.name b.term bs) (put_terms b.name b.term zs) (map (subst_pair b.name b.term) ss) next)
    × Bound rs total (in_bindings (map (subst b.name b.term) ts) (put_terms b.name b.term bs) (put_terms b.name b.term zs) (map (subst_pair b.name b.term) ss) next)
    (put_terms b.name b.term bs) (put_terms b.name b.term zs) (map (subst_pair b.name b.term) ss)
put_bound laws rs total ts b bs zs ss next named is some =
    let x : ℕ = b.name in
    let t : Tree = b.term in
    let rest : List Pair = map piece_of bs ++ (map piece_of zs ++ ss) in
    let c : Configuration = in_bindings ts (b ∷ bs) zs ss next in
    let d : Configuration = in_bindings (map (subst x t) ts) (put_terms x t bs) (put_terms x t zs) (map (subst_pair x t) ss) next in
    let all = in_front x ts (piece_of b) rest in
    let own = occurrences-append x (x ∷ []) (names t) in
    let itself = name_itself x in
    let few = named.twice x in
    let none : occurrences x (names t) ≡ 0 = omega arith in
    let once : occurrences x (names_in ts rest) ≡ 1 = omega arith in
    let two = is.heads.0 in
    let inside = circles_inside x ts bs zs ss in
    let differ = circles_differ total x zs is.circles two (omega arith) in
    let pieces = put_pieces x t bs is.apart.0 in
    let pieces_too = put_pieces x t zs differ in
    let equations : map (subst_pair x t) rest ≡ d.equations =
    map-append (subst_pair x t) (map piece_of bs) (map piece_of zs ++ ss)
    ∙ ((λ i. pieces i ++ map (subst_pair x t) (map piece_of zs ++ ss))
    ∙ ap (λ l. map piece_of (put_terms x t bs) ++ l) (map-append (subst_pair x t) (map piece_of zs) ss ∙ (λ i. pieces_too i ++ map (subst_pair x t) ss))) in
    let put = laws.anywhere c x t rest named (IsPermutation-refl c.equations) some in
    let net : OneNet c d = transport (OneNet c) (λ i. record { interface = map (subst x t) ts; equations = equations i; next = next }) put in (
      net,
      record {
        counts = counts_put equations none once;
        heads = put_heads total x t bs is.heads.1;
        apart = put_apart x t bs is.apart.1;
        circles = put_circles total x t zs is.circles differ circles_few;
        stuck = put_stuck rs total b bs is.apart.0 two ss is.stuck;
      },
    )
  where
    circles_few : (n : ℕ) → 1 ≤ occurrences n (flat_map pair_names (map piece_of zs)) → occurrences n (flat_map pair_names (map piece_of zs)) + occurrences n (names b.term) ≤ total n
    circles_few n more =
        let all = in_front n ts (piece_of b) (map piece_of bs ++ (map piece_of zs ++ ss)) in
        let own = occurrences-append n (b.name ∷ []) (names b.term) in
        let inside = circles_inside n ts bs zs ss in
        let same = is.counts n (omega arith) in
        omega arith

    counts_put : map (subst_pair b.name b.term) (map piece_of bs ++ (map piece_of zs ++ ss)) ≡ map piece_of (put_terms b.name b.term bs) ++ (map piece_of (put_terms b.name b.term zs) ++ map (subst_pair b.name b.term) ss)
        → occurrences b.name (names b.term) ≡ 0 → occurrences b.name (names_in ts (map piece_of bs ++ (map piece_of zs ++ ss))) ≡ 1 → (n : ℕ)
        → 1 ≤ occurrences n (names_in (map (subst b.name b.term) ts) (map piece_of (put_terms b.name b.term bs) ++ (map piece_of (put_terms b.name b.term zs) ++ map (subst_pair b.name b.term) ss)))
        → occurrences n (names_in (map (subst b.name b.term) ts) (map piece_of (put_terms b.name b.term bs) ++ (map piece_of (put_terms b.name b.term zs) ++ map (subst_pair b.name b.term) ss))) ≡ total n
    counts_put equations none once n more = at (b.name == n) refl
      where
        same : occurrences n (names_in (map (subst b.name b.term) ts) (map (subst_pair b.name b.term) (map piece_of bs ++ (map piece_of zs ++ ss))))
            ≡ occurrences n (names_in (map (subst b.name b.term) ts) (map piece_of (put_terms b.name b.term bs) ++ (map piece_of (put_terms b.name b.term zs) ++ map (subst_pair b.name b.term) ss)))
        same = ap (λ l. occurrences n (names_in (map (subst b.name b.term) ts) l)) equations

        at : (e : Bool) → (b.name == n) ≡ e
            → occurrences n (names_in (map (subst b.name b.term) ts) (map piece_of (put_terms b.name b.term bs) ++ (map piece_of (put_terms b.name b.term zs) ++ map (subst_pair b.name b.term) ss))) ≡ total n
        at true e =
            let is_same = same in
            let is_x = (unsigned_Decides b.name n).0 e in
            let gone = gone_counts_in b.name b.term ts (map piece_of bs ++ (map piece_of zs ++ ss)) none in
            let gone_n : occurrences n (names_in (map (subst b.name b.term) ts) (map (subst_pair b.name b.term) (map piece_of bs ++ (map piece_of zs ++ ss)))) ≡ 0 =
            ap (λ (y : ℕ). occurrences y (names_in (map (subst b.name b.term) ts) (map (subst_pair b.name b.term) (map piece_of bs ++ (map piece_of zs ++ ss))))) (sym is_x) ∙ gone in
            absurd (omega arith)
        at false e =
            let is_same = same in
            let other : b.name ≡ n → ⊥ = (λ is_x. true_false (sym ((unsigned_Decides b.name n).1 is_x) ∙ e)) in
            let put = put_counts_in n b.name b.term ts (map piece_of bs ++ (map piece_of zs ++ ss)) other in
            let product : occurrences b.name (names_in ts (map piece_of bs ++ (map piece_of zs ++ ss))) * occurrences n (names b.term) ≡ occurrences n (names b.term) = rw once (omega arith) in
            let all = in_front n ts (piece_of b) (map piece_of bs ++ (map piece_of zs ++ ss)) in
            let own = occurrences-append n (b.name ∷ []) (names b.term) in
            let not_here : occurrences n (b.name ∷ []) ≡ 0 = rw (ne_eqb b.name n other) refl in
            let before = is.counts n (omega arith) in
            omega arith
          where
            true_false : true ≡ false → ⊥
            true_false e = cc

-- ---- a circle

side_drop : (total : ℕ → ℕ) (b : Binding) (bs : List Binding) (u : Tree) (o : Option ℕ) → occurrences b.name (names u) ≡ 0 → Side total (b ∷ bs) u o → Side total bs u o
side_drop total b bs u o none (of_agent a us) = of_agent a us
side_drop total b bs u o none (of_name a y (inl here)) =
    let itself = name_itself y in
    let same : occurrences y (y ∷ []) ≡ 0 = ap (λ (z : ℕ). occurrences z (y ∷ [])) (sym here.0) ∙ none in
    absurd (omega arith)
side_drop total b bs u o none (of_name a y (inr later)) = of_name a y later
side_drop total b bs u o none (of_free y one) = of_free y one

drop_stuck : (rs : List Rule) (total : ℕ → ℕ) (b : Binding) (bs : List Binding) (ss : List Pair) → occurrences b.name (flat_map pair_names ss) ≡ 0
    → AllByRecursion (Stuck rs total (b ∷ bs)) ss → AllByRecursion (Stuck rs total bs) ss
drop_stuck rs total b bs [] none all = tt
drop_stuck rs total b bs (s ∷ ss) none all =
    let parts = occurrences-append b.name (pair_names s) (flat_map pair_names ss) in
    let both = occurrences-append b.name (names s.left) (names s.right) in (
      record {
        left_symbol = all.0.left_symbol;
        right_symbol = all.0.right_symbol;
        left = side_drop total b bs s.left all.0.left_symbol (omega arith) all.0.left;
        right = side_drop total b bs s.right all.0.right_symbol (omega arith) all.0.right;
        none = all.0.none;
      },
      drop_stuck rs total b bs ss (omega arith) all.1,
    )

circle_kind : (x : ℕ) (t : Tree) → occurrences x (names t) ≡ 1 → ((s : ℕ) × (us : Trees) × (t ≡ agent s us)) ⊎ (t ≡ name x)
circle_kind x (name y) once = at (y == x) refl
  where
    at : (b : Bool) → (y == x) ≡ b → ((s : ℕ) × (us : Trees) × (name y ≡ agent s us)) ⊎ (name y ≡ name x)
    at true e = inr (ap name ((unsigned_Decides y x).0 e))
    at false e = let none : occurrences x (y ∷ []) ≡ 0 = rw e refl in absurd (omega arith)
circle_kind x (agent s us) once = inl (s, us, refl)

drop_bound : NetLaws → (rs : List Rule) (total : ℕ → ℕ) (ts : List Tree) (b : Binding) (bs zs : List Binding) (ss : List Pair) (next : ℕ)
    → HasNames (in_bindings ts (b ∷ bs) zs ss next) → Bound rs total (in_bindings ts (b ∷ bs) zs ss next) (b ∷ bs) zs ss
    → occurrences b.name (names_in ts (map piece_of bs ++ (map piece_of zs ++ ss))) ≡ 0
    → OneNet (in_bindings ts (b ∷ bs) zs ss next) (in_bindings ts bs (b ∷ zs) ss next)
    × Bound rs total (in_bindings ts bs (b ∷ zs) ss next) bs (b ∷ zs) ss
drop_bound laws rs total ts b bs zs ss next named is none =
    let x : ℕ = b.name in
    let c : Configuration = in_bindings ts (b ∷ bs) zs ss next in
    let d : Configuration = in_bindings ts bs (b ∷ zs) ss next in
    let net = laws.order c d.equations named (IsPermutation-sym d.equations c.equations (IsPermutation-middle (map piece_of bs) (piece_of b) (map piece_of zs ++ ss))) in
    let all = in_front x ts (piece_of b) (map piece_of bs ++ (map piece_of zs ++ ss)) in
    let own = occurrences-append x (x ∷ []) (names b.term) in
    let itself = name_itself x in
    let same = is.counts x (omega arith) in
    let two = is.heads.0 in
    let inside = circles_inside x ts bs zs ss in (
      net,
      record {
        counts = λ n some. let moved = moved_counts n in let before = is.counts n (omega arith) in omega arith;
        heads = is.heads.1;
        apart = is.apart.1;
        circles = (record { own = omega arith; some = omega arith; kind = circle_kind x b.term (omega arith) }, is.circles);
        stuck = drop_stuck rs total b bs ss (omega arith) is.stuck;
      },
    )
  where
    moved_counts : (n : ℕ) → occurrences n (names_in ts (map piece_of bs ++ (piece_of b ∷ (map piece_of zs ++ ss)))) ≡ occurrences n (names_in ts (piece_of b ∷ (map piece_of bs ++ (map piece_of zs ++ ss))))
    moved_counts n =
        let one = occurrences-middle n ts (map piece_of bs) (piece_of b) (map piece_of zs ++ ss) in
        let two = in_front n ts (piece_of b) (map piece_of bs ++ (map piece_of zs ++ ss)) in
        omega arith

put_length : (x : ℕ) (t : Tree) (bs : List Binding) → length (put_terms x t bs) ≡ length bs
put_length x t [] = refl
put_length x t (b ∷ bs) = ap suc (put_length x t bs)

put_many : (x : ℕ) (t : Tree) (ss : List Pair) → length (map (subst_pair x t) ss) ≡ length ss
put_many x t [] = refl
put_many x t (s ∷ ss) = ap suc (put_many x t ss)

-- Terms are put for names until none is left: then there are circles, and as many other equations as before.
pub record Settled (rs : List Rule) (total : ℕ → ℕ) (ts : List Tree) (bs zs : List Binding) (ss : List Pair) (next : ℕ) : Type 0 where
  pub terms : List Tree
  pub circles : List Binding
  pub ends : List Pair
  pub net : OneNet (in_bindings ts bs zs ss next) (in_bindings terms [] circles ends next)
  pub bound : Bound rs total (in_bindings terms [] circles ends next) [] circles ends
  pub many : length ends ≡ length ss

pub to_ends : NetLaws → (rs : List Rule) (total : ℕ → ℕ) (k : ℕ) (ts : List Tree) (bs zs : List Binding) (ss : List Pair) (next : ℕ) → length bs ≡ k
    → HasNames (in_bindings ts bs zs ss next) → Bound rs total (in_bindings ts bs zs ss next) bs zs ss → Settled rs total ts bs zs ss next
to_ends laws rs total k ts [] zs ss next len named is =
    record { terms = ts; circles = zs; ends = ss; net = laws.itself (in_bindings ts [] zs ss next) named; bound = is; many = refl }
to_ends laws rs total zero ts (b ∷ bs) zs ss next len named is = absurd (omega arith)
to_ends laws rs total (suc k) ts (b ∷ bs) zs ss next len named is =
    at (occurrences b.name (names_in ts (map piece_of bs ++ (map piece_of zs ++ ss))) == 0) refl
    (λ us cs ws qs same named_too is_too. to_ends laws rs total k us cs ws qs next same named_too is_too)
  where
    at : (e : Bool) → (occurrences b.name (names_in ts (map piece_of bs ++ (map piece_of zs ++ ss))) == 0) ≡ e
        → ((us : List Tree) (cs ws : List Binding) (qs : List Pair) → length cs ≡ k → HasNames (in_bindings us cs ws qs next) → Bound rs total (in_bindings us cs ws qs next) cs ws qs
        → Settled rs total us cs ws qs next)
        → Settled rs total ts (b ∷ bs) zs ss next
    at true e rest =
        let none = (unsigned_Decides (occurrences b.name (names_in ts (map piece_of bs ++ (map piece_of zs ++ ss)))) 0).0 e in
        let step = drop_bound laws rs total ts b bs zs ss next named is none in
        let more = rest ts bs (b ∷ zs) ss (omega arith) step.0.names_too step.1 in
        record {
          terms = more.terms;
          circles = more.circles;
          ends = more.ends;
          net = laws.through (in_bindings ts (b ∷ bs) zs ss next) (in_bindings ts bs (b ∷ zs) ss next) (in_bindings more.terms [] more.circles more.ends next) step.0 more.net;
          bound = more.bound;
          many = more.many;
        }
    at false e rest =
        let some = not_zero (occurrences b.name (names_in ts (map piece_of bs ++ (map piece_of zs ++ ss)))) e in
        let step = put_bound laws rs total ts b bs zs ss next named is some in
        let len_too = put_length b.name b.term bs in
        let more = rest (map (subst b.name b.term) ts) (put_terms b.name b.term bs) (put_terms b.name b.term zs) (map (subst_pair b.name b.term) ss) (omega arith) step.0.names_too step.1 in
        record {
          terms = more.terms;
          circles = more.circles;
          ends = more.ends;
          net = laws.through (in_bindings ts (b ∷ bs) zs ss next)
              (in_bindings (map (subst b.name b.term) ts) (put_terms b.name b.term bs) (put_terms b.name b.term zs) (map (subst_pair b.name b.term) ss) next)
              (in_bindings more.terms [] more.circles more.ends next) step.0 more.net;
          bound = more.bound;
          many = more.many ∙ put_many b.name b.term ss;
        }
      where
        not_zero : (m : ℕ) → (m == 0) ≡ false → 1 ≤ m
        not_zero zero e = absurd (true_false e)
          where
            true_false : true ≡ false → ⊥
            true_false e = cc
        not_zero (suc m) e = omega arith

-- What then stands is quiet.
pub to_quiet : NetLaws → (rs : List Rule) (total : ℕ → ℕ) (k : ℕ) (ts : List Tree) (bs zs : List Binding) (ss : List Pair) (next : ℕ) → length bs ≡ k
    → HasNames (in_bindings ts bs zs ss next) → Bound rs total (in_bindings ts bs zs ss next) bs zs ss
    → (e : Configuration) × OneNet (in_bindings ts bs zs ss next) e × IsQuiet rs e
to_quiet laws rs total k ts bs zs ss next len named is =
    let e = to_ends laws rs total k ts bs zs ss next len named is in
    (in_bindings e.terms [] e.circles e.ends next, e.net, quiet_end rs total e.terms e.circles e.ends next e.bound)
