-- Equations of two agents without a rule: they are found, and no step takes them away.
use Rattle.std.proofs.Common.{◌≡◌, ℕ, zero, suc, ◌+◌, ◌≤◌, ◌==◌, ◌&&◌, ◌||◌, List, [], ◌∷◌, ◌++◌, Bool, true, false, cond, Option, None, Some, is_some, length, map, slice_get, refl, sym, ap, ◌∙◌, arith, inl, inr, eq-eqb}
use Rattle.std.specs.Cmp.{unsigned_Decides}
use Rattle.std.specs.List.{list_any, position_from}
use Rattle.std.proofs.lemmas.Bool.{and_parts}
use Rattle.std.proofs.lemmas.List.Sums.{sum_by-append, sum_by-cons}
use Rattle.std.proofs.Math.Bool.{and-false}
use Rattle.ic_term.specs.Tree.{Tree, name, agent, Pair}
use Rattle.ic_term.specs.Configuration.{Configuration}
use Rattle.ic_rules.specs.Rule.{Rule, stands_for}
use Rattle.ic_rules.specs.RuleSet.{found_or, has_pair, rule_for}
use Rattle.ic_rules.specs.lemmas.FindLaws.{any_of_two}
use Rattle.ic_settle.specs.Settling.{Binding, subst, subst_pair, Binds}
use Rattle.ic_settle.specs.NameSteps.{NameStep}
use Rattle.ic_settle.specs.lemmas.SubstitutionLaws.{and_both}
use Rattle.ic_round.specs.Firing.{Active, active_pair, oriented, products_by, rule_of_sides}
use Rattle.ic_round.specs.Steps.{Interaction, Step, Steps, collect, indirection, interaction, no_steps, then_step}
use Rattle.ic_round.specs.lemmas.NameStepLemmas.{collect_step, indirection_step}
use Rattle.ic_check.specs.Warnings.{HasNoRule, faces, facing, is_of, ruleless}

-- ---- what is found

found_where : (rs : List Rule) (a b : ℕ) → is_some (rule_for rs a b) ≡ list_any (has_pair a b) rs
found_where rs a b =
    either (position_from (stands_for a b) 0 rs) (position_from (stands_for b a) 0 rs) ∙ sym (any_of_two (stands_for a b) (stands_for b a) 0 rs)
  where
    either : (m n : Option ℕ) → is_some (found_or false m (found_or true n None)) ≡ (is_some m || is_some n)
    either (Some k) n = refl
    either None (Some k) = refl
    either None None = refl

found_at : (rs : List Rule) (a b : ℕ) (t u : Tree) → (is_of a t && is_of b u) ≡ true → HasNoRule rs a b → ruleless rs t u ≡ (a, b) ∷ []
found_at rs a b (name n) u is none = cc
found_at rs a b (agent x ts) (name n) is none = let parts = and_parts (x == a) false is in cc
found_at rs a b (agent x ts) (agent y us) is none =
    let parts = and_parts (x == a) (y == b) is in
    let left : x ≡ a = (unsigned_Decides x a).0 parts.0 in
    let right : y ≡ b = (unsigned_Decides y b).0 parts.1 in
    let gone : is_some (rule_for rs a b) ≡ false = found_where rs a b ∙ none in
    rw (left, right) (rw gone refl)

pub stuck_found : (rs : List Rule) (p : Pair) (a b : ℕ) → faces a b p ≡ true → HasNoRule rs a b → ruleless rs p.left p.right ≡ (a, b) ∷ []
stuck_found rs p a b is none = found_at rs a b p.left p.right is none

silent_at : (rs : List Rule) (t u : Tree) → ((a b : ℕ) → (is_of a t && is_of b u) ≡ true → ¬ HasNoRule rs a b) → ruleless rs t u ≡ []
silent_at rs (name n) u has = refl
silent_at rs (agent x ts) (name n) has = refl
silent_at rs (agent x ts) (agent y us) has = by (list_any (has_pair x y) rs) refl
  where
    by : (b : Bool) → list_any (has_pair x y) rs ≡ b → ruleless rs (agent x ts) (agent y us) ≡ []
    by true e = let found : is_some (rule_for rs x y) ≡ true = found_where rs x y ∙ e in rw found refl
    by false e = absurd (has x y (and_both (eq-eqb x x refl) (eq-eqb y y refl)) e)

pub others_silent : (rs : List Rule) (p : Pair) → ((a b : ℕ) → faces a b p ≡ true → ¬ HasNoRule rs a b) → ruleless rs p.left p.right ≡ []
others_silent rs p has = silent_at rs p.left p.right has

-- ---- no interaction takes it

none_of : {X : Type 0} (o : Option X) → is_some o ≡ false → o ≡ None
none_of None e = refl
none_of (Some x) e = cc

inert_at : (rs : List Rule) (a b : ℕ) (t u : Tree) (found : Active) → (is_of a t && is_of b u) ≡ true → HasNoRule rs a b → oriented t u (rule_of_sides rs t u) ≡ Some found → ⊥
inert_at rs a b (name n) u found is none e = cc
inert_at rs a b (agent x ts) (name n) found is none e = cc
inert_at rs a b (agent x ts) (agent y us) found is none e =
    let parts = and_parts (x == a) (y == b) is in
    let left : x ≡ a = (unsigned_Decides x a).0 parts.0 in
    let right : y ≡ b = (unsigned_Decides y b).0 parts.1 in
    let gone : rule_for rs x y ≡ None = none_of (rule_for rs x y) (found_where rs x y ∙ (λ i. list_any (has_pair (left i) (right i)) rs) ∙ none) in
    let bad : None ≡ Some found = sym (ap (oriented (agent x ts) (agent y us)) gone) ∙ e in
    cc

inert : (rs : List Rule) (a b : ℕ) (p : Pair) (found : Active) → faces a b p ≡ true → HasNoRule rs a b → active_pair rs p ≡ Some found → ⊥
inert rs a b p found is none e = inert_at rs a b p.left p.right found is none e

at_length : (before after : List Pair) (p : Pair) (i : ℕ) → length before ≡ i → slice_get (before ++ p ∷ after) i ≡ Some p
at_length [] after p zero e = refl
at_length (q ∷ before) after p (suc i) e = at_length before after p i (omega (arith, e))
at_length _ after p _ e = absurd (omega (arith, e))

same_some : (p q : Pair) → Some p ≡ Some q → p ≡ q
same_some p q e = cc

pub stuck_idle : (rs : List Rule) (c d : Configuration) (i a b : ℕ) (p : Pair) → faces a b p ≡ true → HasNoRule rs a b → slice_get c.equations i ≡ Some p → ¬ Interaction rs c d i
stuck_idle rs c d i a b p is none at x =
    let there : slice_get c.equations i ≡ Some x.equation = ap (λ (es : List Pair). slice_get es i) x.stands.parts ∙ at_length x.before x.after x.equation i x.stands.counted in
    let same : x.equation ≡ p = same_some x.equation p (sym there ∙ at) in
    inert rs a b p x.active is none (sym (ap (active_pair rs) same) ∙ x.has_rule)

-- ---- no step takes it away

facing-append : (a b : ℕ) (xs ys : List Pair) → facing a b (xs ++ ys) ≡ facing a b xs + facing a b ys
facing-append a b xs ys = sum_by-append _ xs ys

facing-cons : (a b : ℕ) (p : Pair) (ps : List Pair) → facing a b (p ∷ ps) ≡ cond (faces a b p) 1 0 + facing a b ps
facing-cons a b p ps = sum_by-cons _ p ps

-- another equation that is taken away takes none of them
without : (a b : ℕ) (before after : List Pair) (p : Pair) → faces a b p ≡ false → facing a b (before ++ p ∷ after) ≡ facing a b before + facing a b after
without a b before after p other =
    let one : facing a b (p ∷ after) ≡ 0 + facing a b after = facing-cons a b p after ∙ ap (λ (x : Bool). cond x 1 0 + facing a b after) other in
    let both = facing-append a b before (p ∷ after) in
    omega (arith, one, both)

no_facing : (rs : List Rule) (a b : ℕ) (p : Pair) (found : Active) → HasNoRule rs a b → active_pair rs p ≡ Some found → faces a b p ≡ false
no_facing rs a b p found none e = by (faces a b p) refl
  where
    by : (x : Bool) → faces a b p ≡ x → x ≡ false
    by true is = absurd (inert rs a b p found is none e)
    by false is = refl

bound_apart : (a b : ℕ) (p : Pair) (bound : Binding) → Binds p bound → faces a b p ≡ false
bound_apart a b p bound side = elim side [
  | inl e ↦ ap (faces a b) e
  | inr e ↦ ap (faces a b) e ∙ and-false (is_of a bound.term)
]

still_of : (x s : ℕ) (u t : Tree) → is_of s t ≡ true → is_of s (subst x u t) ≡ true
still_of x s u (name n) is = cc
still_of x s u (agent y ts) is = is

still_faces : (a b x : ℕ) (u : Tree) (p : Pair) → faces a b p ≡ true → faces a b (subst_pair x u p) ≡ true
still_faces a b x u p is =
    let parts = and_parts (is_of a p.left) (is_of b p.right) is in
    and_both (still_of x a u p.left parts.0) (still_of x b u p.right parts.1)

no_fewer : (x y : Bool) → (x ≡ true → y ≡ true) → cond x 1 0 ≤ cond y 1 0
no_fewer true false so = let bad = so refl in cc
no_fewer false true so = omega arith
no_fewer _ _ so = omega arith

all_stay : (a b x : ℕ) (u : Tree) (es : List Pair) → facing a b es ≤ facing a b (map (subst_pair x u) es)
all_stay a b x u [] = omega arith
all_stay a b x u (p ∷ ps) =
    let here = no_fewer (faces a b p) (faces a b (subst_pair x u p)) (still_faces a b x u p) in
    let rest = all_stay a b x u ps in
    let old = facing-cons a b p ps in
    let new = facing-cons a b (subst_pair x u p) (map (subst_pair x u) ps) in
    omega (arith, here, rest, old, new)

interaction_keeps : (rs : List Rule) (c d : Configuration) (a b place : ℕ) → HasNoRule rs a b → Interaction rs c d place → facing a b c.equations ≤ facing a b d.equations
interaction_keeps rs c d a b place none x =
    let old : facing a b c.equations ≡ facing a b x.before + facing a b x.after =
    ap (facing a b) x.stands.parts ∙ without a b x.before x.after x.equation (no_facing rs a b x.equation x.active none x.has_rule) in
    let made = products_by rs c.next x.active in
    let new : facing a b d.equations ≡ facing a b x.before + facing a b (made ++ x.after) =
    ap (λ (e : Configuration). facing a b e.equations) x.result ∙ facing-append a b x.before (made ++ x.after) in
    let more = facing-append a b made x.after in
    omega (arith, old, new, more)

binding_keeps : (c d : Configuration) (a b : ℕ) → NameStep c d → facing a b c.equations ≤ facing a b d.equations
binding_keeps c d a b x =
    let old : facing a b c.equations ≡ facing a b x.before + facing a b x.after =
    ap (facing a b) x.place ∙ without a b x.before x.after x.equation (bound_apart a b x.equation x.bound x.side) in
    let both = facing-append a b x.before x.after in
    let stay = all_stay a b x.bound.name x.bound.term (x.before ++ x.after) in
    let new : facing a b d.equations ≡ facing a b (map (subst_pair x.bound.name x.bound.term) (x.before ++ x.after)) =
    ap (λ (e : Configuration). facing a b e.equations) x.result in
    omega (arith, old, both, stay, new)

step_keeps : (rs : List Rule) (c d : Configuration) (a b : ℕ) → HasNoRule rs a b → Step rs c d → facing a b c.equations ≤ facing a b d.equations
step_keeps rs c d a b none (interaction x y place i) = interaction_keeps rs c d a b place none i
step_keeps rs c d a b none (indirection x y place i) = binding_keeps c d a b (indirection_step c d place i)
step_keeps rs c d a b none (collect x y place i) = binding_keeps c d a b (collect_step c d place i)

pub stuck_stays : (rs : List Rule) (c d : Configuration) (a b : ℕ) → HasNoRule rs a b → Steps rs c d → facing a b c.equations ≤ facing a b d.equations
stuck_stays rs c d a b none (no_steps x) = omega arith
stuck_stays rs c d a b none (then_step x e y steps step) =
    let before = stuck_stays rs c e a b none steps in
    let after = step_keeps rs e d a b none step in
    omega (arith, before, after)
