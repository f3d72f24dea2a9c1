-- Where no two agents can meet, no step makes two meet.
use Rattle.std.proofs.Common.{◌≡◌, ◌⊎◌, ℕ, ◌+◌, ◌≤◌, ◌==◌, ◌&&◌, ◌||◌, List, [], ◌∷◌, ◌++◌, Bool, true, false, not, cond, Some, map, refl, sym, ap, ◌∙◌, arith, inl, inr, eq-eqb, subst as transport}
use Rattle.std.specs.Cmp.{unsigned_Decides}
use Rattle.std.specs.List.{flat_map, list_all, list_any}
use Rattle.std.proofs.lemmas.Bool.{and_parts, or_from, or_parts, not-true}
use Rattle.std.proofs.lemmas.Grind.{flat_map-append}
use Rattle.std.proofs.lemmas.List.Folds.{list_any-append}
use Rattle.ic_names.specs.declared.table.NameTable.{NameTable}
use Rattle.ic_term.specs.Tree.{Tree, name, agent, Pair}
use Rattle.ic_term.specs.Configuration.{Configuration, occurrences}
use Rattle.ic_rules.specs.Rule.{Rule}
use Rattle.ic_settle.specs.Settling.{Binding, subst, subst_pair, Binds}
use Rattle.ic_settle.specs.NameSteps.{NameStep}
use Rattle.ic_settle.specs.lemmas.SubstitutionLaws.{occurrences-append as count_both}
use Rattle.ic_round.specs.Firing.{Active, oriented, rule_of_sides}
use Rattle.ic_round.specs.Steps.{Interaction, Step, Steps, collect, indirection, interaction, no_steps, then_step}
use Rattle.ic_round.specs.lemmas.NameStepLemmas.{collect_step, indirection_step}
use Rattle.ic_round.specs.lemmas.FreshNames.{occurrences-cons as count_cons}
use Rattle.ic_check.specs.Warnings.{are_apart, are_once, has_use, is_agent, joins_agents, pair_sides, side_names}
use Rattle.ic_check.specs.inner.Tallies.{IsTally, tallied}
use Rattle.ic_check.proofs.Tallying.{same_once}

-- ---- the names that are sides, counted

once_by : (all ms : List ℕ) (m x : ℕ) (b : Bool) → (m == x) ≡ b → occurrences m all ≡ 1 → (occurrences x ms ≡ 0) ⊎ (occurrences x all ≡ 1)
    → (occurrences x (m ∷ ms) ≡ 0) ⊎ (occurrences x all ≡ 1)
once_by all ms m x true is one rest = inr (ap (λ n. occurrences n all) (sym ((unsigned_Decides m x).0 is)) ∙ one)
once_by all ms m x false is one (inl none) = inl (count_cons x m ms ∙ (λ i. cond (is i) 1 0 + none i))
once_by all ms m x false is one (inr other) = inr other

listed_once : (all ms : List ℕ) (x : ℕ) → are_once all ms ≡ true → (occurrences x ms ≡ 0) ⊎ (occurrences x all ≡ 1)
listed_once all [] x once = inl refl
listed_once all (m ∷ ms) x once =
    let parts = and_parts (occurrences m all == 1) (are_once all ms) once in
    once_by all ms m x (m == x) refl ((unsigned_Decides (occurrences m all) 1).0 parts.0) (listed_once all ms x parts.1)

at_most : (all : List ℕ) (x : ℕ) → are_once all all ≡ true → occurrences x all ≤ 1
at_most all x once = elim (listed_once all all x once) [
  | inl none ↦ omega (arith, none)
  | inr one ↦ omega (arith, one)
]

-- by a table of the sides it is told whether no two can meet
all_once : (table : NameTable) (all ns : List ℕ) → IsTally all table → list_all (λ n. tallied table n == 1) ns ≡ are_once all ns
all_once table all [] is = refl
all_once table all (n ∷ ns) is = (λ i. same_once (tallied table n) (occurrences n all) (is n) i && all_once table all ns is i)

pub apart_found : (es : List Pair) (sides : List ℕ) (table : NameTable) (found : Bool) → list_any joins_agents es ≡ false → sides ≡ flat_map pair_sides es → IsTally sides table
    → found ≡ list_all (λ n. tallied table n == 1) sides → found ≡ are_apart es
apart_found es sides table found none are is put =
    let all : List ℕ = flat_map pair_sides es in
    put ∙ all_once table sides sides is ∙ ap (λ l. are_once l l) are ∙ sym (ap (λ b. not b && are_once all all) none)

-- ---- where no two can meet

-- no equation joins two agents, and no name is a side twice
record Apart (es : List Pair) : Type 0 where
  none : list_any joins_agents es ≡ false
  lone : (x : ℕ) → occurrences x (flat_map pair_sides es) ≤ 1

apart_from : (es : List Pair) → are_apart es ≡ true → Apart es
apart_from es is =
    let all : List ℕ = flat_map pair_sides es in
    let parts = and_parts (not (list_any joins_agents es)) (are_once all all) is in
    record { none = not-true (list_any joins_agents es) parts.0; lone = λ x. at_most all x parts.1 }

-- ---- no interaction

joined : (rs : List Rule) (t u : Tree) (found : Active) → oriented t u (rule_of_sides rs t u) ≡ Some found → (is_agent t && is_agent u) ≡ true
joined rs (name n) u found e = cc
joined rs (agent x ts) (name n) found e = cc
joined rs (agent x ts) (agent y us) found e = refl

module _ (before after : List Pair) (p : Pair) (none : list_any joins_agents (before ++ p ∷ after) ≡ false) where
  in_parts : (list_any joins_agents before ≡ false) × ((joins_agents p || list_any joins_agents after) ≡ false)
  in_parts = or_parts (list_any joins_agents before) (joins_agents p || list_any joins_agents after) (sym (list_any-append joins_agents before (p ∷ after)) ∙ none)

  this_none : joins_agents p ≡ false
  this_none = (or_parts (joins_agents p) (list_any joins_agents after) in_parts.1).0

  others_none : list_any joins_agents (before ++ after) ≡ false
  others_none =
      let later = (or_parts (joins_agents p) (list_any joins_agents after) in_parts.1).1 in
      list_any-append joins_agents before after ∙ or_from (list_any joins_agents before) (list_any joins_agents after) in_parts.0 later

no_interaction : (rs : List Rule) (c d : Configuration) (place : ℕ) → Apart c.equations → ¬ Interaction rs c d place
no_interaction rs c d place is x =
    let here : joins_agents x.equation ≡ false = this_none x.before x.after x.equation (ap (list_any joins_agents) (sym x.stands.parts) ∙ is.none) in
    let there : joins_agents x.equation ≡ true = joined rs x.equation.left x.equation.right x.active x.has_rule in
    let bad : true ≡ false = sym there ∙ here in
    cc

-- ---- a name that is bound is no other side

first_there : (x : ℕ) (ns : List ℕ) → 1 ≤ occurrences x (x ∷ ns)
first_there x ns =
    let one : occurrences x (x ∷ ns) ≡ 1 + occurrences x ns = count_cons x x ns ∙ ap (λ (b : Bool). cond b 1 0 + occurrences x ns) (eq-eqb x x refl) in
    omega (arith, one)

last_there : (x : ℕ) (ns : List ℕ) → 1 ≤ occurrences x (ns ++ x ∷ [])
last_there x ns =
    let both = count_both x ns (x ∷ []) in
    let one = first_there x [] in
    omega (arith, both, one)

bound_there : (p : Pair) (b : Binding) → Binds p b → 1 ≤ occurrences b.name (pair_sides p)
bound_there p b side = elim side [
  | inl e ↦ transport (λ (q : Pair). 1 ≤ occurrences b.name (pair_sides q)) (sym e) (first_there b.name (side_names b.term))
  | inr e ↦ transport (λ (q : Pair). 1 ≤ occurrences b.name (pair_sides q)) (sym e) (last_there b.name (side_names b.term))
]

counted : (x : ℕ) (before after : List Pair) (p : Pair)
    → occurrences x (flat_map pair_sides (before ++ p ∷ after)) ≡ occurrences x (pair_sides p) + occurrences x (flat_map pair_sides (before ++ after))
counted x before after p =
    let f : List Pair → List ℕ = λ es. flat_map pair_sides es in
    let one : occurrences x (f (before ++ p ∷ after)) ≡ occurrences x (f before) + occurrences x (f (p ∷ after)) =
    ap (occurrences x) (flat_map-append pair_sides before (p ∷ after)) ∙ count_both x (f before) (f (p ∷ after)) in
    let two : occurrences x (f (p ∷ after)) ≡ occurrences x (pair_sides p) + occurrences x (f after) = count_both x (pair_sides p) (f after) in
    let three : occurrences x (f (before ++ after)) ≡ occurrences x (f before) + occurrences x (f after) =
    ap (occurrences x) (flat_map-append pair_sides before after) ∙ count_both x (f before) (f after) in
    omega (arith, one, two, three)

-- ---- a term that is put for a name that is no side leaves the sides

other_name : (x n : ℕ) → occurrences x (n ∷ []) ≡ 0 → (n == x) ≡ false
other_name x n none = by (n == x) refl
  where
    by : (b : Bool) → (n == x) ≡ b → b ≡ false
    by true is =
        let one : occurrences x (n ∷ []) ≡ 1 + 0 = count_cons x n [] ∙ ap (λ (b : Bool). cond b 1 0 + occurrences x []) is in
        absurd (omega (arith, none, one))
    by false is = refl

side_kept : (x : ℕ) (u t : Tree) → occurrences x (side_names t) ≡ 0 → side_names (subst x u t) ≡ side_names t
side_kept x u (name n) none = ap (λ (b : Bool). side_names (cond b u (name n))) (other_name x n none)
side_kept x u (agent s ts) none = refl

agent_kept : (x : ℕ) (u t : Tree) → occurrences x (side_names t) ≡ 0 → is_agent (subst x u t) ≡ is_agent t
agent_kept x u (name n) none = ap (λ (b : Bool). is_agent (cond b u (name n))) (other_name x n none)
agent_kept x u (agent s ts) none = refl

module _ (x : ℕ) (u : Tree) where
  left_none : (p : Pair) → occurrences x (pair_sides p) ≡ 0 → occurrences x (side_names p.left) ≡ 0
  left_none p none = let both = count_both x (side_names p.left) (side_names p.right) in omega (arith, none, both)

  right_none : (p : Pair) → occurrences x (pair_sides p) ≡ 0 → occurrences x (side_names p.right) ≡ 0
  right_none p none = let both = count_both x (side_names p.left) (side_names p.right) in omega (arith, none, both)

  first_none : (p : Pair) (ps : List Pair) → occurrences x (flat_map pair_sides (p ∷ ps)) ≡ 0 → occurrences x (pair_sides p) ≡ 0
  first_none p ps none = let both = count_both x (pair_sides p) (flat_map pair_sides ps) in omega (arith, none, both)

  rest_none : (p : Pair) (ps : List Pair) → occurrences x (flat_map pair_sides (p ∷ ps)) ≡ 0 → occurrences x (flat_map pair_sides ps) ≡ 0
  rest_none p ps none = let both = count_both x (pair_sides p) (flat_map pair_sides ps) in omega (arith, none, both)

  pair_kept : (p : Pair) → occurrences x (pair_sides p) ≡ 0 → pair_sides (subst_pair x u p) ≡ pair_sides p
  pair_kept p none = (λ i. side_kept x u p.left (left_none p none) i ++ side_kept x u p.right (right_none p none) i)

  joins_kept : (p : Pair) → occurrences x (pair_sides p) ≡ 0 → joins_agents (subst_pair x u p) ≡ joins_agents p
  joins_kept p none = (λ i. agent_kept x u p.left (left_none p none) i && agent_kept x u p.right (right_none p none) i)

  sides_kept : (es : List Pair) → occurrences x (flat_map pair_sides es) ≡ 0 → flat_map pair_sides (map (subst_pair x u) es) ≡ flat_map pair_sides es
  sides_kept [] none = refl
  sides_kept (p ∷ ps) none = (λ i. pair_kept p (first_none p ps none) i ++ sides_kept ps (rest_none p ps none) i)

  all_kept : (es : List Pair) → occurrences x (flat_map pair_sides es) ≡ 0 → list_any joins_agents (map (subst_pair x u) es) ≡ list_any joins_agents es
  all_kept [] none = refl
  all_kept (p ∷ ps) none = (λ i. joins_kept p (first_none p ps none) i || all_kept ps (rest_none p ps none) i)

binding_keeps : (c d : Configuration) → NameStep c d → Apart c.equations → Apart d.equations
binding_keeps c d x is =
    let n = x.bound.name in
    let t = x.bound.term in
    let rest : List Pair = x.before ++ x.after in
    let old : Apart (x.before ++ x.equation ∷ x.after) = transport Apart x.place is in
    let most = old.lone n in
    let one = bound_there x.equation x.bound x.side in
    let whole = counted n x.before x.after x.equation in
    let gone : occurrences n (flat_map pair_sides rest) ≡ 0 = omega (arith, most, one, whole) in
    let lone : (y : ℕ) → occurrences y (flat_map pair_sides (map (subst_pair n t) rest)) ≤ 1 =
    λ y. (let same = ap (occurrences y) (sides_kept n t rest gone) in let all = counted y x.before x.after x.equation in let most_of = old.lone y in omega (arith, same, all, most_of)) in
    let new : Apart (map (subst_pair n t) rest) = record {
      none = all_kept n t rest gone ∙ others_none x.before x.after x.equation old.none;
      lone = lone;
    } in
    transport (λ (e : Configuration). Apart e.equations) (sym x.result) new

step_keeps : (rs : List Rule) (c d : Configuration) → Apart c.equations → Step rs c d → Apart d.equations
step_keeps rs c d is (interaction x y place i) = absurd (no_interaction rs c d place is i)
step_keeps rs c d is (indirection x y place i) = binding_keeps c d (indirection_step c d place i) is
step_keeps rs c d is (collect x y place i) = binding_keeps c d (collect_step c d place i) is

stays_apart : (rs : List Rule) (c d : Configuration) → Apart c.equations → Steps rs c d → Apart d.equations
stays_apart rs c d is (no_steps x) = is
stays_apart rs c d is (then_step x e y steps step) = step_keeps rs e d (stays_apart rs c e is steps) step

pub none_meet : (rs : List Rule) (c d e : Configuration) (place : ℕ) → are_apart c.equations ≡ true → Steps rs c d → ¬ Interaction rs d e place
none_meet rs c d e place is steps = no_interaction rs d e place (stays_apart rs c d (apart_from c.equations is) steps)

-- rules are used by the same symbols alike
pub same_use : (f g : ℕ → Bool) → ((s : ℕ) → f s ≡ g s) → (rs : List Rule) → has_use f rs ≡ has_use g rs
same_use f g same [] = refl
same_use f g same (r ∷ rs) = (λ i. (same r.left i && same r.right i) || same_use f g same rs i)
