-- Lemmas: how many steps put a term for a name, by the equations that there are.
use Rattle.std.proofs.Common.{◌≡◌, ◌≢◌, ℕ, zero, suc, ◌+◌, ◌*◌, ◌^◌, ◌<◌, ◌≤◌, ◌==◌, List, [], ◌∷◌, ◌++◌, Bool, true, cond, Option, None, Some, IsTrue, drop, length, map, sum_by, count_by, slice_get, slice_index_or, refl, sym, ap, ◌∙◌, arith, zero-add, subst as transport}
use Rattle.std.specs.Prelude.{IsPermutation, SomeIff}
use Rattle.std.specs.List.{AllByRecursion, list_all}
use Rattle.std.specs.Option.{option_map_or}
use Rattle.std.specs.Cmp.{unsigned_Decides}
use Rattle.std.proofs.Math.Seq.{drop-cons}
use Rattle.std.proofs.lemmas.Bool.{and_parts, eq-eqb, ne_eqb}
use Rattle.std.proofs.lemmas.List.{length-append, length-map}
use Rattle.std.proofs.lemmas.List.Sorted.{sum_by-IsPermutation}
use Rattle.std.proofs.lemmas.List.Sums.{sum_by-cons}
use Rattle.ic_term.specs.Tree.{Tree, name, agent, Pair}
use Rattle.ic_term.specs.Configuration.{Configuration}
use Rattle.ic_term.specs.Symbol.{Symbol, is_over, is_pair_over, is_tree_over}
use Rattle.ic_rules.specs.Renaming.{renamed}
use Rattle.ic_rules.specs.Rule.{Rule}
use Rattle.ic_rules.specs.RuleSet.{Rules, IsRuleSet, first_unfit}
use Rattle.ic_settle.specs.NameSteps.{NameStep}
use Rattle.ic_settle.specs.Settling.{subst_pair}
use Rattle.ic_round.specs.Firing.{Active, active_pair, against, arguments, oriented, products_by, products, rule_of_sides}
use Rattle.ic_round.specs.Instance.{inst}
use Rattle.ic_round.specs.Naming.{HasNames}
use Rattle.ic_round.specs.Quiet.{IsQuiet}
use Rattle.ic_round.specs.Steps.{Interaction}
use Rattle.ic_round.specs.Works.{is_agent_of}
use Rattle.ic_round.specs.lemmas.ActiveRules.{FitsRule, oriented_rule, rule_within, sides_fit}
use Rattle.ic_confluence.specs.Kinds.{Kind, naming, firing, Chain}
use Rattle.ic_reaching.specs.OneNet.{SameButNext}
use Rattle.ic_reaching.specs.Reaching.{Reaches, rules_fired}
use Rattle.ic_in_place.specs.Counting.{AreCounts, AreNameSteps, TellsNameSteps, arguments_at, name_steps}
use Rattle.ic_in_place.specs.declared.running.End.{End}
use Rattle.ic_in_place.specs.declared.running.End.TheVariants.{Quiet, Steps, Nodes, Limit, Memory}
use Rattle.ic_in_place.specs.Summing.{made_from}

-- how many arguments a rule has, and the one at a place
abbrev pub size : Rule → ℕ
size r = length (r.left_args ++ r.right_args)

abbrev pub size_at : List Rule → ℕ → ℕ
size_at rs i = arguments_at rs i

-- ---- what an interaction makes

against_length : (ts us : List Tree) → length ts ≡ length us → length (against ts us) ≡ length us
against_length [] [] e = refl
against_length [] (u ∷ us) e = absurd (omega (arith, e))
against_length (t ∷ ts) [] e = absurd (omega (arith, e))
against_length (t ∷ ts) (u ∷ us) e = ap suc (against_length ts us (omega (arith, e)))

as_many_arguments : (s n : ℕ) (t : Tree) → is_agent_of s n t ≡ true → length (arguments t) ≡ n
as_many_arguments s n (name x) e = cc
as_many_arguments s n (agent z ts) e = (unsigned_Decides _ n).0 (and_parts (z == s) _ e).1

renamed_length : (f : ℕ → ℕ) (ts : List Tree) → length (map (renamed f) ts) ≡ length ts
renamed_length f ts = length-map ts (renamed f)

products_length : (rs : List Rule) (base : ℕ) (a : Active) (r : Rule) → FitsRule rs a r → length (products_by rs base a) ≡ size r
products_length rs base a r fit =
    let f : ℕ → ℕ = λ k. base + k in
    let left : List Pair = against (arguments a.left) (map (renamed f) r.left_args) in
    let right : List Pair = against (arguments a.right) (map (renamed f) r.right_args) in
    let made : products_by rs base a ≡ left ++ right =
    ap (λ o. option_map_or (λ q. products (inst q base) a.left a.right) o []) fit.there in
    let l : length left ≡ length r.left_args =
    against_length (arguments a.left) (map (renamed f) r.left_args)
    (as_many_arguments r.left (length r.left_args) a.left fit.left ∙ sym (renamed_length f r.left_args)) ∙ renamed_length f r.left_args in
    let k : length right ≡ length r.right_args =
    against_length (arguments a.right) (map (renamed f) r.right_args)
    (as_many_arguments r.right (length r.right_args) a.right fit.right ∙ sym (renamed_length f r.right_args)) ∙ renamed_length f r.right_args in
    let both = length-append left right in
    let parts = length-append r.left_args r.right_args in
    ap (length {A = Pair}) made ∙ omega (arith, l, k, both, parts)

-- the rule of an active equation
record Found (rs : List Rule) (a : Active) : Type 0 where
  pub rule : Rule
  pub within : a.rule < length rs
  pub there : slice_get rs a.rule ≡ Some rule
  pub fit : FitsRule rs a rule

get_there : (rs : List Rule) (i : ℕ) → i < length rs → (r : Rule) × (slice_get rs i ≡ Some r)
get_there [] i low = absurd (omega (arith, low))
get_there (r ∷ rs) zero low = (r, refl)
get_there (r ∷ rs) (suc i) low = get_there rs i (omega (arith, low))

found_by : (ss : List Symbol) (rs : List Rule) (t u : Tree) (a : Active) → first_unfit ss rs ≡ None → is_tree_over ss t ≡ true
    → is_tree_over ss u ≡ true → (o : Option (ℕ × Bool)) → rule_of_sides rs t u ≡ o → oriented t u o ≡ Some a → Found rs a
found_by ss rs t u a none ot ou None e is = cc
found_by ss rs t u a none ot ou (Some (i, turned)) e is =
    let at = oriented_rule t u i turned in
    let made = at.1.0 in
    let same : at.0 ≡ a = cc in
    let number : a.rule ≡ i = ap (λ (x : Active). x.rule) (sym same) ∙ at.1.1 in
    let low : i < length rs = rule_within rs t u i turned e in
    let rule = get_there rs i low in
    record {
      rule = rule.0;
      within = omega (arith, low, number);
      there = ap (slice_get rs) number ∙ rule.1;
      fit = sides_fit ss rs t u i turned rule.0 none ot ou e rule.1 a is;
    }

found_at : (ss : List Symbol) (rs : List Rule) (p : Pair) (a : Active) → first_unfit ss rs ≡ None → is_pair_over ss p ≡ true
    → active_pair rs p ≡ Some a → Found rs a
found_at ss rs p a none over is =
    let sides = and_parts (is_tree_over ss p.left) (is_tree_over ss p.right) over in
    found_by ss rs p.left p.right a none sides.0 sides.1 (rule_of_sides rs p.left p.right) refl is

size_is : (rs : List Rule) (i : ℕ) (r : Rule) → slice_get rs i ≡ Some r → size_at rs i ≡ size r
size_is [] i r e = cc
size_is (x ∷ rs) zero r e = let same : x ≡ r = cc in ap size same
size_is (x ∷ rs) (suc i) r e = size_is rs i r e

part_over : (ss : List Symbol) (before after : List Pair) (p : Pair) → list_all (is_pair_over ss) (before ++ p ∷ after) ≡ true
    → is_pair_over ss p ≡ true
part_over ss [] after p all = (and_parts (is_pair_over ss p) (list_all (is_pair_over ss) after) all).0
part_over ss (b ∷ before) after p all =
    part_over ss before after p (and_parts (is_pair_over ss b) (list_all (is_pair_over ss) (before ++ p ∷ after)) all).1

-- ---- steps one after another

-- what the laws say that this one builds on
pub record CountLaws : Type 0 where
  pub itself : (rs : List Rule) (c : Configuration) → HasNames c → Reaches rs c c []
  pub names : (rs : List Rule) (c d : Configuration) (fired : List ℕ) → Reaches rs c d fired → HasNames d
  pub over : (rs : Rules) (c d : Configuration) (fired : List ℕ) → IsRuleSet rs → IsTrue (is_over rs.symbols c) → HasNames c
      → Reaches rs.rules c d fired → IsTrue (is_over rs.symbols d)
  pub chain : (rs : Rules) (c d e : Configuration) (fired : List ℕ) (kinds : List Kind) → IsRuleSet rs → IsTrue (is_over rs.symbols c) → HasNames c
      → Reaches rs.rules c d fired → Chain rs.rules kinds d e → Reaches rs.rules c e (fired ++ rules_fired kinds)

firing_counts : (rs : Rules) (c d : Configuration) (place : ℕ) → IsRuleSet rs → IsTrue (is_over rs.symbols c) → (step : Interaction rs.rules c d place)
    → (length d.equations + 1 ≡ length c.equations + size_at rs.rules step.active.rule) × (step.active.rule < length rs.rules)
firing_counts rs c d place set over step =
    let equations : list_all (is_pair_over rs.symbols) c.equations ≡ true =
    (and_parts (list_all (is_tree_over rs.symbols) c.interface) (list_all (is_pair_over rs.symbols) c.equations) over).1 in
    let p : is_pair_over rs.symbols step.equation ≡ true = part_over rs.symbols step.before step.after step.equation
    (transport (λ es. list_all (is_pair_over rs.symbols) es ≡ true) step.stands.parts equations) in
    let found : Found rs.rules step.active = found_at rs.symbols rs.rules step.equation step.active set.fitting p step.has_rule in
    let made : List Pair = products_by rs.rules c.next step.active in
    let many : length made ≡ size found.rule = products_length rs.rules c.next step.active found.rule found.fit in
    let rule : size_at rs.rules step.active.rule ≡ size found.rule = size_is rs.rules step.active.rule found.rule found.there in
    let old = ap (length {A = Pair}) step.stands.parts in
    let new = ap (λ (e : Configuration). length e.equations) step.result in
    let a = length-append step.before (step.equation ∷ step.after) in
    let b = length-append step.before (made ++ step.after) in
    let k = length-append made step.after in
    (omega (arith, many, rule, old, new, a, b, k), found.within)

naming_counts : (c d : Configuration) → NameStep c d → length d.equations + 1 ≡ length c.equations
naming_counts c d step =
    let old = ap (length {A = Pair}) step.place in
    let new = ap (λ (e : Configuration). length e.equations) step.result in
    let a = length-append step.before (step.equation ∷ step.after) in
    let b = length-append step.before step.after in
    let m = length-map (step.before ++ step.after) (subst_pair step.bound.name step.bound.term) in
    omega (arith, old, new, a, b, m)

-- Each interaction makes an equation of each argument of its rule and takes one away, and a name step takes one away.
pub record Counts (rs : Rules) (kinds : List Kind) (c d : Configuration) : Type 0 where
  pub equations : length d.equations + (name_steps kinds + length (rules_fired kinds))
      ≡ length c.equations + sum_by (size_at rs.rules) (rules_fired kinds)
  pub within : AllByRecursion (λ i. i < length rs.rules) (rules_fired kinds)

pub chain_counts : CountLaws → (rs : Rules) (kinds : List Kind) (c d : Configuration) → IsRuleSet rs → IsTrue (is_over rs.symbols c) → HasNames c
    → Chain rs.rules kinds c d → Counts rs kinds c d
chain_counts laws rs [] c d set over named chain = record {
  equations = let same = ap (λ (e : Configuration). length e.equations) chain in omega (arith, same);
  within = tt;
}
chain_counts laws rs (naming ∷ kinds) c d set over named chain =
    let e : Configuration = chain.0 in
    let on = laws.chain rs c c e [] (naming ∷ []) set over named (laws.itself rs.rules c named) (e, chain.1, refl) in
    let rest = chain_counts laws rs kinds e d set (laws.over rs c e [] set over named on) (laws.names rs.rules c e [] on) chain.2 in
    let one = naming_counts c e chain.1 in
    record { equations = omega (arith, rest.equations, one); within = rest.within }
chain_counts laws rs (firing i ∷ kinds) c d set over named chain =
    let e : Configuration = chain.0 in
    let on = laws.chain rs c c e [] (firing i ∷ []) set over named (laws.itself rs.rules c named) (e, chain.1, refl) in
    let rest = chain_counts laws rs kinds e d set (laws.over rs c e (i ∷ []) set over named on) (laws.names rs.rules c e (i ∷ []) on) chain.2 in
    let one = firing_counts rs c e chain.1.0 set over chain.1.1 in
    let which : chain.1.1.active.rule ≡ i = chain.1.2 in
    let size_of : size_at rs.rules chain.1.1.active.rule ≡ size_at rs.rules i = ap (size_at rs.rules) which in
    let more = sum_by-cons (size_at rs.rules) i (rules_fired kinds) in
    record {
      equations = omega (arith, rest.equations, one.0, more, size_of);
      within = (omega (arith, one.1, which), rest.within);
    }

-- ---- how often each rule fired

-- a sum of weights, each as often as it is counted
abbrev weighted : List ℕ → (ℕ → ℕ) → ℕ → ℕ
weighted [] f k = 0
weighted (w ∷ ws) f k = f k * w + weighted ws f (k + 1)

weighted_plus : (ws : List ℕ) (f g : ℕ → ℕ) (k : ℕ) → weighted ws (λ i. f i + g i) k ≡ weighted ws f k + weighted ws g k
weighted_plus [] f g k = refl
weighted_plus (w ∷ ws) f g k =
    let there = weighted_plus ws f g (k + 1) in
    let here : (f k + g k) * w ≡ f k * w + g k * w = omega arith in
    omega (arith, here, there)

weighted_none : (ws : List ℕ) (k : ℕ) → weighted ws (λ i. 0) k ≡ 0
weighted_none [] k = refl
weighted_none (w ∷ ws) k = let there = weighted_none ws (k + 1) in let here : 0 * w ≡ 0 = omega arith in omega (arith, here, there)

weighted_same : (ws : List ℕ) (f g : ℕ → ℕ) (k : ℕ) → ((i : ℕ) → k ≤ i → i < k + length ws → f i ≡ g i) → weighted ws f k ≡ weighted ws g k
weighted_same [] f g k same = refl
weighted_same (w ∷ ws) f g k same =
    let here = ap (λ v. v * w) (same k (omega arith) (omega arith)) in
    let there = weighted_same ws f g (k + 1) (λ i low high. same i (omega (arith, low)) (omega (arith, high))) in
    omega (arith, here, there)

abbrev unit : ℕ → ℕ → ℕ
unit j i = cond (j == i) 1 0

unit_other : (j i : ℕ) → ¬ (j ≡ i) → unit j i ≡ 0
unit_other j i apart = ap (λ b. cond b 1 0) (ne_eqb j i apart)

unit_same : (j : ℕ) → unit j j ≡ 1
unit_same j = ap (λ b. cond b 1 0) (eq-eqb j j refl)

weighted_past : (ws : List ℕ) (j k : ℕ) → j < k → weighted ws (unit j) k ≡ 0
weighted_past [] j k low = refl
weighted_past (w ∷ ws) j k low =
    let here : unit j k * w ≡ 0 * w = ap (λ v. v * w) (unit_other j k (λ e. omega (arith, e, low))) in
    let none : 0 * w ≡ 0 = omega arith in
    let there = weighted_past ws j (k + 1) (omega (arith, low)) in
    omega (arith, here, none, there)

weighted_one : (ws : List ℕ) (d j k : ℕ) → j ≡ k + d → weighted ws (unit j) k ≡ slice_index_or ws d 0
weighted_one [] d j k e = refl
weighted_one (w ∷ ws) zero j k e =
    let at : j ≡ k = omega (arith, e) in
    let here : unit j k * w ≡ 1 * w = ap (λ v. v * w) (ap (λ (i : ℕ). unit i k) at ∙ unit_same k) in
    let one : 1 * w ≡ w = omega arith in
    let there : weighted ws (unit j) (k + 1) ≡ 0 = weighted_past ws j (k + 1) (omega (arith, at)) in
    omega (arith, here, one, there)
weighted_one (w ∷ ws) (suc d) j k e =
    let here : unit j k * w ≡ 0 * w = ap (λ v. v * w) (unit_other j k (λ q. omega (arith, q, e))) in
    let none : 0 * w ≡ 0 = omega arith in
    let there = weighted_one ws d j (k + 1) (omega (arith, e)) in
    omega (arith, here, none, there)

-- the weights of what fired
weighted_fired : (ws fired : List ℕ) → weighted ws (λ i. count_by (λ j. j == i) fired) 0 ≡ sum_by (λ i. slice_index_or ws i 0) fired
weighted_fired ws [] = weighted_none ws 0
weighted_fired ws (j ∷ js) =
    let split : weighted ws (λ i. count_by (λ m. m == i) (j ∷ js)) 0 ≡ weighted ws (λ i. unit j i + count_by (λ m. m == i) js) 0 =
    weighted_same ws (λ i. count_by (λ m. m == i) (j ∷ js)) (λ i. unit j i + count_by (λ m. m == i) js) 0
    (λ i low high. sum_by-cons (λ m. cond (m == i) 1 0) j js) in
    let parts = weighted_plus ws (unit j) (λ i. count_by (λ m. m == i) js) 0 in
    let one : weighted ws (unit j) 0 ≡ slice_index_or ws j 0 = weighted_one ws j j 0 (omega arith) in
    let rest = weighted_fired ws js in
    let told = sum_by-cons (λ i. slice_index_or ws i 0) j js in
    split ∙ (parts ∙ omega (arith, one, rest, told))

made_weighted : (rs : List Rule) (counts : List ℕ) (k : ℕ) → made_from rs counts k ≡ weighted (map size rs) (λ i. slice_index_or counts i 0) k
made_weighted [] counts k = refl
made_weighted (r ∷ rs) counts k = let there = made_weighted rs counts (k + 1) in omega (arith, there)

-- the equations that the rules made, by how often each fired
pub made_so : (rs : List Rule) (fired by_rule : List ℕ) → AreCounts (length rs) fired by_rule → made_from rs by_rule 0 ≡ sum_by (size_at rs) fired
made_so rs fired by_rule counts =
    let many : length (map size rs) ≡ length rs = length-map rs size in
    made_weighted rs by_rule 0
    ∙ (weighted_same (map size rs) (λ i. slice_index_or by_rule i 0) (λ i. count_by (λ j. j == i) fired) 0
    (λ i low high. counts.each i (omega (arith, high, many)))
    ∙ weighted_fired (map size rs) fired)

-- ---- all together

-- where what is reached is quiet, the name steps are all equations that were there and were made, but those that are left
pub name_steps_so : CountLaws
    → ((c d : Configuration) → SameButNext c d → length d.equations ≡ length c.equations)
    → (rs : Rules) (c answer : Configuration) (fired by_rule : List ℕ) → IsRuleSet rs → IsTrue (is_over rs.symbols c) → HasNames c
    → (kinds : List Kind) × (end : Configuration) × Chain rs.rules kinds c end × (rules_fired kinds ≡ fired) × IsQuiet rs.rules end
    × SameButNext end answer
    → AreCounts (length rs.rules) fired by_rule
    → (n : ℕ) × AreNameSteps rs.rules c n
    × (n + length fired + length answer.equations ≡ length c.equations + made_from rs.rules by_rule 0)
name_steps_so laws same rs c answer fired by_rule set over named reached counts =
    let kinds : List Kind = reached.0 in
    let end : Configuration = reached.1 in
    let counted : Counts rs kinds c end = chain_counts laws rs kinds c end set over named reached.2 in
    let many : length (rules_fired kinds) ≡ length fired = ap (length {A = ℕ}) reached.3 in
    let sums : sum_by (size_at rs.rules) (rules_fired kinds) ≡ sum_by (size_at rs.rules) fired = ap (sum_by (size_at rs.rules)) reached.3 in
    let made = made_so rs.rules fired by_rule counts in
    let left = same end answer reached.5 in (
      name_steps kinds,
      record { kinds = kinds; end = end; chain = reached.2; quiet = reached.4; count = refl },
      omega (arith, counted.equations, many, sums, made, left),
    )

-- what is told at each end
pub tells_so : (rs : List Rule) (c : Configuration) (interactions left : ℕ) (end : End) (told : Option ℕ)
    → (end ≡ Quiet → (n : ℕ) × AreNameSteps rs c n × SomeIff told (n + interactions + left < 2 ^ 64) n)
    → (end ≢ Quiet → told ≡ None) → TellsNameSteps rs c interactions left end told
tells_so rs c interactions left Quiet told quiet other = quiet refl
tells_so rs c interactions left Steps told quiet other = other (λ e. cc)
tells_so rs c interactions left Nodes told quiet other = other (λ e. cc)
tells_so rs c interactions left Limit told quiet other = other (λ e. cc)
tells_so rs c interactions left Memory told quiet other = other (λ e. cc)

-- ---- every order

abbrev weigh : Kind → ℕ
weigh naming = 1
weigh (firing i) = 0

weighed : (kinds : List Kind) → name_steps kinds ≡ sum_by weigh kinds
weighed [] = refl
weighed (naming ∷ kinds) = let rest = weighed kinds in let one = sum_by-cons weigh naming kinds in omega (arith, rest, one)
weighed (firing i ∷ kinds) = let rest = weighed kinds in let one = sum_by-cons weigh (firing i) kinds in omega (arith, rest, one)

pub as_many_name_steps : (ks ls : List Kind) → IsPermutation ks ls → name_steps ls ≡ name_steps ks
as_many_name_steps ks ls moved = weighed ls ∙ (sum_by-IsPermutation weigh ks ls moved ∙ sym (weighed ks))

-- ---- all rules

abbrev ones : List ℕ → List ℕ
ones xs = map {B = ℕ} (λ x. 1) xs

ones_summed : (xs : List ℕ) (f : ℕ → ℕ) (k : ℕ) → ((i : ℕ) → i < length xs → f (k + i) ≡ slice_index_or xs i 0)
    → weighted (ones xs) f k ≡ sum_by (λ x. x) xs
ones_summed [] f k each = refl
ones_summed (x ∷ xs) f k each =
    let at : k + 0 ≡ k = omega arith in
    let here : f k ≡ x = ap f (sym at) ∙ each 0 (omega arith) in
    let one : f k * 1 ≡ f k = omega arith in
    let rest = ones_summed xs f (k + 1) (λ i low. let next : (k + 1) + i ≡ k + suc i = omega arith in ap f next ∙ each (suc i) (omega (arith, low))) in
    let whole = sum_by-cons (λ x. x) x xs in
    omega (arith, here, one, rest, whole)

each_one : (n : ℕ) (xs fired : List ℕ) → length xs ≡ n → AllByRecursion (λ i. i < n) fired
    → sum_by (λ i. slice_index_or (ones xs) i 0) fired ≡ length fired
each_one n xs [] e all = refl
each_one n xs (i ∷ fired) e all =
    let here : slice_index_or (ones xs) i 0 ≡ 1 = one_at xs i (omega (arith, e, all.0)) in
    let rest = each_one n xs fired e all.1 in
    let whole = sum_by-cons (λ i. slice_index_or (ones xs) i 0) i fired in
    omega (arith, here, rest, whole)
  where
    one_at : (xs : List ℕ) (i : ℕ) → i < length xs → slice_index_or (ones xs) i 0 ≡ 1
    one_at [] i low = absurd (omega (arith, low))
    one_at (x ∷ xs) zero low = refl
    one_at (x ∷ xs) (suc i) low = one_at xs i (omega (arith, low))

-- what is told of each rule is told in all
pub counts_are_all : (rules : ℕ) (fired by_rule : List ℕ) → AllByRecursion (λ i. i < rules) fired → AreCounts rules fired by_rule
    → sum_by (λ x. x) by_rule ≡ length fired
counts_are_all rules fired by_rule all counts =
    let ws : List ℕ = ones by_rule in
    let many : length ws ≡ length by_rule = length-map by_rule (λ x. 1) in
    sym (ones_summed by_rule (λ i. slice_index_or by_rule i 0) 0 (λ i low. ap (λ (j : ℕ). slice_index_or by_rule j 0) (zero-add i)))
    ∙ (weighted_same ws (λ i. slice_index_or by_rule i 0) (λ i. count_by (λ j. j == i) fired) 0
    (λ i low high. counts.each i (omega (arith, high, many, counts.all)))
    ∙ (weighted_fired ws fired
    ∙ each_one rules by_rule fired counts.all all))

-- what fired on the way was of rules that are there
pub fired_within : CountLaws → (rs : Rules) (c d : Configuration) (fired : List ℕ) → IsRuleSet rs → IsTrue (is_over rs.symbols c) → HasNames c
    → Reaches rs.rules c d fired → AllByRecursion (λ i. i < length rs.rules) fired
fired_within laws rs c d fired set over named reached =
    transport (AllByRecursion (λ i. i < length rs.rules)) reached.interactions
    (chain_counts laws rs reached.kinds c reached.end set over named reached.chain).within

-- counts are those of the same in another order
pub counts_moved : (rules : ℕ) (fired others by_rule : List ℕ) → IsPermutation fired others → AreCounts rules fired by_rule
    → AreCounts rules others by_rule
counts_moved rules fired others by_rule moved counts = record {
  all = counts.all;
  each = λ i there. counts.each i there ∙ sym (sum_by-IsPermutation (λ j. cond (j == i) 1 0) fired others moved);
}

-- ---- what is counted on the way

-- the equations that one more rule makes
pub made_step : (rs : List Rule) (counts : List ℕ) (i : ℕ) (r : Rule) → i < length rs → r ≡ slice_index_or rs i r
    → made_from (drop i rs) counts i
    ≡ slice_index_or counts i 0 * length r.left_args + (slice_index_or counts i 0 * length r.right_args + made_from (drop (i + 1) rs) counts (i + 1))
made_step rs counts i r low is =
    let next : suc i ≡ i + 1 = omega arith in
    let parts : drop i rs ≡ r ∷ drop (i + 1) rs =
    drop-cons rs i r low ∙ ((λ j. sym is j ∷ drop (next j) rs)) in
    let both = length-append r.left_args r.right_args in
    let times : slice_index_or counts i 0 * length (r.left_args ++ r.right_args)
    ≡ slice_index_or counts i 0 * (length r.left_args + length r.right_args) = ap (λ (k : ℕ). slice_index_or counts i 0 * k) both in
    let split : slice_index_or counts i 0 * (length r.left_args + length r.right_args)
    ≡ slice_index_or counts i 0 * length r.left_args + slice_index_or counts i 0 * length r.right_args = omega arith in
    ap (λ l. made_from l counts i) parts ∙ omega (arith, times, split)
