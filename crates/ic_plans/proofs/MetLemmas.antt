-- A rule of a rule set as two agents meet it: what a plan for it needs.
use Rattle.std.proofs.Common.{◌≡◌, ℕ, zero, suc, ◌+◌, ◌^◌, ◌≤◌, ◌<◌, ◌==◌, List, [], ◌∷◌, ◌++◌, Bool, true, false, cond, Some, length, map, slice_get, nat_le, sum_by, refl, sym, ap, ◌∙◌, arith}
use Rattle.std.proofs.lemmas.Option.{none-some, same_Some}
use Rattle.std.proofs.lemmas.Bool.{and_parts, and_from, leb-true}
use Rattle.std.proofs.lemmas.List.{length-append}
use Rattle.std.proofs.lemmas.List.Folds.{list_all-append}
use Rattle.std.proofs.lemmas.List.Sums.{sum_by-cons, sum_by-append}
use Rattle.std.specs.Cmp.{unsigned_Decides}
use Rattle.std.specs.List.{flat_map, list_all, list_any, AllByRecursion}
use Rattle.std.proofs.lemmas.List.FromFn.{length-range_with_len}
use Rattle.ic_term.specs.Tree.{Tree, name, agent, Trees, no_trees, more_trees, nodes, nodes_of, names, names_of}
use Rattle.ic_term.specs.Configuration.{occurrences}
use Rattle.ic_term.specs.Symbol.{Symbol, has_arity, is_tree_over}
use Rattle.ic_rules.specs.Rule.{Rule, IsRule, rule_names, rule_nodes, swapped, stands_for}
use Rattle.ic_rules.specs.Renaming.{first_after, first_occurrences, are_paired}
use Rattle.ic_rules.specs.RuleSet.{Rules, IsRuleSet, IsRuleOver, are_few, StandsTurned}
use Rattle.ic_rules.specs.lemmas.FitLaws.{rule_over_at}
use Rattle.ic_round.specs.lemmas.FreshNames.{rule_below}
use Rattle.ic_settle.specs.lemmas.SubstitutionLaws.{All-append, All-front, All-back}
use Rattle.ic_meaning.specs.Plans.{met_as, rule_arguments}
use Rattle.ic_plans.proofs.FlatLemmas.{count-append}
use Rattle.ic_plans.proofs.RegisterLemmas.{all_there}
use Rattle.ic_plans.proofs.PlanLemmas.{arity_there, length-nodes}

-- ---- names are no more than nodes

few_firsts : (ns seen : List ℕ) → length (first_after seen ns) ≤ length seen + length ns
few_firsts [] seen = omega arith
few_firsts (n ∷ ns) seen = by (list_any (λ m. n == m) seen) (few_firsts ns seen) (few_firsts ns (seen ++ n ∷ []))
  where
    by : (b : Bool) → length (first_after seen ns) ≤ length seen + length ns → length (first_after (seen ++ n ∷ []) ns) ≤ length (seen ++ n ∷ []) + length ns
        → length (cond b (first_after seen ns) (first_after (seen ++ n ∷ []) ns)) ≤ length seen + suc (length ns)
    by true known new = omega (arith, known)
    by false known new = omega (arith, new, length-append seen (n ∷ []))

mutual
  names_few : (t : Tree) → length (names t) ≤ nodes t
  names_few (name n) = omega arith
  names_few (agent s ts) = omega (arith, names_of_few ts)

  names_of_few : (ts : Trees) → length (names_of ts) ≤ nodes_of ts
  names_of_few no_trees = omega arith
  names_of_few (more_trees t ts) = omega (arith, length-append (names t) (names_of ts), names_few t, names_of_few ts)

terms_few : (ts : List Tree) → length (flat_map names ts) ≤ sum_by nodes ts
terms_few [] = omega arith
terms_few (t ∷ ts) = rw (sum_by-cons nodes t ts) (omega (arith, length-append (names t) (flat_map names ts), names_few t, terms_few ts))

-- a rule has no more names than nodes
rule_few : (r : Rule) → IsRule r → r.names ≤ rule_nodes r
rule_few r is =
    let counted : length (first_occurrences (rule_names r)) ≡ r.names = ap length is.in_order ∙ length-range_with_len 0 r.names in
    omega (
      arith,
      counted,
      few_firsts (rule_names r) [],
      length-append (flat_map names r.left_args) (flat_map names r.right_args),
      terms_few r.left_args,
      terms_few r.right_args,
    )

-- ---- a rule that is met

-- what a plan of a rule needs
pub record IsMet (ss : List Symbol) (r : Rule) : Type 0 where
  pub few : length r.left_args + length r.right_args + r.names + sum_by nodes (rule_arguments r) ≤ 6144
  pub below : AllByRecursion (λ x. x < r.names) (rule_names r)
  pub paired : are_paired (rule_names r) ≡ true
  pub over : list_all (is_tree_over ss) (rule_arguments r) ≡ true

is_met : (ss : List Symbol) (r : Rule) → IsRule r → IsRuleOver ss r → rule_nodes r ≤ 2048 → IsMet ss r
is_met ss r is over few = record {
  few = omega (arith, few, rule_few r is, length-nodes r.left_args, length-nodes r.right_args, sum_by-append nodes r.left_args r.right_args);
  below = rule_below r is;
  paired = is.paired;
  over = list_all-append (is_tree_over ss) r.left_args r.right_args ∙ and_from _ _ over.left_args over.right_args;
}

-- names that are paired are so in the other order
paired_turned : (ms ns : List ℕ) → are_paired (ms ++ ns) ≡ true → are_paired (ns ++ ms) ≡ true
paired_turned ms ns paired =
    let parts = and_parts (list_all (λ n. occurrences n (ms ++ ns) == 2) ms) (list_all (λ n. occurrences n (ms ++ ns) == 2) ns) (sym (list_all-append (λ n. occurrences n (ms ++ ns) == 2) ms ns) ∙ paired) in
    (λ i. list_all (λ n. turned n i == 2) (ns ++ ms))
    ∙ list_all-append (λ n. occurrences n (ms ++ ns) == 2) ns ms
    ∙ and_from _ _ parts.1 parts.0
  where
    turned : (n : ℕ) → occurrences n (ns ++ ms) ≡ occurrences n (ms ++ ns)
    turned n = omega (arith, count-append n ns ms, count-append n ms ns)

met_swapped : (ss : List Symbol) (r : Rule) → IsMet ss r → IsMet ss (swapped r)
met_swapped ss r met =
    let left = flat_map names r.left_args in
    let right = flat_map names r.right_args in
    let parts = and_parts (list_all (is_tree_over ss) r.left_args) (list_all (is_tree_over ss) r.right_args) (sym (list_all-append (is_tree_over ss) r.left_args r.right_args) ∙ met.over) in
    record {
      few = omega (arith, met.few, sum_by-append nodes r.left_args r.right_args, sum_by-append nodes r.right_args r.left_args);
      below = All-append (λ x. x < r.names) right left (All-back (λ x. x < r.names) left right met.below) (All-front (λ x. x < r.names) left right met.below);
      paired = paired_turned left right met.paired;
      over = list_all-append (is_tree_over ss) r.right_args r.left_args ∙ and_from _ _ parts.1 parts.0;
    }

met_either : (ss : List Symbol) (turned : Bool) (r : Rule) → IsMet ss r → IsMet ss (met_as turned r)
met_either ss false r met = met
met_either ss true r met = met_swapped ss r met

pub met_names : (turned : Bool) (r : Rule) → (met_as turned r).names ≡ r.names
met_names false r = refl
met_names true r = refl

nodes_at : (rs : List Rule) (i : ℕ) (r : Rule) → list_all (λ r. nat_le (rule_nodes r) 2048) rs ≡ true → slice_get rs i ≡ Some r → rule_nodes r ≤ 2048
nodes_at [] i r few there = absurd (none-some r there)
nodes_at (s ∷ rs) zero r few there =
    let same : rule_nodes s ≡ rule_nodes r = ap rule_nodes (same_Some s r there) in
    let low = leb-true (rule_nodes s) 2048 (and_parts (nat_le (rule_nodes s) 2048) (list_all (λ r. nat_le (rule_nodes r) 2048) rs) few).0 in
    omega (arith, same, low)
nodes_at (s ∷ rs) (suc i) r few there = nodes_at rs i r (and_parts (nat_le (rule_nodes s) 2048) (list_all (λ r. nat_le (rule_nodes r) 2048) rs) few).1 there

-- the limits of rules
few_rules : (rs : List Rule) → are_few rs ≡ true → (length rs ≤ 2 ^ 31) × (list_all (λ r. nat_le (rule_nodes r) 2048) rs ≡ true)
few_rules rs few =
    let parts = and_parts (nat_le (length rs) (2 ^ 31)) (list_all (λ r. nat_le (rule_nodes r) 2048) rs) few in
    (leb-true (length rs) (2 ^ 31) parts.0, parts.1)

pub rules_within : (rs : Rules) → IsRuleSet rs → length rs.rules ≤ 2 ^ 31
rules_within rs is = (few_rules rs.rules is.few).0

-- a rule of a rule set, as two agents meet it
pub met_at : (rs : Rules) (i : ℕ) (r : Rule) (turned : Bool) → IsRuleSet rs → slice_get rs.rules i ≡ Some r → IsMet rs.symbols (met_as turned r)
met_at rs i r turned is there =
    met_either rs.symbols turned r
    (is_met rs.symbols r (all_there IsRule rs.rules i r is.each there) (rule_over_at rs.symbols rs.rules i r is.fitting there)
    (nodes_at rs.rules i r (few_rules rs.rules is.few).1 there))

-- ---- how many arguments it has

sides_of : (a b : ℕ) (r : Rule) → stands_for a b r ≡ true → (r.left ≡ a) × (r.right ≡ b)
sides_of a b r stands =
    let parts = and_parts (r.left == a) (r.right == b) stands in ((unsigned_Decides r.left a).0 parts.0, (unsigned_Decides r.right b).0 parts.1)

-- the arguments of a symbol's agent are as many as its arity
arity_is : (ss : List Symbol) (s a n left : ℕ) → has_arity n (slice_get ss s) ≡ true → s ≡ a → slice_get (map (λ (s : Symbol). s.arity) ss) a ≡ Some left → n ≡ left
arity_is ss s a n left known same there =
    same_Some n left (sym (arity_there ss s n known) ∙ ap (slice_get (map (λ (s : Symbol). s.arity) ss)) same ∙ there)

-- the arguments of a rule are those of the agents that meet
pub met_arguments : (ss : List Symbol) (r : Rule) (a b left right : ℕ) (turned : Bool) → IsRuleOver ss r → StandsTurned a b turned r
    → slice_get (map (λ (s : Symbol). s.arity) ss) a ≡ Some left → slice_get (map (λ (s : Symbol). s.arity) ss) b ≡ Some right
    → length (rule_arguments (met_as turned r)) ≡ left + right
met_arguments ss r a b left right false over stands first second =
    let at = sides_of a b r stands in
    omega (arith, length-append r.left_args r.right_args, arity_is ss r.left a (length r.left_args) left over.left at.0 first, arity_is ss r.right b (length r.right_args) right over.right at.1 second)
met_arguments ss r a b left right true over stands first second =
    let at = sides_of b a r stands.0 in
    omega (arith, length-append r.right_args r.left_args, arity_is ss r.right a (length r.right_args) left over.right at.1 first, arity_is ss r.left b (length r.left_args) right over.left at.0 second)
