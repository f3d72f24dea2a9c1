-- What the firing of a work gives: names that are raised only up to the greatest number are raised all the same, since a
-- work that suits stays within the limit.
use Rattle.std.proofs.Common.{◌≡◌, ℕ, ◌+◌, ◌≤◌, ◌<◌, ◌&&◌, List, [], ◌∷◌, ◌++◌, true, Option, None, Some, slice_get, length, map, min, nat_le, refl, sym, ap, ◌∙◌, arith, subst, inl, inr}
use Rattle.std.proofs.lemmas.Grind.{common_steps}
use Rattle.std.proofs.lemmas.Bool.{and_parts}
use Rattle.std.proofs.lemmas.Option.{slice_get_cases}
use Rattle.std.specs.List.{AllByRecursion, flat_map}
use Rattle.std.specs.Option.{option_map_or}
use Rattle.ic_term.specs.declared.limits.TheConstants.{MAX_NEXT}
use Rattle.ic_term.specs.Tree.{Tree, name, agent, Trees, no_trees, more_trees, names, names_of, Pair}
use Rattle.ic_rules.specs.Renaming.{renamed, renamed_trees}
use Rattle.ic_rules.specs.Rule.{Rule, IsRule, rule_names}
use Rattle.ic_settle.specs.lemmas.SubstitutionLaws.{All-front, All-back}
use Rattle.ic_round.specs.Instance.{inst}
use Rattle.ic_round.specs.Firing.{arguments, against, products, products_by}
use Rattle.ic_round.specs.Works.{PlainWork, is_agent_of, suits, suits_rule}
use Rattle.ic_round.specs.lemmas.FreshNames.{rule_below}
use Rattle.ic_round.specs.lemmas.Words.{u64_MAX}

pub against-none : (ts : List Tree) → against ts [] ≡ []
against-none [] = refl
against-none (t ∷ ts) = refl

-- ---- names within the limit

mutual
  same_renamed : (f g : ℕ → ℕ) (t : Tree) → AllByRecursion (λ n. f n ≡ g n) (names t) → renamed f t ≡ renamed g t
  same_renamed f g (name n) all = ap name all.0
  same_renamed f g (agent s ts) all = ap (agent s) (same_renamed_trees f g ts all)

  same_renamed_trees : (f g : ℕ → ℕ) (ts : Trees) → AllByRecursion (λ n. f n ≡ g n) (names_of ts) → renamed_trees f ts ≡ renamed_trees g ts
  same_renamed_trees f g no_trees all = refl
  same_renamed_trees f g (more_trees t ts) all =
      let first = same_renamed f g t (All-front _ (names t) (names_of ts) all) in
      let rest = same_renamed_trees f g ts (All-back _ (names t) (names_of ts) all) in
      λ i. more_trees (first i) (rest i)

same_map : (f g : ℕ → ℕ) (ts : List Tree) → AllByRecursion (λ n. f n ≡ g n) (flat_map names ts) → map (renamed f) ts ≡ map (renamed g) ts
same_map f g [] all = refl
same_map f g (t ∷ ts) all =
    let first = same_renamed f g t (All-front _ (names t) (flat_map names ts) all) in
    let rest = same_map f g ts (All-back _ (names t) (flat_map names ts) all) in
    λ i. first i ∷ rest i

within_limit : (base count : ℕ) (ns : List ℕ) → base + count ≤ MAX_NEXT → AllByRecursion (λ n. n < count) ns
    → AllByRecursion (λ n. min (base + n) u64_MAX ≡ base + n) ns
within_limit base count [] small all = tt
within_limit base count (n ∷ ns) small all =
    ((let low = all.0 in let h : min (base + n) u64_MAX ≡ base + n = omega arith in h), within_limit base count ns small all.1)

-- ---- a work that suits

suits_base : (w : PlainWork) (o : Option Rule) (r : Rule) → suits_rule w o ≡ true → o ≡ Some r → w.base + r.names ≤ MAX_NEXT
suits_base w None r holds e = cc
suits_base w (Some q) r holds e =
    let same : q ≡ r = cc in
    let last = (and_parts (is_agent_of q.left (length q.left_args) w.active.left && is_agent_of q.right (length q.right_args) w.active.right) (nat_le (w.base + q.names) MAX_NEXT) holds).1 in
    let small : w.base + q.names ≤ MAX_NEXT = grind (arith, common_steps, last) in
    subst (λ (k : Rule). w.base + k.names ≤ MAX_NEXT) same small

-- the products of a work that suits, in two parts
pub products_of_suiting : (rs : List Rule) (w : PlainWork) (r : Rule) (out half : List Pair)
    → slice_get rs w.active.rule ≡ Some r → IsRule r → suits rs w ≡ true
    → half ≡ against (arguments w.active.left) (map (renamed (λ k. min (w.base + k) u64_MAX)) r.left_args)
    → out ≡ half ++ against (arguments w.active.right) (map (renamed (λ k. min (w.base + k) u64_MAX)) r.right_args)
    → out ≡ products_by rs w.base w.active
products_of_suiting rs w r out half there is holds first both =
    let f : ℕ → ℕ = λ k. min (w.base + k) u64_MAX in
    let g : ℕ → ℕ = λ k. w.base + k in
    let small = suits_base w (slice_get rs w.active.rule) r holds there in
    let all = within_limit w.base r.names (rule_names r) small (rule_below r is) in
    let lefts = same_map f g r.left_args (All-front _ (flat_map names r.left_args) (flat_map names r.right_args) all) in
    let rights = same_map f g r.right_args (All-back _ (flat_map names r.left_args) (flat_map names r.right_args) all) in
    both ∙ ap (λ h. h ++ against (arguments w.active.right) (map (renamed f) r.right_args)) first
    ∙ (λ i. against (arguments w.active.left) (lefts i) ++ against (arguments w.active.right) (rights i))
    ∙ sym (ap (λ o. option_map_or (λ q. products (inst q w.base) w.active.left w.active.right) o []) there)

pub suits_within : (rs : List Rule) (w : PlainWork) → suits rs w ≡ true → w.active.rule < length rs
suits_within rs w holds = elim (slice_get_cases rs w.active.rule).1 [
  | inl h ↦ h.1
  | inr h ↦ let bad : suits_rule w None ≡ true = ap (suits_rule w) (sym h.1) ∙ holds in cc
]
