-- Lemmas, which a reader of the contracts doesn't need: where no agent of rules is unfit, each rule is over the
-- symbols.
use Rattle.std.proofs.Common.{◌≡◌, ◌↔◌, ℕ, zero, suc, Bool, true, false, ◌&&◌, List, [], ◌∷◌, ◌++◌, Option, None, Some, cond, slice_get, length, unwrap_or, refl, sym, ap, ◌∙◌, subst}
use Rattle.std.proofs.lemmas.Bool.{and_parts, and_from}
use Rattle.std.specs.List.{flat_map, list_all, AllByRecursion}
use Rattle.ic_term.specs.Symbol.{Symbol, has_arity, is_tree_over, are_trees_over}
use Rattle.ic_term.specs.Tree.{Tree, name, agent, Trees, no_trees, more_trees, trees_of, list_of}
use Rattle.ic_term.specs.lemmas.TreeLaws.{list_of-trees_of}
use Rattle.ic_rules.specs.Rule.{Rule, agents, agents_of, rule_agents}
use Rattle.ic_rules.specs.RuleSet.{unfit_among, first_unfit, IsRuleOver}

-- what the first finds, or else the second
abbrev pub or_else : Option ℕ → Option ℕ → Option ℕ
or_else None other = other
or_else (Some n) other = Some n

-- the first agent of two lists that is unfit
pub unfit_among-append : (ss : List Symbol) (xs bs : List (ℕ × ℕ)) → unfit_among ss (xs ++ bs) ≡ or_else (unfit_among ss xs) (unfit_among ss bs)
unfit_among-append ss [] bs = refl
unfit_among-append ss (a ∷ cs) bs = elim (has_arity a.1 (slice_get ss a.0)) as (λ b. cond b (unfit_among ss (cs ++ bs)) (Some a.0) ≡ or_else (cond b (unfit_among ss cs) (Some a.0)) (unfit_among ss bs)) [
  | true ↦ unfit_among-append ss cs bs
  | false ↦ refl
]

-- an option that a test gives only where it fails
unless_true : (b : Bool) (s : ℕ) (o : Option ℕ) → b ≡ true → cond b o (Some s) ≡ o
unless_true true s o is = refl
unless_true false s o is = cc

-- no agent is unfit: of two lists
none_of_two : (ss : List Symbol) (xs ys : List (ℕ × ℕ)) → unfit_among ss (xs ++ ys) ≡ None → (unfit_among ss xs ≡ None) × (unfit_among ss ys ≡ None)
none_of_two ss xs ys none = by (unfit_among ss xs) (unfit_among ss ys) (sym (unfit_among-append ss xs ys) ∙ none)
  where
    by : (o p : Option ℕ) → or_else o p ≡ None → (o ≡ None) × (p ≡ None)
    by None p e = (refl, e)
    by (Some n) p e = cc

both_none : (ss : List Symbol) (xs ys : List (ℕ × ℕ)) → unfit_among ss xs ≡ None → unfit_among ss ys ≡ None → unfit_among ss (xs ++ ys) ≡ None
both_none ss xs ys none others = unfit_among-append ss xs ys ∙ ap (λ o. or_else o (unfit_among ss ys)) none ∙ others

-- of one agent and others
none_of_first : (ss : List Symbol) (s n : ℕ) (xs : List (ℕ × ℕ)) → unfit_among ss ((s, n) ∷ xs) ≡ None → (has_arity n (slice_get ss s) ≡ true) × (unfit_among ss xs ≡ None)
none_of_first ss s n xs none = by (has_arity n (slice_get ss s)) (unfit_among ss xs) none
  where
    by : (b : Bool) (o : Option ℕ) → cond b o (Some s) ≡ None → (b ≡ true) × (o ≡ None)
    by true o e = (refl, e)
    by false o e = cc

first_none : (ss : List Symbol) (s n : ℕ) (xs : List (ℕ × ℕ)) → has_arity n (slice_get ss s) ≡ true → unfit_among ss xs ≡ None → unfit_among ss ((s, n) ∷ xs) ≡ None
first_none ss s n xs fits none = unless_true (has_arity n (slice_get ss s)) s (unfit_among ss xs) fits ∙ none

-- where no agent of a term is unfit, it is over the symbols
mutual
  tree_over : (ss : List Symbol) (t : Tree) → unfit_among ss (agents t) ≡ None → is_tree_over ss t ≡ true
  tree_over ss (name n) none = refl
  tree_over ss (agent s ts) none =
      let parts = none_of_first ss s (length (list_of ts)) (agents_of ts) none in
      and_from (has_arity (length (list_of ts)) (slice_get ss s)) (are_trees_over ss ts) parts.0 (trees_over ss ts parts.1)

  trees_over : (ss : List Symbol) (ts : Trees) → unfit_among ss (agents_of ts) ≡ None → are_trees_over ss ts ≡ true
  trees_over ss no_trees none = refl
  trees_over ss (more_trees t ts) none =
      let parts = none_of_two ss (agents t) (agents_of ts) none in
      and_from (is_tree_over ss t) (are_trees_over ss ts) (tree_over ss t parts.0) (trees_over ss ts parts.1)

-- where a term is over the symbols, no agent of it is unfit
mutual
  none_in_tree : (ss : List Symbol) (t : Tree) → is_tree_over ss t ≡ true → unfit_among ss (agents t) ≡ None
  none_in_tree ss (name n) over = refl
  none_in_tree ss (agent s ts) over =
      let parts = and_parts (has_arity (length (list_of ts)) (slice_get ss s)) (are_trees_over ss ts) over in
      first_none ss s (length (list_of ts)) (agents_of ts) parts.0 (none_in_trees ss ts parts.1)

  none_in_trees : (ss : List Symbol) (ts : Trees) → are_trees_over ss ts ≡ true → unfit_among ss (agents_of ts) ≡ None
  none_in_trees ss no_trees over = refl
  none_in_trees ss (more_trees t ts) over =
      let parts = and_parts (is_tree_over ss t) (are_trees_over ss ts) over in
      both_none ss (agents t) (agents_of ts) (none_in_tree ss t parts.0) (none_in_trees ss ts parts.1)

pub are_trees_over-trees_of : (ss : List Symbol) (ts : List Tree) → are_trees_over ss (trees_of ts) ≡ list_all (is_tree_over ss) ts
are_trees_over-trees_of ss [] = refl
are_trees_over-trees_of ss (t ∷ ts) = ap (λ b. is_tree_over ss t && b) (are_trees_over-trees_of ss ts)

-- an agent over the symbols, of a symbol and a list of arguments
is_agent_over : (ss : List Symbol) (s : ℕ) (ts : List Tree) → is_tree_over ss (agent s (trees_of ts)) ≡ (has_arity (length ts) (slice_get ss s) && list_all (is_tree_over ss) ts)
is_agent_over ss s ts = λ i. has_arity (length (list_of-trees_of ts i)) (slice_get ss s) && are_trees_over-trees_of ss ts i

-- a rule none of whose agents is unfit
pub is_rule_over : (ss : List Symbol) (r : Rule) → unfit_among ss (rule_agents r) ≡ None → IsRuleOver ss r
is_rule_over ss r none =
    let parts = none_of_two ss (agents (agent r.left (trees_of r.left_args))) (agents (agent r.right (trees_of r.right_args))) none in
    let left = and_parts (has_arity (length r.left_args) (slice_get ss r.left)) (list_all (is_tree_over ss) r.left_args)
    (sym (is_agent_over ss r.left r.left_args) ∙ tree_over ss (agent r.left (trees_of r.left_args)) parts.0) in
    let right = and_parts (has_arity (length r.right_args) (slice_get ss r.right)) (list_all (is_tree_over ss) r.right_args)
    (sym (is_agent_over ss r.right r.right_args) ∙ tree_over ss (agent r.right (trees_of r.right_args)) parts.1) in
    record { left = left.0; right = right.0; left_args = left.1; right_args = right.1 }

none_in_rule : (ss : List Symbol) (r : Rule) → IsRuleOver ss r → unfit_among ss (rule_agents r) ≡ None
none_in_rule ss r over =
    let left = is_agent_over ss r.left r.left_args ∙ and_from (has_arity (length r.left_args) (slice_get ss r.left)) (list_all (is_tree_over ss) r.left_args) over.left over.left_args in
    let right = is_agent_over ss r.right r.right_args ∙ and_from (has_arity (length r.right_args) (slice_get ss r.right)) (list_all (is_tree_over ss) r.right_args) over.right over.right_args in
    both_none ss (agents (agent r.left (trees_of r.left_args))) (agents (agent r.right (trees_of r.right_args)))
    (none_in_tree ss (agent r.left (trees_of r.left_args)) left) (none_in_tree ss (agent r.right (trees_of r.right_args)) right)

-- no agent of rules is unfit exactly where each rule is over the symbols
pub first_unfit-None : (ss : List Symbol) (rs : List Rule) → (first_unfit ss rs ≡ None) ↔ AllByRecursion (IsRuleOver ss) rs
first_unfit-None ss rs = (each_over rs, none_in_each rs)
  where
    each_over : (rs : List Rule) → first_unfit ss rs ≡ None → AllByRecursion (IsRuleOver ss) rs
    each_over [] none = tt
    each_over (r ∷ rs) none =
        let parts = none_of_two ss (rule_agents r) (flat_map rule_agents rs) none in
        (is_rule_over ss r parts.0, each_over rs parts.1)

    none_in_each : (rs : List Rule) → AllByRecursion (IsRuleOver ss) rs → first_unfit ss rs ≡ None
    none_in_each [] over = refl
    none_in_each (r ∷ rs) over = both_none ss (rule_agents r) (flat_map rule_agents rs) (none_in_rule ss r over.0) (none_in_each rs over.1)

-- the rule at a place, where no agent of the rules is unfit
pub rule_over_at : (ss : List Symbol) (rs : List Rule) (i : ℕ) (r : Rule) → first_unfit ss rs ≡ None → slice_get rs i ≡ Some r → IsRuleOver ss r
rule_over_at ss rs i r none there = at rs i ((first_unfit-None ss rs).0 none) there
  where
    at : (rs : List Rule) (i : ℕ) → AllByRecursion (IsRuleOver ss) rs → slice_get rs i ≡ Some r → IsRuleOver ss r
    at [] i over there = cc
    at (q ∷ rs) zero over there = subst (IsRuleOver ss) (ap (λ o. unwrap_or o q) there) over.0
    at (q ∷ rs) (suc i) over there = at rs i over.1 there
