-- The rules of a rule set are over its symbols, and so are their agents.
use Rattle.std.proofs.Common.{◌≡◌, ℕ, true, List, IsTrue, length, slice_get, ap, ◌∙◌}
use Rattle.std.specs.List.{list_all, AllByRecursion}
use Rattle.std.proofs.lemmas.Bool.{and_from}
use Rattle.ic_term.specs.Symbol.{Symbol, has_arity, is_tree_over}
use Rattle.ic_term.specs.Tree.{Tree, agent, trees_of}
use Rattle.ic_term.specs.lemmas.TreeLaws.{list_of-trees_of}
use Rattle.ic_rules.specs.Rule.{Rule}
use Rattle.ic_rules.specs.RuleSet.{Rules, IsRuleSet, IsRuleOver, first_unfit}
use Rattle.ic_rules.specs.lemmas.FitLaws.{first_unfit-None, are_trees_over-trees_of}

pub each_over : (set : Rules) (ss : List Symbol) (rs : List Rule) → ss ≡ set.symbols → rs ≡ set.rules → IsRuleSet set → AllByRecursion (IsRuleOver ss) rs
each_over set ss rs symbols rules is =
    (first_unfit-None ss rs).0 (ap (λ ts. first_unfit ts rs) symbols ∙ ap (first_unfit set.symbols) rules ∙ is.fitting)

-- an agent of these arguments
pub agent_over : (ss : List Symbol) (made : Tree) (sym s : ℕ) (args ts : List Tree) → made ≡ agent sym (trees_of args) → sym ≡ s → args ≡ ts
    → has_arity (length ts) (slice_get ss s) ≡ true → list_all (is_tree_over ss) ts ≡ true → IsTrue (is_tree_over ss made)
agent_over ss made sym s args ts is symbol arguments has over =
    ap (is_tree_over ss) (is ∙ (λ i. agent (symbol i) (trees_of (arguments i))))
    ∙ and_from _ _ (ap (λ l. has_arity (length l) (slice_get ss s)) (list_of-trees_of ts) ∙ has) (are_trees_over-trees_of ss ts ∙ over)
