-- The agents of a rule as it is written, and the first of them that doesn't fit.
use Rattle.std.proofs.Common.{◌≡◌, ℕ, List, ◌∷◌, ◌++◌, sym, ap, ◌∙◌, length, map, drop, get_or, suc, ◌+◌, ◌<◌, drop-cons, add-one}
use Rattle.std.proofs.lemmas.List.{length-map}
use Rattle.ic_term.specs.Symbol.{Symbol}
use Rattle.ic_term.specs.Tree.{trees_of}
use Rattle.ic_term.specs.lemmas.TreeLaws.{list_of-trees_of}
use Rattle.ic_term.specs.Term.{tree, cell_tree}
use Rattle.ic_term.specs.lemmas.TermLaws.{cell_tree-out}
use Rattle.ic_term.specs.declared.term.Cell.{Cell, out-Cell}
use Rattle.std.specs.List.{flat_map}
use Rattle.ic_term.specs.declared.term.Term.{Term}
use Rattle.ic_rules.specs.Rule.{agents, agents_of, rule_agents}
use Rattle.ic_rules.specs.Written.{written}
use Rattle.ic_rules.specs.RuleSet.{unfit_among}
use Rattle.ic_rules.specs.lemmas.FitLaws.{or_else, unfit_among-append}

-- the agents of an agent: itself, and those of its arguments
pub agents-cell : (cell : Cell) → agents (cell_tree cell) ≡ ((out-Cell cell).sym, length (out-Cell cell).args.items) ∷ agents_of (trees_of (map tree (out-Cell cell).args.items))
agents-cell cell =
    ap agents (cell_tree-out cell)
    ∙ ap (λ n. ((out-Cell cell).sym, n) ∷ agents_of (trees_of (map tree (out-Cell cell).args.items)))
    (ap length (list_of-trees_of (map tree (out-Cell cell).args.items)) ∙ length-map (out-Cell cell).args.items tree)

-- the arguments left: the first of them, then the others
pub unfit_among-arguments : (ss : List Symbol) (ts : List Term) (i : ℕ) (d : Term) → i < length ts
    → unfit_among ss (agents_of (trees_of (map tree (drop i ts)))) ≡ or_else (unfit_among ss (agents (tree (get_or ts i d)))) (unfit_among ss (agents_of (trees_of (map tree (drop (i + 1) ts)))))
unfit_among-arguments ss ts i d within =
    rw (drop-cons ts i d, add-one i) (unfit_among-append ss (agents (tree (get_or ts i d))) (agents_of (trees_of (map tree (drop (suc i) ts)))))

-- the rules left: the first of them, then the others
pub unfit_among-rules : (ss : List Symbol) (rs : List (Cell × Cell)) (i : ℕ) (d : Cell × Cell) → i < length rs
    → unfit_among ss (flat_map rule_agents (map written (drop i rs)))
    ≡ or_else (unfit_among ss (rule_agents (written (get_or rs i d)))) (unfit_among ss (flat_map rule_agents (map written (drop (i + 1) rs))))
unfit_among-rules ss rs i d within =
    rw (drop-cons rs i d, add-one i) (unfit_among-append ss (rule_agents (written (get_or rs i d))) (flat_map rule_agents (map written (drop (suc i) rs))))

-- the agents of a rule are those of its two agents
pub agents-written : (p : Cell × Cell) → rule_agents (written p) ≡ agents (cell_tree p.0) ++ agents (cell_tree p.1)
agents-written p = λ i. agents (sym (cell_tree-out p.0) i) ++ agents (sym (cell_tree-out p.1) i)
