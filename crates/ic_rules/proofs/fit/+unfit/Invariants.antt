use Rattle.std.proofs.Common.{◌≡◌, drop, map}
use Rattle.ic_term.specs.Tree.{trees_of}
use Rattle.ic_term.specs.Term.{tree, cell_tree}
use Rattle.ic_rules.specs.Rule.{agents, agents_of}
use Rattle.ic_rules.specs.RuleSet.{unfit_among}
use Rattle.ic_rules.proofs.fit.+unfit.Given as goal

-- the answer is that of the arguments left
abbrev pub invariant-unfit_in_cell-loop-term : goal.invariant-unfit_in_cell-loop-term
invariant-unfit_in_cell-loop-term l =
    unfit_among l.symbols (agents_of (trees_of (map tree (drop l.term-index l.term-items)))) ≡ unfit_among l.symbols (agents (cell_tree l.cell))
