use Rattle.std.proofs.Common.{◌≡◌, map, drop}
use Rattle.std.specs.List.{list_all}
use Rattle.ic_term.specs.Symbol.{is_tree_over}
use Rattle.ic_term.specs.Term.{tree}
use Rattle.ic_term.proofs.arities.terms_over.Given as goal

-- the answer is that of those left
abbrev pub invariant-loop-term : goal.invariant-loop-term
invariant-loop-term l = list_all (is_tree_over l.symbols) (map tree (drop l.term-index l.terms)) ≡ list_all (is_tree_over l.symbols) (map tree l.terms)
