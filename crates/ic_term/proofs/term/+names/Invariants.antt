use Rattle.std.proofs.Common.{◌≡◌, ◌++◌, drop, map}
use Rattle.ic_term.specs.Tree.{names, names_of, trees_of}
use Rattle.ic_term.specs.Term.{tree, cell_tree}
use Rattle.ic_term.proofs.term.+names.Given as goal

-- what is appended so far and the names of what is left are those of the whole
abbrev pub invariant-Cell::append_names-loop-term : goal.invariant-Cell::append_names-loop-term
invariant-Cell::append_names-loop-term l =
    l.list.items ++ names_of (trees_of (map tree (drop l.term-index l.term-items))) ≡ l.fn.list.items ++ names (cell_tree l.self)
