use Rattle.std.proofs.Common.{◌≡◌, drop, map}
use Rattle.std.specs.List.{flat_map}
use Rattle.ic_term.specs.Tree.{names}
use Rattle.ic_term.specs.Term.{tree}
use Rattle.ic_settle.specs.Settling.{occurs}
use Rattle.ic_reference.proofs.applicability.occurs_in_terms.Given as goal

-- the name occurs in what is left where it occurs in the whole
abbrev pub invariant-loop-term : goal.invariant-loop-term
invariant-loop-term l =
    occurs l.name (flat_map names (map tree (drop l.term-index l.terms))) ≡ occurs l.name (flat_map names (map tree l.terms))
