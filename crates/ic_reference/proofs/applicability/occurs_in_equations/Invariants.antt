use Rattle.std.proofs.Common.{◌≡◌, drop, map}
use Rattle.std.specs.List.{flat_map}
use Rattle.ic_term.specs.Tree.{pair_names}
use Rattle.ic_term.specs.Term.{pair}
use Rattle.ic_settle.specs.Settling.{occurs}
use Rattle.ic_reference.proofs.applicability.occurs_in_equations.Given as goal

-- the name occurs in what is left where it occurs in the whole
abbrev pub invariant-loop-equation : goal.invariant-loop-equation
invariant-loop-equation l =
    occurs l.name (flat_map pair_names (map pair (drop l.equation-index l.equations))) ≡ occurs l.name (flat_map pair_names (map pair l.equations))
