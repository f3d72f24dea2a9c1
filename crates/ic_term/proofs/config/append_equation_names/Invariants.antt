use Rattle.std.proofs.Common.{◌≡◌, ◌++◌, map, drop}
use Rattle.std.specs.List.{flat_map}
use Rattle.ic_term.specs.Tree.{pair_names}
use Rattle.ic_term.specs.Term.{pair}
use Rattle.ic_term.proofs.config.append_equation_names.Given as goal

-- what is appended so far and the names of what is left are those of all
abbrev pub invariant-loop-equation : goal.invariant-loop-equation
invariant-loop-equation l =
    l.names.items ++ flat_map pair_names (map pair (drop l.equation-index l.equations)) ≡ l.fn.names.items ++ flat_map pair_names (map pair l.equations)
