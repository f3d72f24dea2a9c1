use Rattle.std.proofs.Common.{◌≡◌, ◌++◌, drop, map}
use Rattle.std.specs.List.{flat_map}
use Rattle.ic_term.specs.Term.{pair}
use Rattle.ic_confluence.specs.Agents.{pair_symbols}
use Rattle.ic_check.proofs.symbols.put_equations.Given as goal

-- what is appended so far and the symbols of what is left are those of the whole
abbrev pub invariant-loop-equation : goal.invariant-loop-equation
invariant-loop-equation l = record {
  whole : l.out.items ++ flat_map pair_symbols (map pair (drop l.equation-index l.equations)) ≡ l.fn.out.items ++ flat_map pair_symbols (map pair l.equations);
}
