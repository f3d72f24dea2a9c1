use Rattle.std.proofs.Common.{◌≡◌, ◌++◌, drop, map}
use Rattle.std.specs.List.{flat_map}
use Rattle.ic_term.specs.Term.{tree}
use Rattle.ic_confluence.specs.Agents.{symbols}
use Rattle.ic_check.proofs.symbols.put_terms.Given as goal

-- what is appended so far and the symbols of what is left are those of the whole
abbrev pub invariant-loop-term : goal.invariant-loop-term
invariant-loop-term l = record {
  whole : l.out.items ++ flat_map symbols (map tree (drop l.term-index l.terms)) ≡ l.fn.out.items ++ flat_map symbols (map tree l.terms);
}
