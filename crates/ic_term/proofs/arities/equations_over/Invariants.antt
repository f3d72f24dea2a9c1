use Rattle.std.proofs.Common.{◌≡◌, map, drop}
use Rattle.std.specs.List.{list_all}
use Rattle.ic_term.specs.Symbol.{is_pair_over}
use Rattle.ic_term.specs.Term.{pair}
use Rattle.ic_term.proofs.arities.equations_over.Given as goal

-- the answer is that of those left
abbrev pub invariant-loop-equation : goal.invariant-loop-equation
invariant-loop-equation l = list_all (is_pair_over l.symbols) (map pair (drop l.equation-index l.equations)) ≡ list_all (is_pair_over l.symbols) (map pair l.equations)
