use Rattle.std.proofs.Common.{◌≡◌, map, take}
use Rattle.ic_plans.proofs.compiling.arities_of.Given as goal

-- those of the symbols so far
abbrev pub invariant-loop-symbol : goal.invariant-loop-symbol
invariant-loop-symbol l = l.arities.items ≡ map (λ s. s.arity) (take l.symbol l.symbols)
