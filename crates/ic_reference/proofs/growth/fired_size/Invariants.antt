use Rattle.std.proofs.Common.{map, drop}
use Rattle.ic_term.specs.Term.{pair}
use Rattle.ic_round.specs.lemmas.SizeSoFar.{SizeSoFar}
use Rattle.ic_reference.proofs.growth.fired_size.Given as goal

-- the sizes so far, and those of the equations left
abbrev pub invariant-loop-equation : goal.invariant-loop-equation
invariant-loop-equation l = SizeSoFar l.rules l.config l.nodes l.names (map pair (drop l.equation-index l.equation-items))
