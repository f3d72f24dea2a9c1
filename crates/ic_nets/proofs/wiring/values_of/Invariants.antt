use Rattle.std.proofs.Common.{◌≡◌, ◌++◌, map, drop}
use Rattle.ic_nets.proofs.wiring.values_of.Given as goal

-- what is listed, and what is left to list
abbrev pub invariant-loop-wire : goal.invariant-loop-wire
invariant-loop-wire l = l.listed.items ++ map (λ w. w.1) (drop l.wire-index l.wires) ≡ map (λ w. w.1) l.wires
