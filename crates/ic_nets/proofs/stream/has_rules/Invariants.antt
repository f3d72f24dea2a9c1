use Rattle.std.proofs.Common.{◌≡◌, drop}
use Rattle.ic_nets.specs.Draws.{has_rules}
use Rattle.ic_nets.proofs.stream.has_rules.Given as goal

-- those left decide
abbrev pub invariant-loop-byte : goal.invariant-loop-byte
invariant-loop-byte l = has_rules (drop l.byte-index l.text) ≡ has_rules l.text
