use Rattle.std.proofs.Common.{◌≡◌, drop}
use Rattle.ic_check.specs.Faults.{first_of}
use Rattle.ic_check.proofs.texts.first_byte.Given as goal

-- the first of those left is the first of all
abbrev pub invariant-loop-byte : goal.invariant-loop-byte
invariant-loop-byte l = record { first : first_of (drop l.byte-index l.text) ≡ first_of l.text }
