use Rattle.std.proofs.Common.{◌≡◌, ◌+◌, ◌≤◌, false, drop}
use Rattle.ic_batch.proofs.NumberLemmas.{number_from}
use Rattle.ic_batch.proofs.reading.line_after.Given as goal

-- the number is that of the bytes that are left
abbrev pub invariant-loop-byte : goal.invariant-loop-byte
invariant-loop-byte l =
    (number_from (drop l.byte-index l.text) l.left l.is_begun l.line ≡ number_from l.text l.many false 1) × (l.line ≤ l.byte-index + 1)
