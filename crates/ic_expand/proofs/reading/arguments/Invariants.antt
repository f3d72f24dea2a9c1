use Rattle.std.proofs.Common.{◌≡◌, drop}
use Rattle.ic_expand.specs.inner.Ahead.{arguments_by}
use Rattle.ic_expand.proofs.reading.arguments.Given as goal

-- only blanks stand before the place
abbrev pub invariant-loop-byte : goal.invariant-loop-byte
invariant-loop-byte l = arguments_by l.count (drop l.byte-index l.text) ≡ arguments_by l.count l.text
