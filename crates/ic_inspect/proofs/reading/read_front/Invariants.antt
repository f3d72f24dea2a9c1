use Rattle.std.proofs.Common.{◌≤◌, length}
use Rattle.std.specs.Io.KnownBytes.{Consumes}
use Rattle.ic_inspect.proofs.reading.read_front.Given as goal

-- the bytes so far were taken from the reader, and are no more than are read
abbrev pub invariant-loop : goal.invariant-loop
invariant-loop g l = Consumes (g.R.Read.remaining l.fn.reader) (g.R.Read.remaining l.reader) l.front.items × (length l.front.items ≤ l.limit)
