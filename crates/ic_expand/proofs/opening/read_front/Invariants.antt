use Rattle.std.specs.Io.KnownBytes.{Consumes}
use Rattle.ic_expand.proofs.opening.read_front.Given as goal

-- the front so far was taken from the reader
abbrev pub invariant-loop : goal.invariant-loop
invariant-loop g l = Consumes (g.R.Read.remaining l.fn.reader) (g.R.Read.remaining l.reader) l.front.items
