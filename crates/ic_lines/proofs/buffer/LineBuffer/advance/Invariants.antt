use Rattle.std.proofs.Common.{◌≡◌, ◌++◌, []}
use Rattle.std.specs.Io.KnownBytes.{Consumes, Keeps}
use Rattle.ic_lines.specs.Taking.{to_come}
use Rattle.ic_lines.specs.inner.Front.{IsFront}
use Rattle.ic_lines.proofs.buffer.LineBuffer.advance.Given as goal

-- what has come of the line, and what stands ahead, are what came first of the bytes to come
abbrev pub invariant-loop : goal.invariant-loop
invariant-loop g l = record {
  begun : Consumes (to_come l.fn.self (g.R.Read.remaining l.fn.reader)) (g.R.Read.remaining l.reader) (l.self-inside.front.items ++ l.self-inside.ahead);
  front : IsFront l.self-inside.front.items;
  empty : l.self-inside.line.items ≡ [];
  kept : Keeps (g.W.Write.contents l.fn.writer) (g.W.Write.contents l.writer);
}
