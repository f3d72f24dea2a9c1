use Rattle.std.proofs.Common.{◌≡◌, ◌≤◌, []}
use Rattle.std.specs.Prelude.{vec_capacity}
use Rattle.std.specs.Io.KnownBytes.{Keeps}
use Rattle.ic_lines.proofs.buffer.Ahead.fill.Given as goal

-- nothing is taken from the reader yet, and there is room for what comes
abbrev pub invariant-loop : goal.invariant-loop
invariant-loop g l = record {
  kept : Keeps (g.R.Read.remaining l.fn.reader) (g.R.Read.remaining l.reader);
  empty : l.self-inside.bytes.items ≡ [];
  start : l.self-inside.start ≡ 0;
  room : 65536 ≤ vec_capacity l.self-inside.bytes;
}
