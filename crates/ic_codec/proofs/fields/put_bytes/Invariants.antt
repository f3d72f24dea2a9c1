use Rattle.std.proofs.Common.{drop}
use Rattle.ic_codec.specs.inner.Room.{GoesOn}
use Rattle.ic_codec.proofs.fields.put_bytes.Given as goal

-- the bytes after these are left
abbrev pub invariant-loop-byte : goal.invariant-loop-byte
invariant-loop-byte l = GoesOn l.fn.out l.bytes l.out (drop l.byte-index l.bytes)
