use Rattle.std.proofs.Common.{◌≡◌, map, drop}
use Rattle.ic_disk.specs.inner.Noted.{call_of}
use Rattle.ic_disk.specs.Crash.{fronted}
use Rattle.ic_disk.specs.inner.Writes.{writes_of}
use Rattle.ic_disk.proofs.noted.lay_front.Given as goal

-- what is left of the bytes and the writes gives what all of them give
abbrev pub invariant-loop-call : goal.invariant-loop-call
invariant-loop-call l =
    fronted l.left (writes_of (map call_of (drop l.call-index l.calls))) l.content.items ≡ fronted l.fn.left (writes_of (map call_of l.calls)) l.fn.content.items
