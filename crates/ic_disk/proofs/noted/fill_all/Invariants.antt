use Rattle.std.proofs.Common.{◌≡◌, map, drop, length}
use Rattle.ic_disk.specs.inner.Noted.{call_of}
use Rattle.ic_disk.specs.inner.Writes.{EndWithin, filled_all, writes_of}
use Rattle.ic_disk.proofs.noted.fill_all.Given as goal

-- what is left of the writes gives what all of them give, and each of those ends within the content
abbrev pub invariant-loop-call : goal.invariant-loop-call
invariant-loop-call l = record {
  rest : filled_all l.byte (writes_of (map call_of (drop l.call-index l.calls))) l.content ≡ filled_all l.byte (writes_of (map call_of l.calls)) l.fn.content;
  within : EndWithin (length l.content) (writes_of (map call_of (drop l.call-index l.calls)));
}
