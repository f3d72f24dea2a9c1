use Rattle.std.proofs.Common.{◌≡◌, map, drop}
use Rattle.ic_disk.specs.inner.Noted.{call_of}
use Rattle.ic_disk.specs.inner.Writes.{laid_all, writes_of}
use Rattle.ic_disk.proofs.noted.lay_all.Given as goal

-- what is left of the writes, laid over the content as it is, gives what all of them give
abbrev pub invariant-loop-call : goal.invariant-loop-call
invariant-loop-call l =
    laid_all (writes_of (map call_of (drop l.call-index l.calls))) l.content.items ≡ laid_all (writes_of (map call_of l.calls)) l.fn.content.items
