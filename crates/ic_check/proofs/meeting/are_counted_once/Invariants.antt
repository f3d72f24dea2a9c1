use Rattle.std.proofs.Common.{◌≡◌, ◌==◌, drop}
use Rattle.std.specs.List.{list_all}
use Rattle.ic_check.specs.inner.Tallies.{tallied}
use Rattle.ic_check.proofs.meeting.are_counted_once.Given as goal

-- those so far are
abbrev pub invariant-loop-name : goal.invariant-loop-name
invariant-loop-name l = list_all (λ n. tallied l.counts n == 1) (drop l.name-index l.names) ≡ list_all (λ n. tallied l.counts n == 1) l.names
