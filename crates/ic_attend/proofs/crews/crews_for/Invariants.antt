use Rattle.std.proofs.Common.{◌≡◌, vec_len}
use Rattle.ic_attend.proofs.crews.crews_for.Given as goal

abbrev pub invariant-loop : goal.invariant-loop
invariant-loop l = vec_len l.crews ≡ l.counter
