use Rattle.std.proofs.Common.{◌≡◌, vec_len}
use Rattle.ic_crew.proofs.crews.posts.Given as goal

abbrev pub invariant-loop : goal.invariant-loop
invariant-loop l = (vec_len l.lines ≡ l.counter) × (vec_len l.posts ≡ l.counter)
