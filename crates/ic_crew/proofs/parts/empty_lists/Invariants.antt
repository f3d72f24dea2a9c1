use Rattle.std.proofs.Common.{◌≡◌, [], map, replicate, vec_len}
use Rattle.ic_crew.specs.WorkLists.{works_of}
use Rattle.ic_crew.proofs.parts.empty_lists.Given as goal

abbrev pub invariant-loop : goal.invariant-loop
invariant-loop l = (map works_of l.lists.items ≡ replicate l.counter []) × (vec_len l.lists ≡ l.counter)
