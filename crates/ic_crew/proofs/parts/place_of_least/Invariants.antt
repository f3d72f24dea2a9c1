use Rattle.std.proofs.Common.{ℕ, ◌<◌, ◌≤◌, slice_index}
use Rattle.ic_crew.proofs.parts.place_of_least.Given as goal

-- the first of the least sizes so far
abbrev pub invariant-loop-i : goal.invariant-loop-i
invariant-loop-i l =
    (l.least < l.i)
    × ((k : ℕ) → k < l.least → slice_index l.sizes l.least < slice_index l.sizes k)
    × ((k : ℕ) → k < l.i → slice_index l.sizes l.least ≤ slice_index l.sizes k)
