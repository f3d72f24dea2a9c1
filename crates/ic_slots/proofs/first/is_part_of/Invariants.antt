use Rattle.std.proofs.Common.{◌≡◌, ◌⊎◌, ℕ, ◌<◌, get_or}
use Rattle.ic_slots.proofs.first.is_part_of.Given as goal

abbrev pub invariant-loop-i : goal.invariant-loop-i
invariant-loop-i l = (k : ℕ) → k < l.i → (get_or l.file k 0 ≡ 0) ⊎ (get_or l.file k 0 ≡ get_or l.bytes k 0)
