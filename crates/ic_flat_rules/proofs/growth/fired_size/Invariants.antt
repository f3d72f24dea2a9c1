use Rattle.std.proofs.Common.{◌-◌, ◌≤◌, length}
use Rattle.ic_round.specs.lemmas.SizeSoFar.{SizeSoFar}
use Rattle.ic_flat_rules.specs.Standing.{pairs_at, AreInTwos}
use Rattle.ic_flat_rules.proofs.growth.fired_size.Given as goal

-- the sizes so far, and those of the equations left
abbrev pub invariant-loop-place : goal.invariant-loop-place
invariant-loop-place l = record {
  size : SizeSoFar l.rules l.flat l.nodes l.names (pairs_at l.words l.place);
  twos : AreInTwos l.words l.place;
  within : l.place ≤ length l.words;
}

abbrev pub decreases-loop-place : goal.decreases-loop-place
decreases-loop-place l = length l.words - l.place
