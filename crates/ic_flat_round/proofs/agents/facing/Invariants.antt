use Rattle.std.proofs.Common.{◌≡◌, ◌-◌, ◌≤◌, length}
use Rattle.ic_flat_round.specs.Facing.{first_facing}
use Rattle.ic_flat_rules.specs.Standing.{pairs_at, AreInTwos}
use Rattle.ic_flat_round.proofs.agents.facing.Given as goal

-- the answer is that of the equations left
abbrev pub invariant-loop-place : goal.invariant-loop-place
invariant-loop-place l = record {
  same : first_facing (pairs_at l.words l.place) ≡ first_facing l.flat.equations;
  twos : AreInTwos l.words l.place;
  within : l.place ≤ length l.words;
}

abbrev pub decreases-loop-place : goal.decreases-loop-place
decreases-loop-place l = length l.words - l.place
