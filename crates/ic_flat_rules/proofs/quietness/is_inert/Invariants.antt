use Rattle.std.proofs.Common.{◌≡◌, ◌-◌, ◌≤◌, length, is_none}
use Rattle.std.specs.List.{list_all}
use Rattle.ic_round.specs.Firing.{active_pair}
use Rattle.ic_round.specs.Quiet.{is_inert}
use Rattle.ic_flat_rules.specs.Standing.{pairs_at, AreInTwos}
use Rattle.ic_flat_rules.proofs.quietness.is_inert.Given as goal

-- the answer is that of the equations left
abbrev pub invariant-loop-place : goal.invariant-loop-place
invariant-loop-place l = record {
  same : list_all (λ p. is_none (active_pair l.rules.rules p)) (pairs_at l.words l.place) ≡ is_inert l.rules.rules l.flat;
  twos : AreInTwos l.words l.place;
  within : l.place ≤ length l.words;
}

abbrev pub decreases-loop-place : goal.decreases-loop-place
decreases-loop-place l = length l.words - l.place
