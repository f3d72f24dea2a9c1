use Rattle.std.proofs.Common.{◌≡◌, ◌-◌, ◌≤◌, length}
use Rattle.std.specs.List.{list_any}
use Rattle.ic_settle.specs.lemmas.Ended.{has_applicable}
use Rattle.ic_flat_rules.specs.Standing.{pairs_at, AreInTwos}
use Rattle.ic_flat_rules.proofs.ended.any_applicable.Given as goal

-- the answer is that of the equations left
abbrev pub invariant-loop-place : goal.invariant-loop-place
invariant-loop-place l = record {
  same : list_any (has_applicable l.names) (pairs_at l.words l.place) ≡ list_any (has_applicable l.names) l.flat.equations;
  twos : AreInTwos l.words l.place;
  within : l.place ≤ length l.words;
}

abbrev pub decreases-loop-place : goal.decreases-loop-place
decreases-loop-place l = length l.words - l.place
