use Rattle.std.proofs.Common.{◌≡◌, ◌+◌, ◌-◌, ◌≤◌, length, is_some, count_by}
use Rattle.ic_round.specs.Firing.{rule_of_sides}
use Rattle.ic_flat_rules.specs.Standing.{pairs_at, AreInTwos}
use Rattle.ic_flat_round.proofs.activity.active_equations.Given as goal

-- those counted so far and those left are all
abbrev pub invariant-loop-place : goal.invariant-loop-place
invariant-loop-place l = record {
  few : l.count ≤ l.place;
  counted : l.count + count_by (λ e. is_some (rule_of_sides l.rules.rules e.left e.right)) (pairs_at l.words l.place)
      ≡ count_by (λ e. is_some (rule_of_sides l.rules.rules e.left e.right)) l.flat.equations;
  twos : AreInTwos l.words l.place;
  within : l.place ≤ length l.words;
}

abbrev pub decreases-loop-place : goal.decreases-loop-place
decreases-loop-place l = length l.words - l.place
