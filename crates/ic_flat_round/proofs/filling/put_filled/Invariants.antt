use Rattle.std.proofs.Common.{◌≡◌, ◌-◌, ◌≤◌, length, map}
use Rattle.std.specs.Vec.Iter.{into_iter_items, into_iter_len}
use Rattle.ic_round.specs.Firing.{fired_from, next_after}
use Rattle.ic_round.specs.WorkViews.{fired_of}
use Rattle.ic_flat_rules.specs.Standing.{pairs_at, AreInTwos}
use Rattle.ic_flat_round.proofs.FillingWords.{Fills}
use Rattle.ic_flat_round.proofs.filling.put_filled.Given as goal

-- what is put so far, and what the equations left give with the results left
abbrev pub invariant-loop-place : goal.invariant-loop-place
invariant-loop-place l = record {
  within : l.place ≤ length l.words;
  twos : AreInTwos l.words l.place;
  results_left : into_iter_len l.results ≡ length (into_iter_items l.results);
  fills :
      Fills l.rules.rules (fired_from l.rules.rules l.fn.next (pairs_at l.words l.fn.place)) (next_after l.rules.rules l.fn.next (pairs_at l.words l.fn.place))
      l.fn.out.items (map fired_of (into_iter_items l.results)) l.next l.equations l.out.items (pairs_at l.words l.place);
}

abbrev pub decreases-loop-place : goal.decreases-loop-place
decreases-loop-place l = length l.words - l.place
