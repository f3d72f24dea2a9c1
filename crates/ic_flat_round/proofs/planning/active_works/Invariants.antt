use Rattle.std.proofs.Common.{◌-◌, ◌≤◌, length, map}
use Rattle.ic_round.specs.Firing.{fired}
use Rattle.ic_round.specs.Works.{works_from}
use Rattle.ic_round.specs.WorkViews.{work_of}
use Rattle.ic_flat_rules.specs.Standing.{pairs_at, AreInTwos}
use Rattle.ic_flat_round.proofs.ActiveWorks.{Takes}
use Rattle.ic_flat_round.proofs.planning.active_works.Given as goal

-- the works so far, and those of the equations left
abbrev pub invariant-loop-place : goal.invariant-loop-place
invariant-loop-place l = record {
  within : l.place ≤ length l.words;
  twos : AreInTwos l.words l.place;
  few : l.number ≤ l.place;
  takes :
      Takes l.rules.rules (works_from l.rules.rules 0 l.flat.next l.flat.equations) (fired l.rules.rules l.flat).next
      (map work_of l.works.items) l.number l.next (pairs_at l.words l.place);
}

abbrev pub decreases-loop-place : goal.decreases-loop-place
decreases-loop-place l = length l.words - l.place
