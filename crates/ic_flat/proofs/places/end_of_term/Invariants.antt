use Rattle.std.proofs.Common.{◌-◌, length}
use Rattle.ic_flat.proofs.PlaceLemmas.{IsDue}
use Rattle.ic_flat.proofs.places.end_of_term.Given as goal

abbrev pub invariant-loop-due : goal.invariant-loop-due
invariant-loop-due l = IsDue l.words l.place l.end l.due

abbrev pub decreases-loop-due : goal.decreases-loop-due
decreases-loop-due l = length l.initial.words - l.end
