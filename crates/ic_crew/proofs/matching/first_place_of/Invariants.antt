use Rattle.std.proofs.Common.{◌≡◌, take}
use Rattle.ic_round.specs.WorkViews.{work_of}
use Rattle.ic_crew.specs.Matching.{answers_to}
use Rattle.ic_crew.proofs.matching.first_place_of.Given as goal

-- none of the answers so far is to this work
abbrev pub invariant-loop-place : goal.invariant-loop-place
invariant-loop-place l = answers_to l.rules (work_of l.work) (take l.place l.answers) ≡ 0
