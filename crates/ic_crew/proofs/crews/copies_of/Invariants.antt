use Rattle.std.proofs.Common.{◌≡◌, map, take}
use Rattle.ic_round.specs.WorkViews.{work_of}
use Rattle.ic_crew.proofs.crews.copies_of.Given as goal

abbrev pub invariant-loop-work : goal.invariant-loop-work
invariant-loop-work l = map work_of l.copies.items ≡ map work_of (take l.work-index l.works)
