use Rattle.std.proofs.Common.{◌≡◌, map, take}
use Rattle.ic_round.specs.Works.{result_of}
use Rattle.ic_round.specs.WorkViews.{work_of, fired_of}
use Rattle.ic_crew.proofs.Matches.{TakenSoFar}
use Rattle.ic_crew.proofs.matching.match_each.Given as goal

-- the products so far, and the answers that are left
abbrev pub invariant-loop-work : goal.invariant-loop-work
invariant-loop-work l =
    (map fired_of l.results.items ≡ map (result_of l.rules.rules) (map work_of (take l.work-index l.works)))
    × TakenSoFar l.rules (map work_of l.works) l.fn.answers.items l.left.items l.work-index
