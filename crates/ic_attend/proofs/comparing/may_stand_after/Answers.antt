use Rattle.ic_attend.proofs.Exact.{stands_after}
use Rattle.ic_attend.proofs.comparing.may_stand_after.Goals as goal

pub returns-then-are_rounds : goal.returns-then-are_rounds
returns-then-are_rounds c =
    let cut = c.in-Some.ensures.cases in
    let is = stands_after c.args.runs.now c.args.entries.now c.in-Some.front.now c.in-Some.last.now cut.0 in
    (λ yes. is.1 (c.are_rounds.ensures.0 c.if-are_rounds.true, c.may_be_last.ensures.0 yes), λ may. c.may_be_last.ensures.1 (is.0 may).1)
