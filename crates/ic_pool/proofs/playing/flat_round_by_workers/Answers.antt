use Rattle.std.proofs.Common.{map, ap, ◌∙◌}
use Rattle.ic_round.specs.Plans.{planned}
use Rattle.ic_round.specs.Works.{result_of}
use Rattle.ic_round.specs.WorkViews.{work_of}
use Rattle.ic_pool.specs.lemmas.RoundAnswers.{planned_fits, planned_is, round_answered}
use Rattle.ic_pool.proofs.playing.flat_round_by_workers.Goals as goal

pub filled-requires-clause-results : goal.filled-requires-clause-results
filled-requires-clause-results g c =
    let rs = c.args.rules.now.rules in
    let flat = c.args.config.now in
    c.in_ok-results.ensures ∙ ap (λ ws. map (result_of rs) (map work_of ws)) c.in_ok-batches.ensures.works
    ∙ ap (map (result_of rs)) (planned_is rs flat (map work_of c.in_ok-works.works.items) (planned rs flat).works c.in_ok-works.ensures.works)

pub returns-clause-round : goal.returns-clause-round
returns-clause-round g c =
    let rs = c.args.rules.now.rules in
    let flat = c.args.config.now in
    round_answered rs flat c.in_ok-fired.fired c.in_ok-settle.field-0 (planned_fits rs flat (map work_of c.in_ok-works.works.items) (planned rs flat).works c.in_ok-works.ensures.works)
    c.in_ok-fired.ensures.fired c.in_ok-settle.ensures.settled

pub returns-clause-over : goal.returns-clause-over
returns-clause-over g c = c.in_ok-settle.ensures.over c.args.rules.now.symbols c.in_ok-fired.ensures.over
