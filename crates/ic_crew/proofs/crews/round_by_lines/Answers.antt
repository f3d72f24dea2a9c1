use Rattle.std.proofs.Common.{map, sym, ap, ◌∙◌}
use Rattle.ic_term.specs.Symbol.{is_over}
use Rattle.ic_rules.specs.RuleSet.{Rules}
use Rattle.ic_round.specs.Plans.{planned}
use Rattle.ic_round.specs.Works.{result_of}
use Rattle.ic_round.specs.WorkViews.{work_of}
use Rattle.ic_pool.specs.Workers.{round_or_refusal}
use Rattle.ic_pool.specs.lemmas.RoundAnswers.{planned_fits, planned_is, round_answered}
use Rattle.ic_crew.proofs.crews.round_by_lines.Goals as goal

pub filled-requires-clause-results : goal.filled-requires-clause-results
filled-requires-clause-results g c =
    let rs = c.deref-known.result.now.rules in
    let flat = c.args.config.now in
    c.in_ok-results.ensures.results ∙ ap (λ (r : Rules). map (result_of r.rules) (map work_of c.in_ok-works.works.items)) (sym c.deref-known.ensures)
    ∙ ap (map (result_of rs)) (planned_is rs flat (map work_of c.in_ok-works.works.items) (planned rs flat).works c.in_ok-works.ensures.works)

pub returns-clause-round : goal.returns-clause-round
returns-clause-round g c =
    let rs = c.deref-known.result.now.rules in
    let flat = c.args.config.now in
    round_answered rs flat c.in_ok-fired.fired c.in_ok-settle.field-0 (planned_fits rs flat (map work_of c.in_ok-works.works.items) (planned rs flat).works c.in_ok-works.ensures.works)
    c.in_ok-fired.ensures.fired c.in_ok-settle.ensures.settled
    ∙ ap (λ (r : Rules). round_or_refusal r.rules flat) c.deref-known.ensures

pub returns-clause-over : goal.returns-clause-over
returns-clause-over g c =
    ap (λ (r : Rules). is_over r.symbols c.in_ok-settle.field-0) (sym c.deref-known.ensures)
    ∙ c.in_ok-settle.ensures.over c.deref-known.result.now.symbols c.in_ok-fired.ensures.over
