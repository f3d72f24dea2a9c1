use Rattle.std.proofs.lemmas.Result.{IfOk-weaker}
use Rattle.ic_keeping.proofs.ByRounds.{made_by_rounds, made_by_threads}
use Rattle.ic_keeping.proofs.going.Run.reduce_piece.Goals as goal

pub returns-in-Some-clause-made : goal.returns-in-Some-clause-made
returns-in-Some-clause-made g c =
    IfOk-weaker c.round_in_place.result _ _
    (λ made is. made_by_rounds c.args.system c.args.bounds c.args.self.now.rounds c.args.bounds.steps c.in-Some.over c.saturating_sub.result c.args.rounds made.0 made.1 c.in-Some.is c.saturating_sub.ensures is)
    c.round_in_place.ensures

pub returns-in_ok-reduced-in-None-clause-made : goal.returns-in_ok-reduced-in-None-clause-made
returns-in_ok-reduced-in-None-clause-made g c = made_by_threads c.args.system c.args.bounds c.args.self.now.rounds c.args.rounds c.in_ok-reduced-in-None.reduced c.in-None.is c.in_ok-reduced-in-None.ensures
