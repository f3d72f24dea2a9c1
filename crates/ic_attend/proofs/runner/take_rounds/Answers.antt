use Rattle.std.proofs.Common.{sym, ap, ◌∙◌}
use Rattle.ic_attend.proofs.runner.take_rounds.Goals as goal

pub returns-in-Err-make_round-clause-end : goal.returns-in-Err-make_round-clause-end
returns-in-Err-make_round-clause-end g c = c.in-Err-make_round.ensures.end c.args.duty.turns c.args.duty.workers c.loop.invariant.1

pub loop-preserved-in-Ok-Some : goal.loop-preserved-in-Ok-Some
loop-preserved-in-Ok-Some g c = ((tt, tt), c.in-Ok.ensures.ready c.args.duty.workers c.loop.invariant.1, c.may_take.ensures.most)

pub returns-then-not-may_take-clause-end : goal.returns-then-not-may_take-clause-end
returns-then-not-may_take-clause-end g c = (c.may_take.ensures.used_up c.if-not-may_take.true).1

pub returns-in-Err-make_round-clause-used : goal.returns-in-Err-make_round-clause-used
returns-in-Err-make_round-clause-used g c = λ count is. absurd (c.in-Err-make_round.ensures.refusal count is)
