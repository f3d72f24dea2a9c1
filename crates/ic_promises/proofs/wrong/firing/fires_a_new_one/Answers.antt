use Rattle.ic_promises.proofs.Chains.{fired_after, settled_after}
use Rattle.ic_promises.proofs.wrong.firing.fires_a_new_one.Goals as goal

pub returns-in_ok-settle-in-Ok-clause-reached : goal.returns-in_ok-settle-in-Ok-clause-reached
returns-in_ok-settle-in-Ok-clause-reached c =
    settled_after c.args.rules.now.rules c.args.config c.in-Ok.further c.in_ok-settle-in-Ok.field-0
    (fired_after c.args.rules.now.rules c.args.config c.in_ok-after.after c.in-Ok.further 0 c.in_ok-after.ensures.reached c.in-Ok.ensures.step)
    c.in_ok-settle-in-Ok.ensures.settled
