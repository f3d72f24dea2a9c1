use Rattle.ic_round.specs.Steps.{no_steps}
use Rattle.ic_promises.proofs.Chains.{settled_after}
use Rattle.ic_promises.proofs.wrong.firing.fires_only_the_first.Goals as goal

pub returns-in_ok-settle-in-Some-clause-reached : goal.returns-in_ok-settle-in-Some-clause-reached
returns-in_ok-settle-in-Some-clause-reached c =
    settled_after c.args.rules.now.rules c.args.config c.in-Some.fired c.in_ok-settle-in-Some.field-0
    c.in-Some.ensures.reached c.in_ok-settle-in-Some.ensures.settled

pub returns-in_ok-settle-in-None-clause-reached : goal.returns-in_ok-settle-in-None-clause-reached
returns-in_ok-settle-in-None-clause-reached c =
    settled_after c.args.rules.now.rules c.args.config c.args.config c.in_ok-settle-in-None.field-0
    (no_steps c.args.config) c.in_ok-settle-in-None.ensures.settled
