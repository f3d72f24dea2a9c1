use Rattle.ic_round.specs.Steps.{no_steps}
use Rattle.ic_promises.proofs.Chains.{fired_after}
use Rattle.ic_promises.proofs.wrong.firing.first_fired.Goals as goal

pub returns-in-Ok-clause-reached : goal.returns-in-Ok-clause-reached
returns-in-Ok-clause-reached c =
    fired_after c.args.rules.now.rules c.args.config.now c.args.config.now c.in-Ok.after c.loop-place.place
    (no_steps c.args.config.now) c.in-Ok.ensures.step
