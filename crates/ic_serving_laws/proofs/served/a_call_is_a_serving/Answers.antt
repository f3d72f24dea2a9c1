use Rattle.ic_serving_laws.proofs.ServingLemmas.{call_serves}
use Rattle.ic_serving_laws.proofs.served.a_call_is_a_serving.Goals as goal

pub returns : goal.returns
returns g c limit = call_serves limit c.args.old.now c.args.new.now
