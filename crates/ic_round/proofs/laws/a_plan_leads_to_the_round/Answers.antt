use Rattle.ic_round.specs.lemmas.RoundLemmas.{plan_completes}
use Rattle.ic_round.proofs.laws.a_plan_leads_to_the_round.Goals as goal

pub returns : goal.returns
returns c = plan_completes
