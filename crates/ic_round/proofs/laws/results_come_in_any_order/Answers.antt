use Rattle.ic_round.specs.lemmas.AnyOrder.{any_order}
use Rattle.ic_round.proofs.laws.results_come_in_any_order.Goals as goal

pub returns : goal.returns
returns c = any_order
