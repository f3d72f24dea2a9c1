use Rattle.ic_confluence.proofs.Shape.{one_text}
use Rattle.ic_confluence.proofs.laws.every_order_ends_in_one_answer.Goals as goal

pub returns : goal.returns
returns c = one_text
