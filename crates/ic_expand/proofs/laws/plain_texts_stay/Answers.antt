use Rattle.ic_expand.proofs.Cutting.{concat-pieces}
use Rattle.ic_expand.proofs.Plain.{plain-expanded}
use Rattle.ic_expand.proofs.laws.plain_texts_stay.Goals as goal

pub returns : goal.returns
returns c = record { whole = concat-pieces; plain = plain-expanded }
