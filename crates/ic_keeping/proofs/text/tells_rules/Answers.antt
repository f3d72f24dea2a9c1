use Rattle.std.proofs.Common.{◌∙◌, sym}
use Rattle.ic_keeping.proofs.text.tells_rules.Goals as goal

pub returns-in-Ok-clause-read : goal.returns-in-Ok-clause-read
returns-in-Ok-clause-read c = λ told. (c.in-Ok.system, c.in-Ok.ensures.read, sym c.rules.ensures.rules ∙ sym c.deref.ensures ∙ c.are_same.ensures.0 told)
