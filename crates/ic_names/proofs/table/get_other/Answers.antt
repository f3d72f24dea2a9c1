use Rattle.std.proofs.Common.{◌∙◌}
use Rattle.ic_names.proofs.table.get_other.Goals as goal

pub returns : goal.returns
returns c = c.copied.ensures ∙ c.get.ensures.value
