use Rattle.std.proofs.Common.{refl}
use Rattle.ic_expand.proofs.laws.one_text_is_written_so.Goals as goal

pub returns : goal.returns
returns c = record { written = refl }
