use Rattle.std.proofs.Common.{cond, ap}
use Rattle.ic_naming.specs.Naming.{renumbered}
use Rattle.ic_dump.proofs.laws.names_of_texts_are_kept.Goals as goal

pub returns : goal.returns
returns c = λ config are. ap (λ b. cond b config (renumbered config)) are
