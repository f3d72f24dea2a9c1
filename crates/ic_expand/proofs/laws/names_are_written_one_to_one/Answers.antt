use Rattle.ic_expand.proofs.Renamings.{each_noted, text_renames}
use Rattle.ic_expand.proofs.laws.names_are_written_one_to_one.Goals as goal

pub returns : goal.returns
returns c = record { renamed = text_renames; all = each_noted }
