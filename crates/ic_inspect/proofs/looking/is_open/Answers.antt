use Rattle.ic_inspect.proofs.FieldLemmas.{gate_read}
use Rattle.ic_inspect.proofs.looking.is_open.Goals as goal

pub returns : goal.returns
returns c = gate_read c.args.at c.args.file.now c.requires
