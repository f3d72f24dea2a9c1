use Rattle.ic_disk.proofs.CrashLemmas.{takes_one}
use Rattle.ic_disk.proofs.laws.choice_takes_one.Goals as goal

pub returns : goal.returns
returns c = takes_one
