use Rattle.ic_naming.proofs.Forgetting.{renumbered-renamed}
use Rattle.ic_naming.proofs.laws.what_is_renumbered_forgets_names.Goals as goal

pub returns : goal.returns
returns c = renumbered-renamed
