use Rattle.ic_dump.proofs.Choosing.{missing_first, missing_none}
use Rattle.ic_dump.proofs.laws.the_first_missing_name_is_told.Goals as goal

pub returns : goal.returns
returns c = record { first = missing_first; none = missing_none }
