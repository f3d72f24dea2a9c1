use Rattle.ic_slots.proofs.HeldLemmas.{only_one}
use Rattle.ic_slots.proofs.laws.one_is_held.Goals as goal

pub returns : goal.returns
returns c = only_one c.each_table_has_its_own_bytes.ensures.either
