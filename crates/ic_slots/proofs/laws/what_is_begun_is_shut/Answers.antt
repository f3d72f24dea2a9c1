use Rattle.ic_slots.proofs.UnusedLemmas.{begun_shut}
use Rattle.ic_slots.proofs.laws.what_is_begun_is_shut.Goals as goal

pub returns : goal.returns
returns c file begun =
    c.the_newest_slot_is_held.ensures.shut file (begun_shut c.a_slot_is_open_or_whole.ensures.opened file begun)
