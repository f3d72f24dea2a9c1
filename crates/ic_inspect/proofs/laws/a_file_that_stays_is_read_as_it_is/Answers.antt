use Rattle.ic_inspect.proofs.StaysLemmas.{stays_read, stays_served, stays_unchanged}
use Rattle.ic_inspect.proofs.laws.a_file_that_stays_is_read_as_it_is.Goals as goal

pub returns : goal.returns
returns c =
    let whole = c.a_slot_is_open_or_whole.ensures.whole in
    record { read = stays_read whole; unchanged = stays_unchanged; served = stays_served }
