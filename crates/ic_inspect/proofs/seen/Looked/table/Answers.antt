use Rattle.ic_inspect.specs.inner.Held.{held_of}
use Rattle.ic_inspect.proofs.HeldLemmas.{seen_held, told_table}
use Rattle.ic_inspect.proofs.seen.Looked.table.Goals as goal

pub returns : goal.returns
returns c = λ file is.
    let slots = c.a_slot_is_open_or_whole.ensures in
    let law = c.the_newest_slot_is_held.ensures in
    let looked = c.args.self.now in
    let held = seen_held slots.opened slots.whole law.shut law.alike law.damaged c.the_newest_table_is_held.ensures.held c.the_newest_table_is_held.ensures.spoiled file looked.first looked.second is.0 is.1 in
    rw c.seen_table.ensures (told_table c.one_is_held.ensures (held_of looked.first looked.second) file held)
