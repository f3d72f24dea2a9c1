use Rattle.ic_inspect.proofs.HeldLemmas.{newest_seen}
use Rattle.ic_inspect.proofs.seen.Looked.newest.Goals as goal

pub returns : goal.returns
returns c = λ file is.
    let law = c.a_slot_is_open_or_whole.ensures in
    let looked = c.args.self.now in
    rw c.newest_of.ensures (newest_seen law.opened law.whole file looked.first looked.second is.0 is.1)
