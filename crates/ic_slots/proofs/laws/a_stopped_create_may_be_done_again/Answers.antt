use Rattle.std.proofs.Common.{inl, inr, ⊎_elim}
use Rattle.ic_slots.proofs.StoppedLemmas.{stopped_left}
use Rattle.ic_slots.proofs.laws.a_stopped_create_may_be_done_again.Goals as goal

pub returns-clause-left : goal.returns-clause-left
returns-clause-left g file is =
    stopped_left g.a_slot_is_its_bytes.ensures.written g.a_slot_is_open_or_whole.ensures.opened g.the_newest_table_is_held.ensures.held file is

pub returns-clause-unused : goal.returns-clause-unused
returns-clause-unused g file is =
    ⊎_elim (λ begun. inr begun) (λ holds. inl holds.held) (returns-clause-left g file is)
