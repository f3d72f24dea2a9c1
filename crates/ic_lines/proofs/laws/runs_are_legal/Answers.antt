use Rattle.ic_jobs.specs.declared.event.Event.TheVariants.{Round}
use Rattle.ic_lines.proofs.TurnLemmas.{turns_legal}
use Rattle.ic_lines.proofs.laws.runs_are_legal.Goals as goal

pub returns : goal.returns
returns c = λ k place t sound.
    let h = turns_legal c.what_is_due_is_awaited.ensures.due (λ u name is. c.events_leave_tables.ensures u (Round name) is tt) k place t sound in
    (h.history, h.legal, h.events, h.leaves)
