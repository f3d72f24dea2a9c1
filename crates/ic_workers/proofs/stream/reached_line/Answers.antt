use Rattle.ic_workers.proofs.stream.reached_line.Goals as goal

pub returns-clause-line : goal.returns-clause-line
returns-clause-line g c = record { system = c.in-Ok.found; reads = rw c.deref.ensures.value at c.in-Ok.ensures.read; ends = c.in_ok-answer.ensures }
