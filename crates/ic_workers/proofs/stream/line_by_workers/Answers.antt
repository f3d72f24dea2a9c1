use Rattle.ic_workers.proofs.stream.line_by_workers.Goals as goal

pub stopped_line-requires : goal.stopped_line-requires
stopped_line-requires g c = (c.args.bounds, c.in_ok-stopped.ensures)

pub returns : goal.returns
returns g c = (c.in_ok-answer.ensures.of c.args.bounds c.in_ok-stopped.ensures).0
