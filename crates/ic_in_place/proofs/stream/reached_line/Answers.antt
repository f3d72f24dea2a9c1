use Rattle.ic_in_place.proofs.stream.reached_line.Goals as goal

pub stopped_line-requires : goal.stopped_line-requires
stopped_line-requires g c = (c.args.bounds, c.in_ok-stopped.ensures)

pub returns-clause-line : goal.returns-clause-line
returns-clause-line g c = record {
  system = c.in-Ok.found;
  reads = rw c.deref.ensures.value at c.in-Ok.ensures.read;
  ends = (c.in_ok-answer.ensures.of c.args.bounds c.in_ok-stopped.ensures).0;
}
