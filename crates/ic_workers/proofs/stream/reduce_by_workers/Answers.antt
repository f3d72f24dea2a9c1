use Rattle.ic_workers.proofs.stream.reduce_by_workers.Goals as goal

pub returns : goal.returns
returns g c =
    let read = c.in_ok-reduced.ensures.read c.args.bounds c.in_ok-stopped.ensures in
    (read.0, read.1, read.2, read.3, read.4)
