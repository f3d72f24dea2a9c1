use Rattle.ic_in_place.proofs.reducing.reduce_in_place.Goals as goal

pub returns : goal.returns
returns g c =
    let read = c.in_ok-reduced.ensures.read c.args.bounds c.in_ok-stopped.ensures in
    (read.0, read.1, read.2, read.3, read.4)
