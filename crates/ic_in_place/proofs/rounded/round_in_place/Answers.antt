use Rattle.std.proofs.lemmas.Result.{IfOk-weaker}
use Rattle.ic_in_place.proofs.rounded.round_in_place.Goals as goal

pub returns-in-Ok : goal.returns-in-Ok
returns-in-Ok g c =
    let made = c.in-Ok.ensures.made in
    c.read_rounded.ensures c.args.bounds.rounds c.args.enough made.0 made.1 made.2 made.3
