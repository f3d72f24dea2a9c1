use Rattle.std.proofs.Common.{◌∙◌, sym}
use Rattle.ic_expand.proofs.Steps.{called}
use Rattle.ic_expand.proofs.names.names_of.Goals as goal

pub loop-rest-preserved-in_ok-add : goal.loop-rest-preserved-in_ok-add
loop-rest-preserved-in_ok-add c =
    let more = c.split_piece.result.1.now in
    let found = called c.loop-rest.names c.args.spelling c.loop-rest.spot c.split_piece.result.0.now more c.loop-rest.rest.now c.split_piece.ensures.pieces (sym c.is_named.ensures ∙ c.if-is_named.true) in
    rw (c.in_ok-add.ensures, c.after-next.ensures) (sym found ∙ c.loop-rest.invariant)
