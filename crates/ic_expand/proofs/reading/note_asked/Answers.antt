use Rattle.std.proofs.Common.{◌∙◌, map, sym}
use Rattle.ic_expand.specs.inner.Sheets.{symbol_in}
use Rattle.ic_expand.proofs.Steps.{asked_more}
use Rattle.ic_expand.proofs.reading.note_asked.Goals as goal

pub loop-rest-preserved : goal.loop-rest-preserved
loop-rest-preserved c =
    let more = c.split_piece.result.1.now in
    let found = asked_more (map symbol_in c.loop-rest.symbols.items) c.loop-rest.spot c.split_piece.result.0.now more c.loop-rest.rest.now c.split_piece.ensures.pieces in
    record {
      symbols = rw (c.in_ok-note_at.ensures.noted, c.after-next.ensures) (sym found ∙ c.loop-rest.invariant.symbols);
      known = c.in_ok-note_at.ensures.known;
    }
