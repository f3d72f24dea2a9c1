use Rattle.std.proofs.Common.{◌≡◌, ◌∙◌, ◌==◌, ◌-◌, get_or, length, map, refl, sym, ap, arith}
use Rattle.std.specs.List.{fold}
use Rattle.ic_expand.specs.Pieces.{first_byte, pieces}
use Rattle.ic_expand.specs.Reading.{commas, noted, uses}
use Rattle.ic_expand.specs.inner.Ahead.{arguments_by, counts_of}
use Rattle.ic_expand.specs.inner.Sheets.{symbol_in}
use Rattle.ic_expand.proofs.AheadLemmas.{arguments_are, first_few, less, passed}
use Rattle.ic_expand.proofs.Steps.{unused, used}
use Rattle.ic_expand.proofs.reading.used_symbols.Goals as goal

pub arguments-arity-requires : goal.arguments-arity-requires
arguments-arity-requires c =
    let p = c.split_piece.result.0.now in
    let more = c.split_piece.result.1.now in
    let left : c.pass.new.marks.items ≡ counts_of more =
    c.pass.ensures ∙ ap (less (first_byte p == 40)) c.loop-rest.invariant.counts ∙ passed 40 (commas 0) refl refl p more c.loop-rest.rest.now c.split_piece.ensures.whole c.split_piece.ensures.sort in
    let count = c.first_count.ensures ∙ ap (λ ns. get_or ns (length ns - 1) 0) (c.deref.ensures.value ∙ left) in
    omega (arith, count, first_few more, c.split_piece.ensures.shorter)

pub loop-rest-preserved-in_ok-note : goal.loop-rest-preserved-in_ok-note
loop-rest-preserved-in_ok-note c =
    let p = c.split_piece.result.0.now in
    let more = c.split_piece.result.1.now in
    let left : c.pass.new.marks.items ≡ counts_of more =
    c.pass.ensures ∙ ap (less (first_byte p == 40)) c.loop-rest.invariant.counts ∙ passed 40 (commas 0) refl refl p more c.loop-rest.rest.now c.split_piece.ensures.whole c.split_piece.ensures.sort in
    let count = c.first_count.ensures ∙ ap (λ ns. get_or ns (length ns - 1) 0) (c.deref.ensures.value ∙ left) in
    let arity = c.arguments-arity.ensures ∙ ap (λ n. arguments_by n more) count ∙ arguments_are more in
    let found = used (map symbol_in c.loop-rest.symbols.items) c.loop-rest.spot p more c.loop-rest.rest.now c.split_piece.ensures.pieces (sym c.is_use.ensures ∙ c.if-is_use.true) in
    record {
      counts = left;
      symbols = rw (c.in_ok-note.ensures.noted, arity, c.after-next.ensures) (sym found ∙ c.loop-rest.invariant.symbols);
      known = c.in_ok-note.ensures.known;
    }

pub loop-rest-preserved : goal.loop-rest-preserved
loop-rest-preserved c =
    let p = c.split_piece.result.0.now in
    let more = c.split_piece.result.1.now in
    let ss = map symbol_in c.loop-rest.symbols.items in
    let left : c.pass.new.marks.items ≡ counts_of more =
    c.pass.ensures ∙ ap (less (first_byte p == 40)) c.loop-rest.invariant.counts ∙ passed 40 (commas 0) refl refl p more c.loop-rest.rest.now c.split_piece.ensures.whole c.split_piece.ensures.sort in
    let kept = unused ss c.loop-rest.spot p more c.loop-rest.rest.now c.split_piece.ensures.pieces (sym c.is_use.ensures ∙ c.if-is_use.false) in
    record {
      counts = left;
      symbols = ap (λ s. fold noted ss (uses s (pieces more))) c.after-next.ensures ∙ ap (fold noted ss) (sym kept) ∙ c.loop-rest.invariant.symbols;
      known = c.loop-rest.invariant.known;
    }
