use Rattle.std.proofs.Common.{◌≡◌, ◌+◌, ◌++◌, ◌-◌, ◌∙◌, List, None, ℕ, ap, arith, length, length-append, rules, sym}
use Rattle.ic_expand.specs.Expanding.{piece_text, refusal}
use Rattle.ic_expand.specs.inner.Sheets.{sheet_in}
use Rattle.ic_expand.proofs.Steps.{put_more}
use Rattle.ic_expand.proofs.writing.written_pieces.Goals as goal

pub loop-rest-preserved : goal.loop-rest-preserved
loop-rest-preserved c =
    let sheet = sheet_in c.in_ok-sheet.sheet in
    let earlier = c.loop-rest.earlier in
    let spot = c.loop-rest.spot in
    let text = c.args.text.now in
    let rest = c.loop-rest.rest.now in
    let p = c.split_piece.result.0.now in
    let more = c.split_piece.result.1.now in
    let out = c.loop-rest.out.items in
    let shorter = c.loop-rest.invariant.shorter in
    let none : refusal sheet earlier spot p ≡ None = search rules in
    let put : c.put_piece.new.out.items ≡ out ++ piece_text sheet earlier spot p = search rules in
    let whole : length rest ≡ length p + length more = ap (λ (l : List ℕ). length l) c.split_piece.ensures.whole ∙ length-append p more in
    let place : length text - length more ≡ (length text - length rest) + length p = omega (arith, shorter, whole) in
    record {
      shorter = omega (arith, shorter, c.split_piece.ensures.shorter);
      all = rw (put, c.in_ok-add_generic.ensures, c.after-next.ensures, place)
          (sym (put_more sheet earlier spot (length text - length rest) out p more rest c.split_piece.ensures.pieces none) ∙ c.loop-rest.invariant.all);
    }
