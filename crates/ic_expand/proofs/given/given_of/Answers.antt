use Rattle.std.proofs.Common.{◌≡◌, ◌∙◌, ◌==◌, ◌||◌, ◌&&◌, refl, sym, ap}
use Rattle.std.specs.List.{list_any, position}
use Rattle.std.specs.Str.{bytes_eq}
use Rattle.std.specs.BTreeSet.{contains}
use Rattle.ic_expand.specs.Pieces.{first_byte, pieces}
use Rattle.ic_expand.specs.Reading.{heads, partner}
use Rattle.ic_expand.specs.inner.Ahead.{side, sides_of}
use Rattle.ic_expand.specs.inner.Given.{has_place, is_at, last_side, place_cmp}
use Rattle.ic_expand.proofs.AheadLemmas.{last_side_is, less, passed}
use Rattle.ic_expand.proofs.GivenLemmas.{head_noted}
use Rattle.ic_expand.proofs.Steps.{paired, unpaired}
use Rattle.ic_expand.proofs.given.given_of.Goals as goal

pub loop-rest-preserved-in_ok-note_pair : goal.loop-rest-preserved-in_ok-note_pair
loop-rest-preserved-in_ok-note_pair c =
    let known = c.args.known.now in
    let p = c.split_piece.result.0.now in
    let more = c.split_piece.result.1.now in
    let spot = c.loop-rest.spot in
    let left : c.pass.new.marks.items ≡ sides_of known more =
    c.pass.ensures ∙ ap (less (first_byte p == 62)) c.loop-rest.invariant.sides ∙ passed 62 (side known) refl refl p more c.loop-rest.rest.now c.split_piece.ensures.whole c.split_piece.ensures.sort in
    let second : c.last_side.result ≡ position (bytes_eq (partner more)) known = c.last_side.ensures ∙ ap (last_side known) (c.deref.ensures.value ∙ left) ∙ last_side_is known more in
    record {
      sides = left;
      found = λ i j.
          let old = contains place_cmp c.loop-rest.given (i, j) in
          let rest = list_any (is_at known i j) (heads c.after-next.result (pieces more)) in
          let noted = c.in_ok-note_pair.ensures i j ∙ (λ k. has_place i (c.place.ensures k) && has_place j (second k) || old) in
          head_noted old (contains place_cmp c.note_pair.new.given (i, j)) (is_at known i j (p, partner more)) rest noted
          ∙ ap (λ b. old || b) (ap (λ s. is_at known i j (p, partner more) || list_any (is_at known i j) (heads s (pieces more))) c.after-next.ensures
          ∙ sym (paired (is_at known i j) spot p more c.loop-rest.rest.now c.split_piece.ensures.pieces (sym c.is_head.ensures ∙ c.if-is_head.true)))
          ∙ c.loop-rest.invariant.found i j;
    }

pub loop-rest-preserved : goal.loop-rest-preserved
loop-rest-preserved c =
    let known = c.args.known.now in
    let p = c.split_piece.result.0.now in
    let more = c.split_piece.result.1.now in
    let spot = c.loop-rest.spot in
    let left : c.pass.new.marks.items ≡ sides_of known more =
    c.pass.ensures ∙ ap (less (first_byte p == 62)) c.loop-rest.invariant.sides ∙ passed 62 (side known) refl refl p more c.loop-rest.rest.now c.split_piece.ensures.whole c.split_piece.ensures.sort in
    record {
      sides = left;
      found = λ i j.
          let old = contains place_cmp c.loop-rest.given (i, j) in
          ap (λ s. old || list_any (is_at known i j) (heads s (pieces more))) c.after-next.ensures
          ∙ ap (λ b. old || b) (sym (unpaired (is_at known i j) spot p more c.loop-rest.rest.now c.split_piece.ensures.pieces (sym c.is_head.ensures ∙ c.if-is_head.false)))
          ∙ c.loop-rest.invariant.found i j;
    }
