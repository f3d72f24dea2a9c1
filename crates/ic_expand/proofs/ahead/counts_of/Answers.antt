use Rattle.std.proofs.Common.{◌≡◌, ◌==◌, ◌-◌, ◌++◌, ◌∷◌, [], ℕ, List, cond, drop, get_or, reverse, sym, ap, ◌∙◌, arith}
use Rattle.ic_expand.specs.inner.Ahead.{counts_of, levels, with_level}
use Rattle.ic_expand.proofs.AheadLemmas.{inmost, inmost_few, tail_back, tail_end, tail_few}
use Rattle.ic_expand.proofs.ahead.counts_of.Goals as goal

pub note_byte-requires : goal.note_byte-requires
note_byte-requires c =
    let text = c.args.text.now in
    let i = c.loop-place.place in
    let e = ap (λ l. get_or l 0 0) c.loop-place.invariant.levels in
    omega (arith, e, inmost_few (drop i text), tail_few i text, c.type_inv.text)

pub loop-place-preserved : goal.loop-place-preserved
loop-place-preserved c =
    let text = c.args.text.now in
    let i = c.loop-place.place in
    let byte = get_or text (i - 1) 0 in
    let back : drop (i - 1) text ≡ byte ∷ drop i text = tail_back text i c.loop-place-test.true c.loop-place.auto.place in
    let innermost : get_or (reverse c.loop-place.levels.items) 0 0 ≡ Rattle.ic_expand.specs.Reading.commas 0 (drop i text) = ap (λ l. get_or l 0 0) c.loop-place.invariant.levels ∙ inmost (drop i text) in
    record {
      levels = c.in_ok-note_byte.ensures.levels ∙ ap (with_level byte) c.loop-place.invariant.levels ∙ sym (ap levels back);
      counts = c.in_ok-note_byte.ensures.counts ∙ (λ k. cond (byte == 40) (c.loop-place.invariant.counts k ++ innermost k ∷ []) (c.loop-place.invariant.counts k)) ∙ sym (ap counts_of back);
    }

pub loop-place-init : goal.loop-place-init
loop-place-init c =
    let text = c.args.text.now in
    record {
      levels = ap (λ (l : List ℕ). reverse l) c.new-levels.ensures.items ∙ sym (ap levels (tail_end text));
      counts = c.new-counts.ensures.items ∙ sym (ap counts_of (tail_end text));
    }

pub returns : goal.returns
returns c =
    let zero : c.loop-place.place ≡ 0 = omega (arith, c.loop-place-test.false) in
    c.loop-place.invariant.counts ∙ ap (λ (n : ℕ). counts_of (drop n c.args.text.now)) zero
