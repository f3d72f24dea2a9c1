use Rattle.std.proofs.Common.{◌≡◌, ◌==◌, ◌+◌, ◌-◌, ◌++◌, ◌∷◌, [], ℕ, cond, drop, get_or, length, take, sym, ap, ◌∙◌, arith}
use Rattle.std.specs.List.{position}
use Rattle.std.specs.Str.{bytes_eq}
use Rattle.ic_expand.specs.Reading.{leading_word}
use Rattle.ic_expand.specs.inner.Ahead.{side, sides_of}
use Rattle.ic_expand.proofs.AheadLemmas.{side_more, tail_back, tail_end, tail_whole}
use Rattle.ic_expand.proofs.ahead.sides_of.Goals as goal

pub loop-place-init : goal.loop-place-init
loop-place-init c =
    let text = c.args.text.now in
    let known = c.args.known.now in
    record {
      side = c.place-side.ensures ∙ sym (ap (side known) (tail_end text));
      sides = c.new-sides.ensures.items ∙ sym (ap (sides_of known) (tail_end text));
    }

pub loop-place-preserved : goal.loop-place-preserved
loop-place-preserved c =
    let text = c.args.text.now in
    let known = c.args.known.now in
    let i = c.loop-place.place in
    let byte = get_or text (i - 1) 0 in
    let back : drop (i - 1) text ≡ byte ∷ drop i text = tail_back text i c.loop-place-test.true c.loop-place.auto.place in
    let next : i - 1 + 1 ≡ i = omega (arith, c.loop-place-test.true) in
    let more : take (length text - (i - 1 + 1)) (drop (i - 1 + 1) text) ≡ drop i text = ap (λ (n : ℕ). take (length text - n) (drop n text)) next ∙ tail_whole i text in
    record {
      side = c.side_before-side.ensures
          ∙ (λ k. cond (byte == 60) (position (bytes_eq (leading_word (more k))) known) (c.loop-place.invariant.side k))
          ∙ sym (side_more known byte (drop i text)) ∙ sym (ap (side known) back);
      sides = c.in_ok-note_side.ensures ∙ (λ k. cond (byte == 62) (c.loop-place.invariant.sides k ++ c.loop-place.invariant.side k ∷ []) (c.loop-place.invariant.sides k)) ∙ sym (ap (sides_of known) back);
    }

pub returns : goal.returns
returns c =
    let zero : c.loop-place.place ≡ 0 = omega (arith, c.loop-place-test.false) in
    c.loop-place.invariant.sides ∙ ap (λ (n : ℕ). sides_of c.args.known.now (drop n c.args.text.now)) zero
