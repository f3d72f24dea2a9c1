use Rattle.std.proofs.Common.{take, ap, sym, ◌∙◌, subst}
use Rattle.ic_text.specs.Token.{word_of, before, tokens}
use Rattle.ic_commands.specs.inner.Line.{HasNoWord}
use Rattle.ic_commands.proofs.WordSplits.{word_ends, no_word_here, to_end}
use Rattle.ic_commands.proofs.word.split_word.Goals as goal

pub returns-then-not-is_word_byte-clause-tokens : goal.returns-then-not-is_word_byte-clause-tokens
returns-then-not-is_word_byte-clause-tokens c =
    let front = c.without_blanks-front.result.now in
    let place = c.loop-place.place in
    sym c.without_blanks-front.ensures.same
    ∙ word_ends front place c.loop-place-test.true (sym c.is_word_byte.ensures ∙ c.if-not-is_word_byte.true) c.loop-place.invariant.same
    ∙ ap (λ r. before (word_of (take place front)) (tokens r)) (sym (to_end front place))

pub returns-then-not-is_word_byte-clause-front : goal.returns-then-not-is_word_byte-clause-front
returns-then-not-is_word_byte-clause-front c =
    let front = c.without_blanks-front.result.now in
    let place = c.loop-place.place in
    λ empty. subst (λ r. HasNoWord r (tokens r)) (sym (to_end front place))
    (no_word_here front place c.loop-place-test.true c.without_blanks-front.ensures.apart (sym c.is_word_byte.ensures ∙ c.if-not-is_word_byte.true) empty)
