use Rattle.std.proofs.Common.{◌-◌, ◌≤◌, Some, sym, ap, ◌∙◌, refl, arith, get_or, take, drop, length}
use Rattle.std.proofs.lemmas.List.{length-take}
use Rattle.ic_text.specs.inner.Survey.{taken_after, counted}
use Rattle.ic_text.proofs.TokenLemmas.{joined_run}
use Rattle.ic_text.proofs.Surveying.{refused_run, refused_byte, goes_on}
use Rattle.ic_text.proofs.survey.survey.Goals as goal
use Rattle.ic_text.proofs.survey.survey.Goals.{then-not-is_word_byte+else-not-take_run+else-not-take_byte, else-not-is_word_byte}

pub returns-then-not-take_run-clause-counts : goal.returns-then-not-take_run-clause-counts
returns-then-not-take_run-clause-counts c =
    let place = c.loop-place.place in
    let apart = sym c.is_word_byte.ensures ∙ c.if-not-is_word_byte.true in
    refused_run c.args.text.now c.loop-place.start place (get_or c.args.text.now place 0) (omega arith) c.loop-place.invariant.begins refl
    c.loop-place.progress _ c.loop-place.invariant.same apart c.if-not-take_run.ensures.refused

pub returns-then-not-take_byte-clause-counts : goal.returns-then-not-take_byte-clause-counts
returns-then-not-take_byte-clause-counts c =
    let place = c.loop-place.place in
    let apart = sym c.is_word_byte.ensures ∙ c.if-not-is_word_byte.true in
    refused_byte c.args.text.now c.loop-place.start place (get_or c.args.text.now place 0) (omega arith) c.loop-place.invariant.begins refl
    c.loop-place.progress _ c.loop-place.invariant.same c.take_run.new.self apart c.if-not-take_run.ensures.taken c.if-not-take_byte.ensures.refused

pub loop-place-preserved : goal.loop-place-preserved
loop-place-preserved c =
    let text = c.args.text.now in
    let start = c.loop-place.start in
    let place = c.loop-place.place in
    let b = get_or text place 0 in
    let begins = c.loop-place.invariant.begins in
    let within = c.loop-place.invariant.within in
    elim c.if-not-is_word_byte.branch [
      | then-not-is_word_byte+else-not-take_run+else-not-take_byte w ↦
          let apart = sym c.is_word_byte.ensures ∙ w.if-not-is_word_byte.true in
          let short : length (take (place - start) (drop start text)) ≤ place - start = omega (arith, length-take (place - start) (drop start text)) in
          let run = w.if-not-take_run.ensures.risen in
          let byte = w.if-not-take_byte.ensures.risen in
          rw (w.start-is, w.progress-is) (record {
            begins = omega arith;
            within = record {
              words = omega (arith, short, run.words, byte.words, within.words);
              depth = omega (arith, short, run.depth, byte.depth, within.depth);
            };
            same = goes_on text start place b (omega arith) begins refl c.loop-place.progress _ c.loop-place.invariant.same w.take_run.new.self w.take_byte.new.self apart w.if-not-take_run.ensures.taken w.if-not-take_byte.ensures.taken;
          })
      | else-not-is_word_byte w ↦
          let is = sym c.is_word_byte.ensures ∙ w.if-not-is_word_byte.false in
          let joined = joined_run text start place b (omega arith) begins refl is in
          rw (w.start-is, w.progress-is) (record {
            begins = omega arith;
            within = within;
            same = ap (λ o. counted (taken_after (Some c.loop-place.progress) o)) joined ∙ c.loop-place.invariant.same;
          })
    ]
