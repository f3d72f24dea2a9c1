use Rattle.std.proofs.Common.{◌<◌, length, drop, ap, sym, ◌∙◌, arith, length-drop}
use Rattle.std.specs.Prelude.{option_map}
use Rattle.ic_flat.specs.declared.word.Word.TheVariants.{Name}
use Rattle.ic_flat.specs.Words.{forest}
use Rattle.ic_in_place.proofs.Words.{word_there, told_first, some_mapped}
use Rattle.ic_in_place.proofs.stuck.first_text.Goals as goal

pub returns-then-is_some : goal.returns-then-is_some
returns-then-is_some c =
    let ws = c.args.words.now in
    let left = c.loop-equation.left in
    let right = c.end_of_term-right.result in
    let text = option_map (λ text. text.items) c.in_ok-text.text in
    let there : left < length ws = word_there ws left 2 (omega (arith, c.loop-equation.invariant.counted, c.loop-equation-test.true)) (omega arith) in
    let there_too : right < length ws = word_there ws right 1
    (omega (arith, ap length c.end_of_term-right.ensures.rest, length-drop 1 (forest (drop left ws)), c.loop-equation.invariant.counted, c.loop-equation-test.true)) (omega arith) in
    told_first c.args.symbols.now ws left right (Name 0) (Name 0) there there_too c.end_of_term-right.ensures.rest text c.in_ok-text.ensures
    (some_mapped (λ text. text.items) c.in_ok-text.text ∙ sym c.if-is_some.ensures) ∙ c.loop-equation.invariant.first
