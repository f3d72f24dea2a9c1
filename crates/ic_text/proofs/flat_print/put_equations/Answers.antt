use Rattle.std.proofs.Common.{◌++◌, length, drop, ap, ◌∙◌, arith, length-drop, drop-drop, take_all}
use Rattle.ic_flat.specs.Words.{forest}
use Rattle.ic_flat.specs.Flat.{pairs_of}
use Rattle.ic_text.specs.Source.{sides_words}
use Rattle.ic_text.specs.Text.{sides_of}
use Rattle.ic_text.specs.inner.Printing.{equation_text, equations_text}
use Rattle.ic_text.specs.inner.WordTexts.{first_text}
use Rattle.ic_text.proofs.WordTextLemmas.{list-next, length-pairs_of, pairs_of-drop}
use Rattle.ic_text.proofs.flat_print.put_equations.Goals as goal

pub loop-i-preserved : goal.loop-i-preserved
loop-i-preserved c =
    let ss = c.args.symbols.now in
    let ts = forest (drop c.args.place c.args.words.now) in
    let here = forest (drop c.loop-i.end c.args.words.now) in
    let i = c.loop-i.i in
    let begun = c.put_comma.new.out.items in
    let count = length-pairs_of ts c.args.count c.requires.counted in
    record {
      text = list-next (sides_of ss) sides_words i (pairs_of ts) c.args.out.now.items c.loop-i.out.items begun c.put_equation.new.out.items (omega (arith, count, c.loop-i-test.true)) c.loop-i.invariant.text
          c.in_ok-put_comma.ensures (c.in_ok-end.ensures.text ∙ ap (λ l. begun ++ first_text (equation_text ss) l) c.loop-i.invariant.rest);
      rest = ap pairs_of c.in_ok-end.ensures.rest ∙ pairs_of-drop here ∙ ap (drop 1) c.loop-i.invariant.rest ∙ drop-drop 1 i (pairs_of ts);
      counted = omega (arith, ap length c.in_ok-end.ensures.rest, length-drop 2 here, c.loop-i.invariant.counted, c.loop-i-test.true);
      none_open = c.in_ok-end.ensures.none_open;
    }

pub returns : goal.returns
returns c =
    let pairs = pairs_of (forest (drop c.args.place c.args.words.now)) in
    let count = length-pairs_of (forest (drop c.args.place c.args.words.now)) c.args.count c.requires.counted in
    c.loop-i.invariant.text ∙ ap (λ l. c.args.out.now.items ++ equations_text c.args.symbols.now l) (take_all c.loop-i.i pairs (omega (arith, count, c.loop-i-test.false)))
