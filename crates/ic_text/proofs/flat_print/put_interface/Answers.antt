use Rattle.std.proofs.Common.{◌++◌, length, drop, ap, ◌∙◌, arith, length-drop, drop-drop}
use Rattle.ic_flat.specs.Words.{forest}
use Rattle.ic_text.specs.Source.{words}
use Rattle.ic_text.specs.Text.{source_of, term_text}
use Rattle.ic_text.specs.inner.WordTexts.{first_text}
use Rattle.ic_text.proofs.WordTextLemmas.{word-there, list-next}
use Rattle.ic_text.proofs.flat_print.put_interface.Goals as goal

pub put_term-requires-clause-there : goal.put_term-requires-clause-there
put_term-requires-clause-there c =
    let ws = c.args.words.now in
    let left = length-drop c.loop-i.i (forest ws) in
    word-there ws c.loop-i.end 1 (omega (arith, ap length c.loop-i.invariant.rest, left, c.requires.there, c.loop-i-test.true)) (omega arith)

pub loop-i-preserved : goal.loop-i-preserved
loop-i-preserved c =
    let ss = c.args.symbols.now in
    let ts = forest c.args.words.now in
    let i = c.loop-i.i in
    let begun = c.put_comma.new.out.items in
    record {
      text = list-next (source_of ss) words i ts c.args.out.now.items c.loop-i.out.items begun c.put_term.new.out.items (omega (arith, c.requires.there, c.loop-i-test.true)) c.loop-i.invariant.text
          c.in_ok-put_comma.ensures (c.in_ok-end.ensures.text ∙ ap (λ l. begun ++ first_text (term_text ss) l) c.loop-i.invariant.rest);
      rest = c.in_ok-end.ensures.rest ∙ ap (drop 1) c.loop-i.invariant.rest ∙ drop-drop 1 i ts;
      none_open = c.in_ok-end.ensures.none_open;
    }
