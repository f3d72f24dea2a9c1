use Rattle.std.proofs.Common.{◌++◌, length, ap, ◌∙◌, arith, length-drop}
use Rattle.ic_flat.specs.Words.{forest}
use Rattle.ic_flat.specs.Flat.{pairs_of, configuration_of}
use Rattle.ic_text.specs.inner.Printing.{equations_text}
use Rattle.ic_text.proofs.WordTextLemmas.{printed-written}
use Rattle.ic_text.proofs.flat_print.put_words.Goals as goal

pub put_interface-requires-clause-there : goal.put_interface-requires-clause-there
put_interface-requires-clause-there c = omega (arith, c.requires.counted)

pub put_equations-requires-clause-counted : goal.put_equations-requires-clause-counted
put_equations-requires-clause-counted c =
    let all = forest c.args.words.now in
    omega (arith, ap length c.in_ok-place.ensures.rest, length-drop c.args.terms all, c.requires.counted)

pub returns : goal.returns
returns c =
    let ss = c.args.symbols.now in
    let n = configuration_of c.args.words.now c.args.terms 0 in
    let pairs = ap pairs_of c.in_ok-place.ensures.rest in
    printed-written ss n c.args.out.now.items c.push.new.self.items c.put_interface.new.out.items c.push-2.new.self.items c.put_equations.new.out.items c.push-3.new.self.items
    c.in_ok-push.ensures.items c.in_ok-place.ensures.text
    c.in_ok-push-2.ensures.items (c.in_ok-put_equations.ensures ∙ ap (λ l. c.push-2.new.self.items ++ equations_text ss l) pairs)
    c.in_ok-push-3.ensures.items
