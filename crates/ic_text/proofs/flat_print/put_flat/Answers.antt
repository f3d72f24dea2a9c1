use Rattle.std.specs.Prelude.{OnOk}
use Rattle.std.proofs.Common.{◌≡◌, ◌++◌, length, sym, ap, subst, ◌∙◌, arith}
use Rattle.std.specs.List.{list_all}
use Rattle.ic_flat.specs.Words.{forest, IsWhole, is_word_over}
use Rattle.ic_flat.specs.Flat.{pairs_of}
use Rattle.ic_flat.specs.lemmas.WordLaws.{whole-words}
use Rattle.ic_flat.specs.lemmas.FlatLaws.{all_terms, pairs_of-sides, counted-configuration_words, over-words}
use Rattle.ic_text.specs.Text.{printed}
use Rattle.ic_text.proofs.WordTextLemmas.{interface-front, sides-after}
use Rattle.ic_text.proofs.flat_print.put_flat.Goals as goal

pub put_words-requires-clause-whole : goal.put_words-requires-clause-whole
put_words-requires-clause-whole c = subst (λ l. IsWhole l) (sym c.words.ensures.words) (whole-words (all_terms c.args.flat.now))

pub put_words-requires-clause-over : goal.put_words-requires-clause-over
put_words-requires-clause-over c =
    ap (list_all (is_word_over c.args.symbols.now)) c.words.ensures.words ∙ over-words c.args.symbols.now c.args.flat.now ∙ c.requires

pub put_words-requires-clause-counted : goal.put_words-requires-clause-counted
put_words-requires-clause-counted c =
    omega (arith, c.interface_len-terms.ensures.terms, c.equations_len-equations.ensures.equations, ap (λ l. length (forest l)) c.words.ensures.words, counted-configuration_words c.args.flat.now)

pub returns : goal.returns
returns c =
    let ss = c.args.symbols.now in
    let n = c.args.flat.now in
    let ws = c.words.result.now in
    let terms = interface-front n ws c.interface_len-terms.result c.words.ensures.words c.interface_len-terms.ensures.terms in
    let pairs = ap pairs_of (sides-after n ws c.interface_len-terms.result c.words.ensures.words c.interface_len-terms.ensures.terms) ∙ pairs_of-sides n.equations in
    subst (λ t. OnOk c.put_words.result (c.put_words.new.out.items ≡ c.args.out.now.items ++ t)) (λ i. printed ss (record { interface = terms i; equations = pairs i; next = 0 })) c.put_words.ensures
