use Rattle.std.proofs.Common.{◌≡◌, ◌∙◌, ◌<◌, Some, length, option_map, refl, slice_get, sym, ap, arith}
use Rattle.std.specs.List.{position}
use Rattle.std.specs.Str.{bytes_eq}
use Rattle.std.proofs.lemmas.List.{length-map}
use Rattle.std.proofs.lemmas.Option.{slice_get-map, slice_get_read}
use Rattle.ic_term.specs.Symbol.{Symbol, texts}
use Rattle.ic_expand.specs.inner.Sheets.{sheet_in, symbol_in}
use Rattle.ic_expand.proofs.AskedLemmas.{arity_at, arity_found}
use Rattle.ic_expand.proofs.GivenLemmas.{within}
use Rattle.ic_expand.proofs.writing.Sheet.arity_in.Goals as goal

pub returns-in-None : goal.returns-in-None
returns-in-None c =
    let ss = (sheet_in c.args.self.now).symbols in
    let text = c.args.text.now in
    let at = sym (ap (position (bytes_eq text)) c.requires.known) ∙ sym c.place.ensures ∙ c.in-None.is in
    sym (arity_found ss text ∙ ap (arity_at ss) at)

pub index-requires : goal.index-requires
index-requires c =
    let us = c.args.self.now.symbols.items in
    let ss = (sheet_in c.args.self.now).symbols in
    let text = c.args.text.now in
    let at = sym (ap (position (bytes_eq text)) c.requires.known) ∙ sym c.place.ensures ∙ c.in-Some.is in
    let less = within (bytes_eq text) (texts ss) c.in-Some.place at in
    let one = length-map ss (λ (t : Symbol). t.text) in
    let two = length-map us symbol_in in
    let same = ap (λ ts. length ts) c.requires.symbols in
    omega (arith, less, one, two, same)

pub returns-in-Some : goal.returns-in-Some
returns-in-Some c =
    let us = c.args.self.now.symbols.items in
    let ss = (sheet_in c.args.self.now).symbols in
    let text = c.args.text.now in
    let at = sym (ap (position (bytes_eq text)) c.requires.known) ∙ sym c.place.ensures ∙ c.in-Some.is in
    let less = within (bytes_eq text) (texts ss) c.in-Some.place at in
    let one = length-map ss (λ (t : Symbol). t.text) in
    let two = length-map us symbol_in in
    let same = ap (λ ts. length ts) c.requires.symbols in
    let low : c.in-Some.place < length us = omega (arith, less, one, two, same) in
    let there : slice_get us c.in-Some.place ≡ Some c.index.result.now = slice_get_read us (length us) c.in-Some.place c.index.result.now refl low c.index.ensures in
    let read = ap (λ ts. slice_get ts c.in-Some.place) (sym c.requires.symbols) ∙ slice_get-map symbol_in us c.in-Some.place ∙ ap (option_map symbol_in) there in
    sym (arity_found ss text ∙ ap (arity_at ss) at ∙ ap (option_map (λ (t : Symbol). t.arity)) read)
