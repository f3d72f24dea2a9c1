use Rattle.std.proofs.Common.{◌≡◌, ◌∙◌, ◌||◌, ◌∷◌, ◌++◌, [], List, true, cond, length, map, nat_lt, not, false, sym, ap, ap₂, arith}
use Rattle.std.specs.Str.{bytes_eq}
use Rattle.std.proofs.lemmas.List.{length-map, map-append}
use Rattle.std.proofs.lemmas.Bool.Decides.{nat_tests}
use Rattle.ic_term.specs.Symbol.{Symbol}
use Rattle.ic_term.specs.declared.limits.TheConstants.{MAX_WIDE_SYMBOLS}
use Rattle.ic_expand.specs.declared.reading.Use.{Use}
use Rattle.ic_expand.specs.Names.{is_among}
use Rattle.ic_expand.specs.Reading.{is_known}
use Rattle.ic_expand.specs.inner.Sheets.{symbol_in}
use Rattle.ic_expand.proofs.Lists.{any-map}
use Rattle.ic_expand.proofs.reading.note.Goals as goal

pushed : (old new : List Use) (u : Use) (s : Symbol) → new ≡ old ++ u ∷ [] → symbol_in u ≡ s → map symbol_in new ≡ map symbol_in old ++ s ∷ []
pushed old new u s is same = ap (map symbol_in) is ∙ map-append symbol_in old (u ∷ []) ∙ ap (λ t. map symbol_in old ++ t ∷ []) same

pub returns-then-has-clause-noted : goal.returns-then-has-clause-noted
returns-then-has-clause-noted c =
    let ss = map symbol_in c.args.symbols.now.items in
    let text = c.args.text.now in
    let s : Symbol = record { text = text; arity = c.args.arity } in
    let known : is_known text ss ≡ true =
    sym (any-map (λ (t : Symbol). t.text) (bytes_eq text) ss) ∙ sym (ap (is_among text) c.requires) ∙ sym c.has.ensures ∙ c.if-has.true in
    sym (ap (λ b. cond (b || not (nat_lt (length ss) MAX_WIDE_SYMBOLS)) ss (ss ++ s ∷ [])) known)

pub returns-clause-noted : goal.returns-clause-noted
returns-clause-noted c =
    let old = c.args.symbols.now.items in
    let ss = map symbol_in old in
    let text = c.args.text.now in
    let s : Symbol = record { text = text; arity = c.args.arity } in
    let known : is_known text ss ≡ false = sym (any-map (λ (t : Symbol). t.text) (bytes_eq text) ss) ∙ sym (ap (is_among text) c.requires) ∙ sym c.has.ensures ∙ c.if-has.false in
    let few : nat_lt (length ss) MAX_WIDE_SYMBOLS ≡ true = rw (length-map old symbol_in) (grind (arith, nat_tests, c.len.ensures, c.if-len-ge-MAX_WIDE_SYMBOLS.false)) in
    pushed old c.push.new.self.items (record { text = c.in_ok-from_slice.field-0; arity = c.args.arity }) s c.in_ok-push.ensures.items
    (λ i. record { text = c.in_ok-from_slice.ensures.items i; arity = c.args.arity })
    ∙ sym (ap₂ (λ k f. cond (k || not f) ss (ss ++ s ∷ [])) known few)
