use Rattle.std.proofs.Common.{◌≡◌, ◌≤◌, ◌<◌, ℕ, List, Option, Some, length, arith, option_map, sym, ◌∙◌, ap, cond, map, Ok, Err, true, nat_lt, slice_get, refl, subst, IsTrue}
use Rattle.std.specs.BTreeMap.{get, Updates}
use Rattle.std.proofs.lemmas.List.{length-map}
use Rattle.std.proofs.lemmas.Bool.Decides.{nat_tests}
use Rattle.std.proofs.lemmas.Option.{slice_get-map, slice_get_read}
use Rattle.ic_term.specs.Symbol.{Symbol, AreSymbols, is_symbol_text, number_of_text}
use Rattle.ic_term.specs.inner.Keys.{AreNumbers, key_of, key_cmp}
use Rattle.ic_term.specs.declared.symbols.SymbolFault.TheVariants.{Limit}
use Rattle.ic_term.specs.declared.limits.TheConstants.{MAX_WIDE_SYMBOLS, MAX_SYMBOL_TEXT, MAX_ARITY}
use Rattle.ic_term.proofs.SymbolLemmas.{symbol_of, numbered-found, numbered-new, with_symbol-new, answers_same, AreSymbols-push, symbols-push}
use Rattle.ic_term.proofs.KeyLemmas.{AreNumbers-push, number_within, Numbers}
use Rattle.ic_term.proofs.symbols.Symbols.number.Goals as goal

-- what the map says of a text
told : (numbers : Numbers) (ss : List Symbol) (text : List ℕ) (key : ℕ × ℕ) (o : Option ℕ) → AreNumbers numbers ss → IsTrue (is_symbol_text text)
    → length text ≤ MAX_SYMBOL_TEXT → key ≡ key_of text → o ≡ get key_cmp numbers key → number_of_text ss text ≡ o
told numbers ss text key o are is_text short keyed found = sym (found ∙ ap (get key_cmp numbers) keyed ∙ are text is_text short)

pub index-requires : goal.index-requires
index-requires c =
    let es = c.self.inside.entries.items in
    let text = c.args.text.now in
    let found = told c.self.inside.numbers (map symbol_of es) text c.key_of-key.result c.copied.result c.self.invariant.1 c.requires (omega arith) c.key_of-key.ensures
    (c.copied.ensures ∙ c.get.ensures.value) ∙ c.in-Some.is in
    omega (arith, number_within es text c.in-Some.number found)

pub returns-in-Some-clause-number : goal.returns-in-Some-clause-number
returns-in-Some-clause-number c =
    let es = c.self.inside.entries.items in
    let text = c.args.text.now in
    let n = c.in-Some.number in
    let short : length text ≤ MAX_SYMBOL_TEXT = omega arith in
    let few : c.args.arity ≤ MAX_ARITY = omega arith in
    let found = told c.self.inside.numbers (map symbol_of es) text c.key_of-key.result c.copied.result c.self.invariant.1 c.requires short c.key_of-key.ensures
    (c.copied.ensures ∙ c.get.ensures.value) ∙ c.in-Some.is in
    let there : slice_get es n ≡ Some c.index.result.now = slice_get_read es (length es) n c.index.result.now refl (number_within es text n found) c.index.ensures in
    let known = ap (option_map (λ s. s.arity)) (slice_get-map symbol_of es n ∙ ap (option_map symbol_of) there) in
    let answer = numbered-found (map symbol_of es) text c.args.arity c.index.result.now.arity n short few found known in
    rw (← c.self.view_is) (answers_same _ _ (c.known_number.ensures ∙ sym answer))

pub invariant_of-self-2 : goal.invariant_of-self-2
invariant_of-self-2 c =
    let es = c.self.inside.entries.items in
    let text = c.args.text.now in
    let arity = c.args.arity in
    let short : length text ≤ MAX_SYMBOL_TEXT = omega arith in
    let few : arity ≤ MAX_ARITY = omega arith in
    let none = told c.self.inside.numbers (map symbol_of es) text c.key_of-key.result c.copied.result c.self.invariant.1 c.requires short c.key_of-key.ensures
    (c.copied.ensures ∙ c.get.ensures.value) ∙ c.in_default.is in
    let room : length (map symbol_of es) < MAX_WIDE_SYMBOLS = rw (length-map es symbol_of) (omega (arith, c.len-number.ensures)) in
    let number : c.len-number.result ≡ length (map symbol_of es) = rw (length-map es symbol_of) (omega (arith, c.len-number.ensures)) in
    let pushed = symbols-push es c.reserve.new.self.items c.push_reserved.new.self.items _ text c.push_reserved.ensures.items c.reserve.ensures.items c.in_ok-text.ensures.items in
    let old = c.self.inside.numbers in
    let new = c.insert.new.self in
    let put = subst (λ n. Updates key_cmp old new c.key_of-key.result (Some n)) number c.in_ok-insert.ensures.updates in
    let updates = subst (λ k. Updates key_cmp old new k (Some (length (map symbol_of es)))) c.key_of-key.ensures put in
    subst (λ ss. AreSymbols ss × AreNumbers new ss) (sym pushed)
    (AreSymbols-push (map symbol_of es) text arity c.self.invariant.0 room c.requires short few none, AreNumbers-push old new (map symbol_of es) text arity c.requires none updates c.self.invariant.1)

pub returns-clause-number : goal.returns-clause-number
returns-clause-number c =
    let es = c.self.inside.entries.items in
    let text = c.args.text.now in
    let short : length text ≤ MAX_SYMBOL_TEXT = omega arith in
    let few : c.args.arity ≤ MAX_ARITY = omega arith in
    let none = told c.self.inside.numbers (map symbol_of es) text c.key_of-key.result c.copied.result c.self.invariant.1 c.requires short c.key_of-key.ensures
    (c.copied.ensures ∙ c.get.ensures.value) ∙ c.in_default.is in
    let answer = numbered-new (map symbol_of es) text c.args.arity short few none in
    let room : nat_lt (length (map symbol_of es)) MAX_WIDE_SYMBOLS ≡ true = rw (length-map es symbol_of) (grind (arith, nat_tests, c.len-number.ensures)) in
    let number : c.len-number.result ≡ length (map symbol_of es) = rw (length-map es symbol_of) (omega (arith, c.len-number.ensures)) in
    rw (← c.self.view_is) (ap Ok number ∙ sym (answer ∙ ap (λ b. cond b (Ok (length (map symbol_of es))) (Err Limit)) room))

pub returns-clause-symbols : goal.returns-clause-symbols
returns-clause-symbols c =
    let es = c.self.inside.entries.items in
    let text = c.args.text.now in
    let none = told c.self.inside.numbers (map symbol_of es) text c.key_of-key.result c.copied.result c.self.invariant.1 c.requires (omega arith) c.key_of-key.ensures
    (c.copied.ensures ∙ c.get.ensures.value) ∙ c.in_default.is in
    rw (← c.self.view_is, with_symbol-new (map symbol_of es) text c.args.arity none)
    (symbols-push es c.reserve.new.self.items c.push_reserved.new.self.items _ text c.push_reserved.ensures.items c.reserve.ensures.items c.in_ok-text.ensures.items)
