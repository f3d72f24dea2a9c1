use Rattle.std.proofs.Common.{◌≡◌, Bool, true, cond, Result, Ok, Err, nat_lt, ◌∙◌, sym, ap, arith}
use Rattle.std.proofs.lemmas.Bool.{lt-ltb}
use Rattle.std.proofs.lemmas.Option.{slice_get_within}
use Rattle.ic_term.specs.declared.symbols.SymbolFault.{SymbolFault}
use Rattle.ic_term.specs.declared.symbols.SymbolFault.TheVariants.{Limit}
use Rattle.ic_flat.specs.declared.word.Word.{Word}
use Rattle.ic_flat.specs.declared.word.Word.TheVariants.{Agent}
use Rattle.ic_text.specs.Limits.{most_symbols}
use Rattle.ic_text.specs.inner.Prefix.{node_of}
use Rattle.ic_text.specs.inner.Numbered.{agent_word}
use Rattle.ic_text.specs.lemmas.TableLemmas.{numbered_again, stays_with}
use Rattle.ic_text.proofs.number.number_word.Goals as goal

pub returns-in-Some-number_again-clause-word : goal.returns-in-Some-number_again-clause-word
returns-in-Some-number_again-clause-word c =
    let w = node_of c.args.node.now in
    let number = c.in-Some-number_again.number in
    let there = slice_get_within c.args.symbols.now number w c.in-Some-number_again.ensures.number in
    let room : nat_lt number (most_symbols c.args.limits) ≡ true = lt-ltb number (most_symbols c.args.limits) (omega (arith, there, c.requires.few)) in
    rw (sym c.begins_name.ensures ∙ c.if-begins_name.false)
    (ap (λ (b : Bool). cond {A = Result Word SymbolFault} b (Ok (Agent number w.arity)) (Err Limit)) (sym room)
    ∙ ap (agent_word c.args.limits w.arity)
    (numbered_again c.args.symbols.now number w c.in-Some-number_again.ensures.sound c.in-Some-number_again.ensures.number))

pub returns-in-Some-number_again-clause-symbols : goal.returns-in-Some-number_again-clause-symbols
returns-in-Some-number_again-clause-symbols c =
    let w = node_of c.args.node.now in
    rw (sym c.begins_name.ensures ∙ c.if-begins_name.false)
    (stays_with c.args.symbols.now c.in-Some-number_again.number w c.in-Some-number_again.ensures.sound c.in-Some-number_again.ensures.number)
