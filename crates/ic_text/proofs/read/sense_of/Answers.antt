use Rattle.std.proofs.Common.{◌≡◌, ℕ, List, Result, refl, sym, ap, ◌∙◌, subst, Ok, Some, arith}
use Rattle.std.proofs.lemmas.Result.{err_from_is_err_and}
use Rattle.ic_term.specs.Symbol.{Symbol}
use Rattle.ic_term.specs.Configuration.{Configuration, wide_restored}
use Rattle.ic_text.specs.declared.fault.TextFault.{TextFault}
use Rattle.ic_text.specs.declared.limits.Limits.{Limits}
use Rattle.ic_flat.specs.declared.word.Word.{Word}
use Rattle.ic_text.specs.Token.{tokens}
use Rattle.ic_text.specs.Source.{Phrase, IsPhrase, phrase_words}
use Rattle.ic_text.specs.Sense.{sense_within}
use Rattle.ic_text.specs.inner.Prefix.{nodes_of}
use Rattle.ic_text.specs.inner.Words.{phrase_prefix}
use Rattle.ic_text.specs.inner.Numbered.{counted_words, as_text_answer, Refuses}
use Rattle.ic_flat.specs.Words.{forest}
use Rattle.ic_text.specs.inner.Built.{IsPaired, configuration_from}
use Rattle.ic_text.proofs.PrefixWords.{words-phrase_prefix}
use Rattle.ic_text.proofs.Sensing.{finished, beside_table, paired_words, Refuses-through}
use Rattle.ic_text.proofs.Over.{sense-over}
use Rattle.ic_text.proofs.Fitting.{config-fits, counted-numbered, crowded, sense-counted}
use Rattle.ic_text.proofs.WithinLimits.{few_nodes, few_terms}
use Rattle.ic_text.proofs.read.sense_of.Goals as goal
use Rattle.ic_text.proofs.read.sense_of.Goals.{After-deref-2}

-- the words that are numbered are those of the configuration
words_here : (c : After-deref-2) (p : Phrase) → tokens c.args.text.now ≡ Some (phrase_words p) → nodes_of c.deref-2.result.now ≡ phrase_prefix p
words_here c p spelled = ap nodes_of c.deref-2.ensures.value ∙ c.in_ok-prefix.ensures.nodes p spelled

pub returns-then-counts-nodes-clause-sense : goal.returns-then-counts-nodes-clause-sense
returns-then-counts-nodes-clause-sense c = λ p spells.
    rw c.crowded.ensures (sym (crowded c.args.limits p c.args.text.now c.args.counts.words c.requires.0 c.requires.1.tokens c.requires.2 spells.tokens (omega (arith, c.if-counts-nodes.true, c.nodes.ensures))))

pub number_words-requires : goal.number_words-requires
number_words-requires c =
    let p = c.requires.0 in
    rw (words_here (goal.at.number_words-requires c).After-deref-2 p c.requires.1.tokens) (words-phrase_prefix p c.requires.1.phrase)

-- the sense is that of the words, unless they are too many
sense_here : (c : After-deref-2) (p : Phrase) → IsPhrase p → tokens c.args.text.now ≡ Some (phrase_words p)
    → sense_within c.args.limits p ≡ finished c.in_ok-prefix.prefix.terms (counted_words c.args.limits c.config_excess-excess.result (nodes_of c.deref-2.result.now))
sense_here c p is spelled =
    let terms = c.in_ok-prefix.ensures.terms p spelled in
    sense-counted c.args.limits p is c.config_excess-excess.result
    (c.config_excess-excess.ensures ∙ config-fits c.args.limits p c.deref.result.now c.in_ok-prefix.prefix.terms (ap nodes_of c.deref.ensures.value ∙ c.in_ok-prefix.ensures.nodes p spelled) terms)
    ∙ (λ i. finished (sym terms i) (counted_words c.args.limits c.config_excess-excess.result (sym (words_here c p spelled) i)))

pub returns-in_err-symbols-clause-sense : goal.returns-in_err-symbols-clause-sense
returns-in_err-symbols-clause-sense c = λ p spells.
    let e = err_from_is_err_and c.from_residual-in_err-symbols.result c.from_residual-in_err-symbols.ensures.1 in
    rw (e.1, e.2, sense_here (goal.at.returns-in_err-symbols-clause-sense c).After-deref-2 p spells.phrase spells.tokens) (Refuses-through (finished c.in_ok-prefix.prefix.terms) (λ _. refl) _ _ c.in_err-symbols.ensures)

-- where they have numbers, they write a configuration
pub wide_of-requires : goal.wide_of-requires
wide_of-requires c =
    let p = c.requires.0 in
    let here = (goal.at.wide_of-requires c).After-deref-2 in
    let number = c.in_ok-symbols.ensures ∙ ap (counted_words c.args.limits c.config_excess-excess.result) (words_here here p c.requires.1.tokens) in
    subst (λ n. IsPaired c.in_ok-symbols.words.items n) (sym (c.in_ok-prefix.ensures.terms p c.requires.1.tokens))
    (paired_words p c.requires.1.phrase c.args.limits _ (counted-numbered c.args.limits (phrase_prefix p) c.config_excess-excess.result _ number))

-- what is refused after the numbering is so by the sense
refused_here : (limits : Limits) (p : Phrase) (terms : ℕ) (r : Result (List Symbol × List Word) TextFault) (symbols : List Symbol) (items : List Word) (f : TextFault)
    → sense_within limits p ≡ finished terms r → Ok (symbols, items) ≡ r
    → Refuses f (as_text_answer (wide_restored (configuration_from terms (forest items)))) → Refuses f (sense_within limits p)
refused_here limits p terms r symbols items f sense_is number refused =
    let sense_is = sense_is ∙ ap (finished terms) (sym number) in
    rw sense_is (Refuses-through (beside_table symbols) (λ _. refl) f _ refused)

pub returns-clause-sense : goal.returns-clause-sense
returns-clause-sense c = λ p spells.
    let here = sense_here (goal.at.returns-clause-sense c).After-deref-2 p spells.phrase spells.tokens in
    rw c.refusal_of.ensures (refused_here c.args.limits p c.in_ok-prefix.prefix.terms (counted_words c.args.limits c.config_excess-excess.result (nodes_of c.deref-2.result.now)) c.in_ok-symbols.symbols c.in_ok-symbols.words.items c.in-Err.fault here c.in_ok-symbols.ensures c.in-Err.ensures)

-- what is answered is the sense
ok_is_sense : (limits : Limits) (p : Phrase) (terms : ℕ) (r : Result (List Symbol × List Word) TextFault) (symbols : List Symbol) (items : List Word) (config : Configuration)
    → sense_within limits p ≡ finished terms r → Ok (symbols, items) ≡ r
    → Ok config ≡ as_text_answer (wide_restored (configuration_from terms (forest items))) → Ok (symbols, config) ≡ sense_within limits p
ok_is_sense limits p terms r symbols items config sense_is number built = ap (beside_table symbols) built ∙ ap (finished terms) number ∙ sym sense_is

pub returns-in-Ok-clause-sense : goal.returns-in-Ok-clause-sense
returns-in-Ok-clause-sense c = λ p spells.
    ok_is_sense c.args.limits p c.in_ok-prefix.prefix.terms (counted_words c.args.limits c.config_excess-excess.result (nodes_of c.deref-2.result.now)) c.in_ok-symbols.symbols c.in_ok-symbols.words.items c.in-Ok.config
    (sense_here (goal.at.returns-in-Ok-clause-sense c).After-deref-2 p spells.phrase spells.tokens) c.in_ok-symbols.ensures c.in-Ok.ensures

pub returns-in-Ok-clause-over : goal.returns-in-Ok-clause-over
returns-in-Ok-clause-over c =
    let p = c.requires.0 in
    sense-over c.args.limits p _ (sym (ok_is_sense c.args.limits p c.in_ok-prefix.prefix.terms (counted_words c.args.limits c.config_excess-excess.result (nodes_of c.deref-2.result.now)) c.in_ok-symbols.symbols c.in_ok-symbols.words.items c.in-Ok.config
    (sense_here (goal.at.returns-in-Ok-clause-over c).After-deref-2 p c.requires.1.phrase c.requires.1.tokens) c.in_ok-symbols.ensures c.in-Ok.ensures))

pub returns-in-Ok-clause-nodes : goal.returns-in-Ok-clause-nodes
returns-in-Ok-clause-nodes c =
    let p = c.requires.0 in
    few_nodes c.args.limits p _ (sym (ok_is_sense c.args.limits p c.in_ok-prefix.prefix.terms (counted_words c.args.limits c.config_excess-excess.result (nodes_of c.deref-2.result.now)) c.in_ok-symbols.symbols c.in_ok-symbols.words.items c.in-Ok.config
    (sense_here (goal.at.returns-in-Ok-clause-nodes c).After-deref-2 p c.requires.1.phrase c.requires.1.tokens) c.in_ok-symbols.ensures c.in-Ok.ensures))

pub returns-in-Ok-clause-interface : goal.returns-in-Ok-clause-interface
returns-in-Ok-clause-interface c =
    let p = c.requires.0 in
    few_terms c.args.limits p _ (sym (ok_is_sense c.args.limits p c.in_ok-prefix.prefix.terms (counted_words c.args.limits c.config_excess-excess.result (nodes_of c.deref-2.result.now)) c.in_ok-symbols.symbols c.in_ok-symbols.words.items c.in-Ok.config
    (sense_here (goal.at.returns-in-Ok-clause-interface c).After-deref-2 p c.requires.1.phrase c.requires.1.tokens) c.in_ok-symbols.ensures c.in-Ok.ensures))
