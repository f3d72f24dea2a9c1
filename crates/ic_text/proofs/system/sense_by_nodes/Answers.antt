use Rattle.std.proofs.Common.{◌≡◌, ℕ, ◌≤◌, List, ◌∷◌, Some, Result, Ok, length, drop, refl, sym, ap, ◌∙◌}
use Rattle.std.proofs.lemmas.Result.{err_from_is_err_and}
use Rattle.ic_term.specs.Symbol.{Symbol}
use Rattle.ic_rules.specs.System.{SystemParts}
use Rattle.ic_text.specs.declared.limits.Limits.{Limits}
use Rattle.ic_text.specs.declared.fault.TextFault.{TextFault}
use Rattle.ic_flat.specs.declared.word.Word.{Word}
use Rattle.ic_text.specs.declared.token.Mark.TheVariants.{LeftBrace}
use Rattle.ic_text.specs.Token.{mark, tokens}
use Rattle.ic_text.specs.inner.Braces.{split_at_brace}
use Rattle.ic_text.specs.Source.{phrase_words}
use Rattle.ic_text.specs.SystemSource.{SystemPhrase, IsSystemPhrase, rules_words, system_words}
use Rattle.ic_text.specs.SystemSense.{system_sense_within}
use Rattle.ic_text.specs.inner.Words.{phrase_prefix, system_prefix}
use Rattle.ic_text.specs.inner.Built.{IsPaired}
use Rattle.ic_text.specs.inner.Counted.{fits, is_kept}
use Rattle.ic_text.specs.inner.Prefix.{nodes_of}
use Rattle.ic_text.specs.inner.Numbered.{counted_words, Refuses}
use Rattle.ic_text.proofs.Sensing.{Refuses-through}
use Rattle.ic_text.proofs.SensingSystem.{finished_system, paired-system}
use Rattle.ic_text.proofs.SystemPrefix.{Known, rules_before, system_words_are, counted, split-system, words_are, sense-known}
use Rattle.ic_text.proofs.JoinedPhrase.{joined_phrase, prefix-joined}
use Rattle.ic_text.proofs.Fitting.{counted-numbered}
use Rattle.ic_text.proofs.WithinLimits.{few_system_nodes, few_system_terms, served}
use Rattle.ic_text.proofs.system.sense_by_nodes.Goals as goal
use Rattle.ic_text.proofs.system.sense_by_nodes.Goals.{After-words-before, After-deref-2}

-- the text was split
parts_here : (text : List ℕ) (front rest : List ℕ) (s : SystemPhrase) → ◌≡◌ {A = List ℕ × List ℕ} (front, rest) (split_at_brace text) → tokens text ≡ Some (system_words s)
    → (tokens front ≡ Some (mark LeftBrace ∷ rules_words s.rules)) × (tokens rest ≡ Some (phrase_words s.config))
parts_here text front rest s split spelled =
    let found = split-system text s spelled in
    (ap (λ (p : List ℕ × List ℕ). tokens p.0) split ∙ found.0, ap (λ (p : List ℕ × List ℕ). tokens p.1) split ∙ found.1)

-- so its words are known
known_here : (c : After-words-before) (s : SystemPhrase) → tokens c.args.text.now ≡ Some (system_words s) → Known s c.in_ok-rules.rules c.in_ok-config.config
known_here c s spelled =
    let parts = parts_here c.args.text.now _ _ s c.split_at_brace.ensures spelled in
    record {
      rules_are = c.in_ok-rules.ensures.rules s.rules parts.0;
      agents_are = c.in_ok-rules.ensures.agents s.rules parts.0;
      config_are = c.in_ok-config.ensures.nodes s.config parts.1;
      terms_are = c.in_ok-config.ensures.terms s.config parts.1;
    }

pub prefix_of-requires : goal.prefix_of-requires
prefix_of-requires c =
    let s = c.requires.0 in
    (mark LeftBrace ∷ rules_words s.rules, (parts_here c.args.text.now _ _ s c.split_at_brace.ensures c.requires.1.tokens).0)

pub prefix_of-requires-2 : goal.prefix_of-requires-2
prefix_of-requires-2 c =
    let s = c.requires.0 in
    (phrase_words s.config, (parts_here c.args.text.now _ _ s c.split_at_brace.ensures c.requires.1.tokens).1)

pub excess_of-excess-requires : goal.excess_of-excess-requires
excess_of-excess-requires c =
    let s = c.requires.0 in
    let known = known_here (goal.at.excess_of-excess-requires c).After-words-before s c.requires.1.tokens in
    let counts = counted s c.in_ok-rules.rules c.in_ok-config.config known in (
      s,
      record {
        words = ap nodes_of (c.deref.ensures.value ∙ c.in_ok-append.ensures.items) ∙ counts.words;
        before = c.words-before.ensures ∙ counts.before;
        sides = counts.sides;
        interface = counts.interface;
      },
    )

kept_here : (c : After-deref-2) (s : SystemPhrase) → Known s c.in_ok-rules.rules c.in_ok-config.config → is_kept c.excess_of-excess.result ≡ fits c.args.limits s
kept_here c s known =
    let counts = counted s c.in_ok-rules.rules c.in_ok-config.config known in
    c.excess_of-excess.ensures s (record {
      words = ap nodes_of (c.deref.ensures.value ∙ c.in_ok-append.ensures.items) ∙ counts.words;
      before = c.words-before.ensures ∙ counts.before;
      sides = counts.sides;
      interface = counts.interface;
    })

-- the words that are numbered are those of the system
words_here : (c : After-deref-2) (s : SystemPhrase) → Known s c.in_ok-rules.rules c.in_ok-config.config → nodes_of c.deref-2.result.now ≡ system_prefix s
words_here c s known = ap nodes_of (c.deref-2.ensures.value ∙ c.in_ok-append.ensures.items) ∙ system_words_are s c.in_ok-rules.rules c.in_ok-config.config known

pub number_words-requires : goal.number_words-requires
number_words-requires c =
    let s = c.requires.0 in
    let known = known_here (goal.at.number_words-requires c).After-words-before s c.requires.1.tokens in
    rw (c.deref-2.ensures.value, c.in_ok-append.ensures.items) (words_are s c.in_ok-rules.rules c.in_ok-config.config known c.requires.1.phrase)

-- the sense is that of the words, unless they are too many
sense_here : (c : After-deref-2) (s : SystemPhrase) → IsSystemPhrase s → Known s c.in_ok-rules.rules c.in_ok-config.config
    → system_sense_within c.args.limits s ≡ finished_system c.words-before.result c.in_ok-config.config.terms (counted_words c.args.limits c.excess_of-excess.result (nodes_of c.deref-2.result.now))
sense_here c s is known =
    sense-known s c.in_ok-rules.rules c.in_ok-config.config known c.args.limits is c.excess_of-excess.result (kept_here c s known)
    ∙ (λ i. finished_system (sym c.words-before.ensures i) c.in_ok-config.config.terms (counted_words c.args.limits c.excess_of-excess.result (nodes_of (sym (c.deref-2.ensures.value ∙ c.in_ok-append.ensures.items) i))))

pub returns-in_err-symbols-clause-sense : goal.returns-in_err-symbols-clause-sense
returns-in_err-symbols-clause-sense c = λ s spells.
    let e = err_from_is_err_and c.from_residual-in_err-symbols.result c.from_residual-in_err-symbols.ensures.1 in
    let known = known_here (goal.at.returns-in_err-symbols-clause-sense c).After-words-before s spells.tokens in
    rw (e.1, e.2, sense_here (goal.at.returns-in_err-symbols-clause-sense c).After-deref-2 s spells.phrase known)
    (Refuses-through (finished_system c.words-before.result c.in_ok-config.config.terms) (λ _. refl) _ _ c.in_err-symbols.ensures)

-- and those of the configuration write it
paired_here : (c : After-deref-2) (s : SystemPhrase) → IsSystemPhrase s → Known s c.in_ok-rules.rules c.in_ok-config.config
    → (v : List Symbol × List Word) → Ok v ≡ counted_words c.args.limits c.excess_of-excess.result (nodes_of c.deref-2.result.now)
    → (c.words-before.result ≤ length v.1) × IsPaired (drop c.words-before.result v.1) c.in_ok-config.config.terms
paired_here c s is known v number =
    let own = number ∙ ap (counted_words c.args.limits c.excess_of-excess.result) (words_here c s known ∙ sym (prefix-joined s)) in
    let found = paired-system s is c.args.limits v (counted-numbered c.args.limits (phrase_prefix (joined_phrase s)) c.excess_of-excess.result v own) in
    rw (c.words-before.ensures ∙ rules_before s c.in_ok-rules.rules c.in_ok-config.config known, known.terms_are) found

pub system_of-requires-clause-inside : goal.system_of-requires-clause-inside
system_of-requires-clause-inside c =
    let s = c.requires.0 in
    let known = known_here (goal.at.system_of-requires-clause-inside c).After-words-before s c.requires.1.tokens in
    (paired_here (goal.at.system_of-requires-clause-inside c).After-deref-2 s c.requires.1.phrase known _ c.in_ok-symbols.ensures).0

pub system_of-requires-clause-paired : goal.system_of-requires-clause-paired
system_of-requires-clause-paired c =
    let s = c.requires.0 in
    let known = known_here (goal.at.system_of-requires-clause-paired c).After-words-before s c.requires.1.tokens in
    (paired_here (goal.at.system_of-requires-clause-paired c).After-deref-2 s c.requires.1.phrase known _ c.in_ok-symbols.ensures).1

-- what is refused after the numbering is so by the sense
refused_here : (limits : Limits) (s : SystemPhrase) (before terms : ℕ) (r : Result (List Symbol × List Word) TextFault) (v : List Symbol × List Word) (f : TextFault)
    → system_sense_within limits s ≡ finished_system before terms r → Ok v ≡ r
    → Refuses f (finished_system before terms (Ok v)) → Refuses f (system_sense_within limits s)
refused_here limits s before terms r v f sense_is number refused = rw (sense_is ∙ ap (finished_system before terms) (sym number)) refused

pub returns-clause-sense : goal.returns-clause-sense
returns-clause-sense c = λ s spells.
    let known = known_here (goal.at.returns-clause-sense c).After-words-before s spells.tokens in
    let sense_is = sense_here (goal.at.returns-clause-sense c).After-deref-2 s spells.phrase known in
    rw c.refusal_of.ensures (refused_here c.args.limits s c.words-before.result c.in_ok-config.config.terms (counted_words c.args.limits c.excess_of-excess.result (nodes_of c.deref-2.result.now)) (c.in_ok-symbols.symbols, c.in_ok-symbols.words.items) c.in-Err.fault sense_is c.in_ok-symbols.ensures c.in-Err.ensures)

-- what is answered is the sense
ok_is_sense : (limits : Limits) (s : SystemPhrase) (before terms : ℕ) (r : Result (List Symbol × List Word) TextFault) (v : List Symbol × List Word) (system : SystemParts)
    → system_sense_within limits s ≡ finished_system before terms r → Ok v ≡ r
    → Ok system ≡ finished_system before terms (Ok v) → Ok system ≡ system_sense_within limits s
ok_is_sense limits s before terms r v system sense_is number built = built ∙ ap (finished_system before terms) number ∙ sym sense_is

pub returns-in-Ok-clause-sense : goal.returns-in-Ok-clause-sense
returns-in-Ok-clause-sense c = λ s spells.
    let known = known_here (goal.at.returns-in-Ok-clause-sense c).After-words-before s spells.tokens in
    ok_is_sense c.args.limits s c.words-before.result c.in_ok-config.config.terms (counted_words c.args.limits c.excess_of-excess.result (nodes_of c.deref-2.result.now)) (c.in_ok-symbols.symbols, c.in_ok-symbols.words.items) _
    (sense_here (goal.at.returns-in-Ok-clause-sense c).After-deref-2 s spells.phrase known) c.in_ok-symbols.ensures c.in-Ok.ensures

pub returns-in-Ok-clause-nodes : goal.returns-in-Ok-clause-nodes
returns-in-Ok-clause-nodes c =
    let s = c.requires.0 in
    let known = known_here (goal.at.returns-in-Ok-clause-nodes c).After-words-before s c.requires.1.tokens in
    few_system_nodes c.args.limits s _
    (sym (ok_is_sense c.args.limits s c.words-before.result c.in_ok-config.config.terms (counted_words c.args.limits c.excess_of-excess.result (nodes_of c.deref-2.result.now)) (c.in_ok-symbols.symbols, c.in_ok-symbols.words.items) _
    (sense_here (goal.at.returns-in-Ok-clause-nodes c).After-deref-2 s c.requires.1.phrase known) c.in_ok-symbols.ensures c.in-Ok.ensures))

pub returns-in-Ok-clause-interface : goal.returns-in-Ok-clause-interface
returns-in-Ok-clause-interface c =
    let s = c.requires.0 in
    let known = known_here (goal.at.returns-in-Ok-clause-interface c).After-words-before s c.requires.1.tokens in
    few_system_terms c.args.limits s _
    (sym (ok_is_sense c.args.limits s c.words-before.result c.in_ok-config.config.terms (counted_words c.args.limits c.excess_of-excess.result (nodes_of c.deref-2.result.now)) (c.in_ok-symbols.symbols, c.in_ok-symbols.words.items) _
    (sense_here (goal.at.returns-in-Ok-clause-interface c).After-deref-2 s c.requires.1.phrase known) c.in_ok-symbols.ensures c.in-Ok.ensures))

pub returns-in-Ok-clause-served : goal.returns-in-Ok-clause-served
returns-in-Ok-clause-served c =
    let s = c.requires.0 in
    let known = known_here (goal.at.returns-in-Ok-clause-served c).After-words-before s c.requires.1.tokens in
    served c.args.limits s _
    (sym (ok_is_sense c.args.limits s c.words-before.result c.in_ok-config.config.terms (counted_words c.args.limits c.excess_of-excess.result (nodes_of c.deref-2.result.now)) (c.in_ok-symbols.symbols, c.in_ok-symbols.words.items) _
    (sense_here (goal.at.returns-in-Ok-clause-served c).After-deref-2 s c.requires.1.phrase known) c.in_ok-symbols.ensures c.in-Ok.ensures))
