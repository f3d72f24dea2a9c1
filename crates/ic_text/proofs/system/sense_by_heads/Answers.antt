use Rattle.std.proofs.Common.{◌≡◌, ℕ, ◌*◌, ◌∷◌, ◌++◌, ◌&&◌, true, List, Some, Ok, sym, ap, ◌∙◌, arith}
use Rattle.std.specs.Prelude.{nat_le}
use Rattle.ic_text.specs.Limits.{most_interface, most_nodes, most_rules}
use Rattle.ic_text.specs.inner.Counted.{fits, rule_nodes_keep}
use Rattle.ic_text.specs.inner.Numbered.{numbered_words}
use Rattle.ic_text.specs.inner.Prefix.{head_words, nodes_of}
use Rattle.ic_term.specs.Symbol.{Symbol}
use Rattle.ic_flat.specs.declared.word.Word.{Word}
use Rattle.ic_text.specs.declared.token.Mark.TheVariants.{LeftBrace}
use Rattle.ic_text.specs.Token.{mark, tokens}
use Rattle.ic_text.specs.inner.Braces.{split_at_brace}
use Rattle.ic_text.specs.Source.{phrase_words}
use Rattle.ic_text.specs.SystemSource.{SystemPhrase, rules_words, system_words}
use Rattle.ic_text.proofs.SystemPrefix.{split-system}
use Rattle.ic_text.proofs.ByHeads.{Outlined, config_words, fits_here, paired_outlined, rules_room, rules_words as words_of_rules, sense_outlined}
use Rattle.ic_text.proofs.Heads.{few_numbered}
use Rattle.ic_text.proofs.SensingSystem.{finished_system}
use Rattle.ic_text.proofs.system.sense_by_heads.Goals as goal
use Rattle.ic_text.proofs.system.sense_by_heads.Goals.{After-words-before, In_ok-symbols}

-- the text was split
parts_here : (text : List ℕ) (front rest : List ℕ) (s : SystemPhrase) → ◌≡◌ {A = List ℕ × List ℕ} (front, rest) (split_at_brace text) → tokens text ≡ Some (system_words s)
    → (tokens front ≡ Some (mark LeftBrace ∷ rules_words s.rules)) × (tokens rest ≡ Some (phrase_words s.config))
parts_here text front rest s split spelled =
    let found = split-system text s spelled in
    (ap (λ (p : List ℕ × List ℕ). tokens p.0) split ∙ found.0, ap (λ (p : List ℕ × List ℕ). tokens p.1) split ∙ found.1)

pub prefix_of-requires : goal.prefix_of-requires
prefix_of-requires c =
    let s = c.requires.0 in
    (mark LeftBrace ∷ rules_words s.rules, (parts_here c.args.text.now _ _ s c.split_at_brace.ensures c.requires.1.tokens).0)

pub outline_of-requires : goal.outline_of-requires
outline_of-requires c =
    let s = c.requires.0 in
    (phrase_words s.config, (parts_here c.args.text.now _ _ s c.split_at_brace.ensures c.requires.1.tokens).1)

-- so its words are known
known_here : (c : After-words-before) (s : SystemPhrase) → tokens c.args.text.now ≡ Some (system_words s) → Outlined s c.in_ok-rules.rules c.split_at_brace.result.1.now c.in_ok-config.config
known_here c s spelled =
    let parts = parts_here c.args.text.now _ _ s c.split_at_brace.ensures spelled in
    record {
      rules_are = c.in_ok-rules.ensures.rules s.rules parts.0;
      agents_are = c.in_ok-rules.ensures.agents s.rules parts.0;
      config_are = c.in_ok-config.ensures.nodes s.config parts.1;
      terms_are = c.in_ok-config.ensures.terms s.config parts.1;
    }

pub is_within-requires : goal.is_within-requires
is_within-requires c =
    let s = c.requires.0 in
    let known = known_here (goal.at.is_within-requires c).After-words-before s c.requires.1.tokens in
    rw c.deref.ensures.value (rules_room c.args.limits s c.requires.1.phrase _ _ _ known (omega (arith, c.words-before.ensures)))

pub number_words-requires : goal.number_words-requires
number_words-requires c =
    let s = c.requires.0 in
    let known = known_here (goal.at.number_words-requires c).After-words-before s c.requires.1.tokens in
    rw c.deref-2.ensures.value (words_of_rules c.args.limits s c.requires.1.phrase _ _ _ known)

pub number_heads-requires-clause-words : goal.number_heads-requires-clause-words
number_heads-requires-clause-words c =
    let s = c.requires.0 in
    let known = known_here (goal.at.number_heads-requires-clause-words c).After-words-before s c.requires.1.tokens in
    rw c.deref-3.ensures.value (config_words c.args.limits s c.requires.1.phrase _ _ _ known)

pub number_heads-requires-clause-few : goal.number_heads-requires-clause-few
number_heads-requires-clause-few c = few_numbered c.args.limits (nodes_of c.deref-2.result.now) (c.in_ok-table.table, c.in_ok-table.numbered.items) c.in_ok-table.ensures

-- the words have these numbers
numbers_here : (c : In_ok-symbols) → Ok (c.in_ok-symbols.symbols, c.in_ok-symbols.words.items)
    ≡ numbered_words c.args.limits (nodes_of c.in_ok-rules.rules.nodes.items ++ head_words c.split_at_brace.result.1.now c.in_ok-config.config.heads.items)
numbers_here c =
    c.in_ok-symbols.ensures (nodes_of c.deref-2.result.now) c.in_ok-table.ensures
    ∙ (λ i. numbered_words c.args.limits (nodes_of (c.deref-2.ensures.value i) ++ head_words c.split_at_brace.result.1.now (c.deref-3.ensures.value i)))

pub system_of-requires-clause-inside : goal.system_of-requires-clause-inside
system_of-requires-clause-inside c =
    let s = c.requires.0 in
    let known = known_here (goal.at.system_of-requires-clause-inside c).After-words-before s c.requires.1.tokens in
    rw c.words-before.ensures (paired_outlined c.args.limits s c.requires.1.phrase _ _ _ known _ (numbers_here (goal.at.system_of-requires-clause-inside c).In_ok-symbols)).0

pub system_of-requires-clause-paired : goal.system_of-requires-clause-paired
system_of-requires-clause-paired c =
    let s = c.requires.0 in
    let known = known_here (goal.at.system_of-requires-clause-paired c).After-words-before s c.requires.1.tokens in
    rw c.words-before.ensures (paired_outlined c.args.limits s c.requires.1.phrase _ _ _ known _ (numbers_here (goal.at.system_of-requires-clause-paired c).In_ok-symbols)).1

pub returns-in-Ok : goal.returns-in-Ok
returns-in-Ok c = λ s spells.
    let limits = c.args.limits in
    let rules = c.in_ok-rules.rules in
    let config = c.in_ok-config.config in
    let known = known_here (goal.at.returns-in-Ok c).After-words-before s spells.tokens in
    let kept : true ≡ fits limits s =
    sym c.if-not-is_within.false ∙ c.is_within.ensures
    ∙ (λ i. (nat_le rules.terms (2 * most_rules limits) && rule_nodes_keep limits rules.terms (nodes_of (c.deref.ensures.value i)))
    && (nat_le config.terms (most_interface limits) && nat_le (c.words-many.ensures i) (most_nodes limits)))
    ∙ fits_here limits s spells.phrase rules c.split_at_brace.result.1.now config known in
    let v : List Symbol × List Word = (c.in_ok-symbols.symbols, c.in_ok-symbols.words.items) in
    c.in-Ok.ensures ∙ (λ i. finished_system (c.words-before.ensures i) config.terms (Ok v))
    ∙ sym (sense_outlined limits s spells.phrase rules c.split_at_brace.result.1.now config known v (numbers_here (goal.at.returns-in-Ok c).In_ok-symbols) kept)
