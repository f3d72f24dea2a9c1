-- Symbols and names stand in the order of the words of a text.
use Rattle.std.proofs.Common.{◌≡◌, Bool, true, false, not, cond, List, [], ◌∷◌, ◌++◌, map, refl, sym, ap, ◌∙◌, append-nil}
use Rattle.std.specs.List.{flat_map, filter}
use Rattle.std.proofs.lemmas.List.{map-append}
use Rattle.ic_term.specs.Symbol.{Symbol, texts}
use Rattle.ic_text.specs.declared.token.Mark.{Mark}
use Rattle.ic_text.specs.declared.token.Mark.TheVariants.{RightBrace, Less, Greater, Bar, Equals, Comma, Semicolon}
use Rattle.ic_text.specs.Token.{Token, mark, words_among}
use Rattle.ic_text.specs.Name.{is_name, name_number}
use Rattle.ic_text.specs.Source.{Source, leaf, node, Sources, no_sources, more_sources, Sides, Phrase, IsPhrase, words, argument_words, further_words, sides_words, separated, phrase_words, source_symbols, phrase_symbols, phrase_names}
use Rattle.ic_text.specs.SystemSource.{RulePhrase, SystemPhrase, IsSystemPhrase, agent_source, rule_words, rules_words, system_words, rule_symbols, system_symbols}
use Rattle.ic_text.specs.Sense.{symbols_after}
use Rattle.ic_text.specs.SystemSense.{system_table}
use Rattle.ic_text.specs.inner.Words.{prefix, prefix_of_sources, phrase_prefix, rules_prefix, symbols_among, names_among}
use Rattle.ic_text.proofs.PrefixWords.{symbols_among-phrase, names_among-phrase}
use Rattle.ic_text.proofs.JoinedPhrase.{joined_phrase, prefix-joined, symbols-joined, is-joined}
use Rattle.ic_text.specs.lemmas.SymbolOrder.{symbols_after-append}
use Rattle.ic_text.specs.lemmas.WordRuns.{words_among-append}

-- words in front of words
both : (ts us : List Token) (v w : List Symbol) → words_among ts ≡ texts v → words_among us ≡ texts w
    → words_among (ts ++ us) ≡ texts (v ++ w)
both ts us v w first second =
    words_among-append ts us ∙ (λ i. first i ++ second i) ∙ sym (map-append (λ (s : Symbol). s.text) v w)

-- the words of a term are those of its prefix notation
mutual
  among-words : (t : Source) → words_among (words t) ≡ texts (prefix t)
  among-words (leaf n) = refl
  among-words (node text ts) = ap (λ l. text ∷ l) (among-arguments ts)

  among-arguments : (ts : Sources) → words_among (argument_words ts) ≡ texts (prefix_of_sources ts)
  among-arguments no_sources = refl
  among-arguments (more_sources t ts) =
      both (words t) (further_words ts) (prefix t) (prefix_of_sources ts) (among-words t) (among-further ts)

  among-further : (ts : Sources) → words_among (further_words ts) ≡ texts (prefix_of_sources ts)
  among-further no_sources = refl
  among-further (more_sources t ts) =
      both (words t) (further_words ts) (prefix t) (prefix_of_sources ts) (among-words t) (among-further ts)

module _ {X : Type 0} (f : X → List Token) (g : X → List Symbol) (same : (x : X) → words_among (f x) ≡ texts (g x)) (m : Mark) where
  among-after : (xs : List X) → words_among (flat_map (λ us. mark m ∷ us) (map f xs)) ≡ texts (flat_map g xs)
  among-after [] = refl
  among-after (x ∷ xs) = both (f x) (flat_map (λ us. mark m ∷ us) (map f xs)) (g x) (flat_map g xs) (same x) (among-after xs)

  among-separated : (xs : List X) → words_among (separated m (map f xs)) ≡ texts (flat_map g xs)
  among-separated [] = refl
  among-separated (x ∷ xs) = both (f x) (flat_map (λ us. mark m ∷ us) (map f xs)) (g x) (flat_map g xs) (same x) (among-after xs)

among-sides : (e : Sides) → words_among (sides_words e) ≡ texts (prefix e.left ++ prefix e.right)
among-sides e = both (words e.left) (mark Equals ∷ words e.right) (prefix e.left) (prefix e.right) (among-words e.left) (among-words e.right)

among-rule : (r : RulePhrase) → words_among (rule_words r) ≡ texts (prefix (agent_source r.left) ++ prefix (agent_source r.right))
among-rule r =
    let left = agent_source r.left in
    let right = agent_source r.right in
    both (words left) (mark Greater ∷ mark Less ∷ words right) (prefix left) (prefix right) (among-words left) (among-words right)

pub among-phrase : (p : Phrase) → words_among (phrase_words p) ≡ texts (phrase_prefix p)
among-phrase p =
    let equations = separated Comma (map sides_words p.equations) in
    let sides = flat_map (λ (e : Sides). prefix e.left ++ prefix e.right) p.equations in
    let last : words_among (equations ++ mark Greater ∷ []) ≡ texts sides =
    words_among-append equations (mark Greater ∷ []) ∙ append-nil (words_among equations) ∙ among-separated sides_words (λ e. prefix e.left ++ prefix e.right) among-sides Comma p.equations in
    both (separated Comma (map words p.interface)) (mark Bar ∷ (equations ++ mark Greater ∷ [])) (flat_map prefix p.interface) sides
    (among-separated words prefix among-words Comma p.interface) last

pub among-system : (s : SystemPhrase) → words_among (system_words s) ≡ texts (phrase_prefix (joined_phrase s))
among-system s =
    both (rules_words s.rules) (mark RightBrace ∷ phrase_words s.config) (rules_prefix s.rules) (phrase_prefix s.config)
    (among-separated rule_words (λ r. prefix (agent_source r.left) ++ prefix (agent_source r.right)) among-rule Semicolon s.rules) (among-phrase s.config)
    ∙ ap texts (sym (prefix-joined s))

-- symbols and names among words, by their texts alone
texts-symbols_among : (ws : List Symbol) → texts (symbols_among ws) ≡ filter (λ w. not (is_name w)) (texts ws)
texts-symbols_among [] = refl
texts-symbols_among (w ∷ ws) = by_name (is_name w.text) (texts-symbols_among ws)
  where
    by_name : (b : Bool) → texts (symbols_among ws) ≡ filter (λ v. not (is_name v)) (texts ws)
        → texts (cond b (symbols_among ws) (w ∷ symbols_among ws)) ≡ cond (not b) (w.text ∷ filter (λ v. not (is_name v)) (texts ws)) (filter (λ v. not (is_name v)) (texts ws))
    by_name true e = e
    by_name false e = ap (λ l. w.text ∷ l) e

names_among-texts : (ws : List Symbol) → names_among ws ≡ map name_number (filter is_name (texts ws))
names_among-texts [] = refl
names_among-texts (w ∷ ws) = by_name (is_name w.text) (names_among-texts ws)
  where
    by_name : (b : Bool) → names_among ws ≡ map name_number (filter is_name (texts ws))
        → cond b (name_number w.text ∷ names_among ws) (names_among ws) ≡ map name_number (cond b (w.text ∷ filter is_name (texts ws)) (filter is_name (texts ws)))
    by_name true e = ap (λ l. name_number w.text ∷ l) e
    by_name false e = e

pub symbols_in_text_order : (s : SystemPhrase) → IsSystemPhrase s
    → texts (system_symbols s) ≡ filter (λ w. not (is_name w)) (words_among (system_words s))
symbols_in_text_order s is =
    let p = joined_phrase s in
    ap texts (sym (symbols_among-phrase p (is-joined s is) ∙ symbols-joined s))
    ∙ texts-symbols_among (phrase_prefix p)
    ∙ ap (filter (λ w. not (is_name w))) (sym (among-system s))

pub phrase_symbols_in_text_order : (p : Phrase) → IsPhrase p
    → texts (phrase_symbols p) ≡ filter (λ w. not (is_name w)) (words_among (phrase_words p))
phrase_symbols_in_text_order p is =
    ap texts (sym (symbols_among-phrase p is))
    ∙ texts-symbols_among (phrase_prefix p)
    ∙ ap (filter (λ w. not (is_name w))) (sym (among-phrase p))

pub names_in_text_order : (p : Phrase) → IsPhrase p
    → phrase_names p ≡ map name_number (filter is_name (words_among (phrase_words p)))
names_in_text_order p is =
    sym (names_among-phrase p is)
    ∙ names_among-texts (phrase_prefix p)
    ∙ ap (λ ws. map name_number (filter is_name ws)) (sym (among-phrase p))

-- the table of a system grows over its rules, then over its interface, then over its equations
pub system_table-parts : (s : SystemPhrase) → system_table s
    ≡ symbols_after (symbols_after (symbols_after [] (flat_map rule_symbols s.rules)) (flat_map source_symbols s.config.interface)) (flat_map (λ e. source_symbols e.left ++ source_symbols e.right) s.config.equations)
system_table-parts s =
    symbols_after-append (flat_map rule_symbols s.rules) (phrase_symbols s.config) []
    ∙ symbols_after-append (flat_map source_symbols s.config.interface) _ (symbols_after [] (flat_map rule_symbols s.rules))
