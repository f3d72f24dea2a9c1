-- A text spells at most one system.
use Rattle.std.proofs.Common.{◌≡◌, List, [], ◌∷◌, ◌++◌, map, refl, sym, ap, ◌∙◌, append_assoc}
use Rattle.std.specs.List.{AllByRecursion}
use Rattle.ic_text.specs.declared.token.Mark.TheVariants.{RightBrace, Less, Greater, Bar, Equals, Comma, Semicolon, Open}
use Rattle.ic_text.specs.declared.syntax.Part.TheVariants.{Start}
use Rattle.ic_text.specs.declared.syntax.Spot.TheVariants.{After}
use Rattle.ic_text.specs.Token.{Token, word, mark}
use Rattle.ic_text.specs.Source.{Source, leaf, node, Sources, no_sources, more_sources, Sides, Phrase, IsPhrase, words, argument_words, further_words, sides_words, separated, phrase_words}
use Rattle.ic_text.specs.inner.Syntax.{accepts}
use Rattle.ic_text.specs.SystemSource.{AgentPhrase, RulePhrase, SystemPhrase, IsRulePhrase, IsSystemPhrase, agent_source, rule_words, rules_words, system_words}
use Rattle.ic_text.proofs.Accepted.{at}
use Rattle.ic_text.proofs.Grammar.{after_commas, AreSides}
use Rattle.ic_text.proofs.GrammarSystem.{after_semicolons, split_at_brace, split-rules_words}
use Rattle.ic_text.proofs.FoundSystem.{SystemSpelledBy-accepts, accepts-SystemSpelledBy}
use Rattle.ic_text.proofs.OneReading.{phrase_words-injective}
use Rattle.ic_text.specs.lemmas.ReadOnce.{IsTold}

-- the tokens of rules as those of equations: `><` as `=`, `;` as `,`
abbrev as_equations : List Token → List Token
as_equations [] = []
as_equations (mark Less ∷ ts) = as_equations ts
as_equations (mark Greater ∷ ts) = mark Equals ∷ as_equations ts
as_equations (mark Semicolon ∷ ts) = mark Comma ∷ as_equations ts
as_equations (t ∷ ts) = t ∷ as_equations ts

-- tokens without those marks stay as they are
abbrev Stays : List Token → List Token → Type 0
Stays ts r = as_equations (ts ++ r) ≡ ts ++ as_equations r

equations-joined : (ts us r : List Token) → Stays ts (us ++ r) → Stays us r → Stays (ts ++ us) r
equations-joined ts us r first second =
    ap as_equations (append_assoc ts us r)
    ∙ first
    ∙ ap (λ x. ts ++ x) second
    ∙ sym (append_assoc ts us (as_equations r))

mutual
  equations-words : (t : Source) (r : List Token) → Stays (words t) r
  equations-words (leaf n) r = refl
  equations-words (node text ts) r = ap (λ x. word text ∷ x) (equations-arguments ts r)

  equations-arguments : (ts : Sources) (r : List Token) → Stays (argument_words ts) r
  equations-arguments no_sources r = refl
  equations-arguments (more_sources t ts) r =
      let first = equations-words t (further_words ts ++ r) in
      ap (λ x. mark Open ∷ x) (equations-joined (words t) (further_words ts) r first (equations-further ts r))

  equations-further : (ts : Sources) (r : List Token) → Stays (further_words ts) r
  equations-further no_sources r = refl
  equations-further (more_sources t ts) r =
      let first = equations-words t (further_words ts ++ r) in
      ap (λ x. mark Comma ∷ x) (equations-joined (words t) (further_words ts) r first (equations-further ts r))

-- a rule as an equation, and back
abbrev rule_sides : RulePhrase → Sides
rule_sides r = record { left = agent_source r.left; right = agent_source r.right }

abbrev agent_from : Source → AgentPhrase
agent_from (leaf n) = record { text = []; arguments = no_sources }
agent_from (node text ts) = record { text = text; arguments = ts }

abbrev rule_from : Sides → RulePhrase
rule_from e = record { left = agent_from e.left; right = agent_from e.right }

rules_from-rule_sides : (rs : List RulePhrase) → map rule_from (map rule_sides rs) ≡ rs
rules_from-rule_sides [] = refl
rules_from-rule_sides (rule ∷ rs) = ap (λ l. rule ∷ l) (rules_from-rule_sides rs)

equations-rule_words : (rule : RulePhrase) (r : List Token)
    → as_equations (rule_words rule ++ r) ≡ sides_words (rule_sides rule) ++ as_equations r
equations-rule_words rule r =
    let left = words (agent_source rule.left) in
    let right = words (agent_source rule.right) in
    ap as_equations (append_assoc left (mark Greater ∷ mark Less ∷ right) r)
    ∙ equations-words (agent_source rule.left) (mark Greater ∷ mark Less ∷ (right ++ r))
    ∙ ap (λ x. left ++ mark Equals ∷ x) (equations-words (agent_source rule.right) r)
    ∙ sym (append_assoc left (mark Equals ∷ right) (as_equations r))

equations-after : (rs : List RulePhrase)
    → as_equations (after_semicolons (map rule_words rs)) ≡ after_commas (map sides_words (map rule_sides rs))
equations-after [] = refl
equations-after (rule ∷ rs) =
    let first = equations-rule_words rule (after_semicolons (map rule_words rs)) in
    ap (λ x. mark Comma ∷ x) (first ∙ ap (λ x. sides_words (rule_sides rule) ++ x) (equations-after rs))

equations-rules_words : (rs : List RulePhrase)
    → as_equations (rules_words rs) ≡ separated Comma (map sides_words (map rule_sides rs))
equations-rules_words [] = refl
equations-rules_words (rule ∷ rs) =
    let first = equations-rule_words rule (after_semicolons (map rule_words rs)) in
    first ∙ ap (λ x. sides_words (rule_sides rule) ++ x) (equations-after rs)

-- a configuration of the rules' equations
abbrev rules_phrase : List RulePhrase → Phrase
rules_phrase rs = record { interface = []; equations = map rule_sides rs }

are_sides : (rs : List RulePhrase) → AllByRecursion IsRulePhrase rs → AreSides (map rule_sides rs)
are_sides [] are = tt
are_sides (rule ∷ rs) are = (are.0, are_sides rs are.1)

is_rules_phrase : (rs : List RulePhrase) → AllByRecursion IsRulePhrase rs → IsPhrase (rules_phrase rs)
is_rules_phrase rs are = record { interface = tt; equations = are_sides rs are }

rules_words-injective : (rs qs : List RulePhrase) → AllByRecursion IsRulePhrase rs → AllByRecursion IsRulePhrase qs
    → rules_words rs ≡ rules_words qs → rs ≡ qs
rules_words-injective rs qs are_r are_q same =
    let same_equations = sym (equations-rules_words rs) ∙ ap as_equations same ∙ equations-rules_words qs in
    let same_words = ap (λ x. mark Less ∷ mark Bar ∷ (x ++ mark Greater ∷ [])) same_equations in
    let is_r = is_rules_phrase rs are_r in
    let is_q = is_rules_phrase qs are_q in
    let same_phrase = phrase_words-injective (rules_phrase rs) (rules_phrase qs) is_r is_q same_words in
    sym (rules_from-rule_sides rs)
    ∙ ap (λ (p : Phrase). map rule_from p.equations) same_phrase
    ∙ rules_from-rule_sides qs

-- the tokens after the `{`
abbrev tokens_inside : SystemPhrase → List Token
tokens_inside s = rules_words s.rules ++ mark RightBrace ∷ phrase_words s.config

split-inside : (s : SystemPhrase) → split_at_brace (tokens_inside s) ≡ (rules_words s.rules, phrase_words s.config)
split-inside s = split-rules_words s.rules (phrase_words s.config)

pub system_words-injective : (s t : SystemPhrase) → IsSystemPhrase s → IsSystemPhrase t
    → system_words s ≡ system_words t → s ≡ t
system_words-injective s t is_s is_t same =
    let same_inside : tokens_inside s ≡ tokens_inside t = cc in
    let same_parts = sym (split-inside s) ∙ ap split_at_brace same_inside ∙ split-inside t in
    let same_rule_words = ap (λ (parts : List Token × List Token). parts.0) same_parts in
    let same_config_words = ap (λ (parts : List Token × List Token). parts.1) same_parts in
    let same_rules = rules_words-injective s.rules t.rules is_s.rules is_t.rules same_rule_words in
    let same_config = phrase_words-injective s.config t.config is_s.config is_t.config same_config_words in
    λ i. record { rules = same_rules i; config = same_config i }

abbrev pub told_systems : IsTold IsSystemPhrase system_words
told_systems = record {
  test = accepts (at Start After 0);
  found = SystemSpelledBy-accepts;
  only = accepts-SystemSpelledBy;
  injective = system_words-injective;
}
