-- The tokens of a system: its rules end at the first `}`, and the check of syntax accepts them.
use Rattle.std.proofs.Common.{◌≡◌, true, List, [], ◌∷◌, ◌++◌, map, refl, sym, ap, ◌∙◌, append_assoc}
use Rattle.std.specs.List.{flat_map, AllByRecursion}
use Rattle.ic_text.specs.declared.token.Mark.TheVariants.{RightBrace, Less, Greater, Comma, Semicolon, Open}
use Rattle.ic_text.specs.declared.syntax.Part.TheVariants.{Start, RuleLeft, RuleRight, Begin}
use Rattle.ic_text.specs.declared.syntax.Spot.{Spot}
use Rattle.ic_text.specs.declared.syntax.Spot.TheVariants.{FirstAgent, DueAgent, After}
use Rattle.ic_text.specs.Token.{Token, word, mark}
use Rattle.ic_text.specs.Source.{Source, leaf, node, Sources, no_sources, more_sources, words, argument_words, further_words, phrase_words}
use Rattle.ic_text.specs.inner.Syntax.{accepts}
use Rattle.ic_text.specs.SystemSource.{RulePhrase, SystemPhrase, IsRulePhrase, IsSystemPhrase, agent_source, rule_words, rules_words, system_words}
use Rattle.ic_text.proofs.Accepted.{at, TakesAgent, IsClosed, accepts-agent_words}
use Rattle.ic_text.proofs.Grammar.{accepts-phrase_words}

-- the tokens before the first `}`, and those after it
abbrev pub split_at_brace : List Token → List Token × List Token
split_at_brace [] = ([], [])
split_at_brace (mark RightBrace ∷ ts) = ([], ts)
split_at_brace (t ∷ ts) = let rest = split_at_brace ts in (t ∷ rest.0, rest.1)

-- tokens in front of those before the first `}`
abbrev pub in_front : List Token → List Token × List Token → List Token × List Token
in_front front parts = (front ++ parts.0, parts.1)

-- tokens without a `}` stay in front of what is split after them
abbrev StaysInFront : List Token → List Token → Type 0
StaysInFront ts r = split_at_brace (ts ++ r) ≡ in_front ts (split_at_brace r)

split-joined : (ts us r : List Token) → StaysInFront ts (us ++ r) → StaysInFront us r → StaysInFront (ts ++ us) r
split-joined ts us r first second =
    let parts = split_at_brace r in
    ap split_at_brace (append_assoc ts us r)
    ∙ first
    ∙ ap (in_front ts) second
    ∙ ap (λ vs. (vs, parts.1)) (sym (append_assoc ts us parts.0))

mutual
  split-words : (t : Source) (r : List Token) → StaysInFront (words t) r
  split-words (leaf n) r = refl
  split-words (node text ts) r = ap (in_front (word text ∷ [])) (split-arguments ts r)

  split-arguments : (ts : Sources) (r : List Token) → StaysInFront (argument_words ts) r
  split-arguments no_sources r = refl
  split-arguments (more_sources t ts) r =
      let first = split-words t (further_words ts ++ r) in
      ap (in_front (mark Open ∷ [])) (split-joined (words t) (further_words ts) r first (split-further ts r))

  split-further : (ts : Sources) (r : List Token) → StaysInFront (further_words ts) r
  split-further no_sources r = refl
  split-further (more_sources t ts) r =
      let first = split-words t (further_words ts ++ r) in
      ap (in_front (mark Comma ∷ [])) (split-joined (words t) (further_words ts) r first (split-further ts r))

split-rule_words : (rule : RulePhrase) (r : List Token) → StaysInFront (rule_words rule) r
split-rule_words rule r =
    let turn = mark Greater ∷ mark Less ∷ [] in
    let right = words (agent_source rule.right) in
    let first = split-words (agent_source rule.left) (turn ++ (right ++ r)) in
    let second = ap (in_front turn) (split-words (agent_source rule.right) r) in
    split-joined (words (agent_source rule.left)) (turn ++ right) r first second

-- lists of tokens, each after a `;`
abbrev pub after_semicolons : List (List Token) → List Token
after_semicolons tss = flat_map (λ us. mark Semicolon ∷ us) tss

split-rules_after : (rs : List RulePhrase) (r : List Token)
    → split_at_brace (after_semicolons (map rule_words rs) ++ mark RightBrace ∷ r)
    ≡ (after_semicolons (map rule_words rs), r)
split-rules_after [] r = refl
split-rules_after (rule ∷ rs) r =
    let after = after_semicolons (map rule_words rs) in
    ap (λ ts. split_at_brace (mark Semicolon ∷ ts)) (append_assoc (rule_words rule) after (mark RightBrace ∷ r))
    ∙ ap (in_front (mark Semicolon ∷ [])) (split-rule_words rule (after ++ mark RightBrace ∷ r))
    ∙ ap (in_front (mark Semicolon ∷ rule_words rule)) (split-rules_after rs r)

-- the rules stand before the first `}`, and the configuration after it
pub split-rules_words : (rs : List RulePhrase) (r : List Token)
    → split_at_brace (rules_words rs ++ mark RightBrace ∷ r) ≡ (rules_words rs, r)
split-rules_words [] r = refl
split-rules_words (rule ∷ rs) r =
    let after = after_semicolons (map rule_words rs) in
    ap split_at_brace (append_assoc (rule_words rule) after (mark RightBrace ∷ r))
    ∙ split-rule_words rule (after ++ mark RightBrace ∷ r)
    ∙ ap (in_front (rule_words rule)) (split-rules_after rs r)

semicolons_are_closed : (tss : List (List Token)) (r : List Token) → IsClosed r → IsClosed (after_semicolons tss ++ r)
semicolons_are_closed [] r closed = closed
semicolons_are_closed (ts ∷ tss) r closed = tt

accepts-rule_words : (rule : RulePhrase) (s : Spot) (r : List Token) → IsRulePhrase rule → TakesAgent s → IsClosed r
    → accepts (at RuleLeft s 0) (rule_words rule ++ r) ≡ accepts (at RuleRight After 0) r
accepts-rule_words rule s r is takes closed =
    let left = words (agent_source rule.left) in
    let right = words (agent_source rule.right) in
    ap (accepts (at RuleLeft s 0)) (append_assoc left (mark Greater ∷ mark Less ∷ right) r)
    ∙ accepts-agent_words rule.left RuleLeft s (mark Greater ∷ mark Less ∷ (right ++ r)) is.0 takes tt
    ∙ accepts-agent_words rule.right RuleRight DueAgent r is.1 tt closed

rules_after : (rs : List RulePhrase) (r : List Token) → AllByRecursion IsRulePhrase rs → IsClosed r
    → accepts (at RuleRight After 0) (after_semicolons (map rule_words rs) ++ r) ≡ accepts (at RuleRight After 0) r
rules_after [] r are closed = refl
rules_after (rule ∷ rs) r are closed =
    let after = after_semicolons (map rule_words rs) in
    ap (accepts (at RuleLeft DueAgent 0)) (append_assoc (rule_words rule) after r)
    ∙ accepts-rule_words rule DueAgent (after ++ r) are.0 tt (semicolons_are_closed (map rule_words rs) r closed)
    ∙ rules_after rs r are.1 closed

accepts-rules_words : (rs : List RulePhrase) (r : List Token) → AllByRecursion IsRulePhrase rs
    → accepts (at RuleLeft FirstAgent 0) (rules_words rs ++ mark RightBrace ∷ r) ≡ accepts (at Begin After 0) r
accepts-rules_words [] r are = refl
accepts-rules_words (rule ∷ rs) r are =
    let after = after_semicolons (map rule_words rs) in
    let closed = semicolons_are_closed (map rule_words rs) (mark RightBrace ∷ r) tt in
    ap (accepts (at RuleLeft FirstAgent 0)) (append_assoc (rule_words rule) after (mark RightBrace ∷ r))
    ∙ accepts-rule_words rule FirstAgent (after ++ mark RightBrace ∷ r) are.0 tt closed
    ∙ rules_after rs (mark RightBrace ∷ r) are.1 tt

-- each system is accepted
pub accepts-system_words : (s : SystemPhrase) → IsSystemPhrase s → accepts (at Start After 0) (system_words s) ≡ true
accepts-system_words s is =
    accepts-rules_words s.rules (phrase_words s.config) is.rules ∙ accepts-phrase_words s.config is.config
