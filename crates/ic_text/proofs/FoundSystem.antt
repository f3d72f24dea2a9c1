-- A whole system that the check of syntax accepts.
use Rattle.std.proofs.Common.{◌≡◌, ℕ, zero, suc, ◌≤◌, Bool, true, false, cond, List, [], ◌∷◌, ◌++◌, None, Some, map, length, refl, sym, ap, ◌∙◌, append_assoc, arith}
use Rattle.std.specs.List.{AllByRecursion}
use Rattle.std.proofs.lemmas.Bool.{false≢true}
use Rattle.ic_term.specs.Symbol.{is_symbol_text}
use Rattle.ic_text.specs.declared.token.Mark.TheVariants.{LeftBrace, RightBrace, Less, Greater, Semicolon}
use Rattle.ic_text.specs.declared.syntax.Part.{Part}
use Rattle.ic_text.specs.declared.syntax.Part.TheVariants.{Start, RuleLeft, Turn, RuleRight, Begin}
use Rattle.ic_text.specs.declared.syntax.Spot.TheVariants.{FirstAgent, DueAgent, Symbol, After}
use Rattle.ic_text.specs.Token.{Token, word, mark}
use Rattle.ic_text.specs.Source.{IsSource, words, separated}
use Rattle.ic_text.specs.inner.Syntax.{beside, either_step, accepts}
use Rattle.ic_text.specs.SystemSource.{AgentPhrase, RulePhrase, IsRulePhrase, SystemPhrase, IsSystemPhrase, agent_source, rule_words, rules_words, system_words}
use Rattle.ic_text.proofs.Accepted.{at}
use Rattle.ic_text.proofs.Found.{IsInner, goes_on, arguments_due, rest_is_less}
use Rattle.ic_text.proofs.FoundPhrase.{SpelledBy-accepts}
use Rattle.ic_text.proofs.GrammarSystem.{after_semicolons, accepts-system_words}

-- some system has these tokens
abbrev pub SystemSpelledBy : List Token → Type 0
SystemSpelledBy ts = (s : SystemPhrase) × IsSystemPhrase s × (ts ≡ system_words s)

-- the tokens begin with an agent
record AgentFound (p : Part) (ts : List Token) : Type 0 where
  agent : AgentPhrase
  is : IsSource (agent_source agent)
  rest : List Token
  spelled : ts ≡ words (agent_source agent) ++ rest
  goes : accepts (at p After 0) rest ≡ true

agent_due : (ts : List Token) (p : Part) → IsInner p → accepts (at p DueAgent 0) ts ≡ true → AgentFound p ts
agent_due [] p inner goes = absurd (goes_on p DueAgent 0 inner goes)
agent_due (mark m ∷ ts) p inner goes = absurd (false≢true goes)
agent_due (word text ∷ ts) p inner goes = by_word (is_symbol_text text) refl goes
  where
    by_word : (b : Bool) → is_symbol_text text ≡ b
        → accepts (either_step p DueAgent 0 (word text) (beside 0 (cond b (Some Symbol) None))) ts ≡ true
        → AgentFound p (word text ∷ ts)
    by_word true symbol goes =
        let found = arguments_due ts p inner goes in
        record {
          agent = record { text = text; arguments = found.terms };
          is = (symbol, found.are);
          rest = found.rest;
          spelled = ap (λ r. word text ∷ r) found.spelled;
          goes = found.goes;
        }
    by_word false symbol goes = absurd (false≢true goes)

-- the tokens begin with a rule
record RuleFound (ts : List Token) : Type 0 where
  rule : RulePhrase
  is : IsRulePhrase rule
  rest : List Token
  spelled : ts ≡ rule_words rule ++ rest
  goes : accepts (at RuleRight After 0) rest ≡ true

less_found : (ts : List Token) → accepts (at Turn After 0) ts ≡ true
    → (us : List Token) × (ts ≡ mark Less ∷ us) × (accepts (at RuleRight DueAgent 0) us ≡ true)
less_found (mark Less ∷ ts) goes = (ts, refl, goes)
less_found _ goes = absurd (false≢true goes)

turn_found : (ts : List Token) → accepts (at RuleLeft After 0) ts ≡ true
    → (us : List Token) × (ts ≡ mark Greater ∷ mark Less ∷ us) × (accepts (at RuleRight DueAgent 0) us ≡ true)
turn_found (mark Greater ∷ ts) goes =
    let found = less_found ts goes in
    (found.0, ap (λ r. mark Greater ∷ r) found.1, found.2)
turn_found _ goes = absurd (false≢true goes)

rule_due : (ts : List Token) → accepts (at RuleLeft DueAgent 0) ts ≡ true → RuleFound ts
rule_due ts goes =
    let l = agent_due ts RuleLeft tt goes in
    let turn = turn_found l.rest l.goes in
    let r = agent_due turn.0 RuleRight tt turn.2 in
    let left = words (agent_source l.agent) in
    let right = words (agent_source r.agent) in
    record {
      rule = record { left = l.agent; right = r.agent };
      is = (l.is, r.is);
      rest = r.rest;
      spelled =
          l.spelled
          ∙ ap (λ x. left ++ x) (turn.1 ∙ ap (λ x. mark Greater ∷ mark Less ∷ x) r.spelled)
          ∙ sym (append_assoc left (mark Greater ∷ mark Less ∷ right) r.rest);
      goes = r.goes;
    }

-- the tokens go on with further rules, and end them
record RulesFound (front : List (List Token) → List Token) (ts : List Token) : Type 0 where
  rules : List RulePhrase
  are : AllByRecursion IsRulePhrase rules
  rest : List Token
  spelled : ts ≡ front (map rule_words rules) ++ mark RightBrace ∷ rest
  goes : accepts (at Begin After 0) rest ≡ true

-- a rule and those after it
rules_more : (ts : List Token) (found : RuleFound ts) → RulesFound after_semicolons found.rest → RulesFound (separated Semicolon) ts
rules_more ts found others =
    let after = after_semicolons (map rule_words others.rules) in
    record {
      rules = found.rule ∷ others.rules;
      are = (found.is, others.are);
      rest = others.rest;
      spelled =
          found.spelled
          ∙ ap (λ r. rule_words found.rule ++ r) others.spelled
          ∙ sym (append_assoc (rule_words found.rule) after (mark RightBrace ∷ others.rest));
      goes = others.goes;
    }

after_from_separated : (ts : List Token) (found : RuleFound ts)
    → RulesFound after_semicolons found.rest → RulesFound after_semicolons (mark Semicolon ∷ ts)
unfolding rules_more
after_from_separated ts found others =
    let all = rules_more ts found others in
    record {
      rules = all.rules;
      are = all.are;
      rest = all.rest;
      spelled = ap (λ r. mark Semicolon ∷ r) all.spelled;
      goes = all.goes;
    }

rules_rest : (n : ℕ) (ts : List Token) → length ts ≤ n → accepts (at RuleRight After 0) ts ≡ true
    → RulesFound after_semicolons ts
rules_rest n (mark RightBrace ∷ ts) le goes = record { rules = []; are = tt; rest = ts; spelled = refl; goes = goes }
rules_rest zero (mark Semicolon ∷ ts) le goes = absurd (omega arith)
rules_rest (suc n) (mark Semicolon ∷ ts) le goes =
    let found = rule_due ts goes in
    let less = rest_is_less ts found.rest n (rule_words found.rule) found.spelled (omega arith) in
    after_from_separated ts found (rules_rest n found.rest less found.goes)
rules_rest n _ le goes = absurd (false≢true goes)

rules_found : (ts : List Token) → accepts (at RuleLeft FirstAgent 0) ts ≡ true → RulesFound (separated Semicolon) ts
rules_found (word text ∷ ts) goes =
    let found = rule_due (word text ∷ ts) goes in
    rules_more (word text ∷ ts) found (rules_rest (length found.rest) found.rest (omega arith) found.goes)
rules_found (mark RightBrace ∷ ts) goes = record { rules = []; are = tt; rest = ts; spelled = refl; goes = goes }
rules_found _ goes = absurd (false≢true goes)

-- what is accepted is a system
pub SystemSpelledBy-accepts : (ts : List Token) → accepts (at Start After 0) ts ≡ true → SystemSpelledBy ts
SystemSpelledBy-accepts (mark LeftBrace ∷ ts) goes =
    let found = rules_found ts goes in
    let config = SpelledBy-accepts found.rest found.goes in (
      record { rules = found.rules; config = config.0 },
      record { rules = found.are; config = config.1 },
      ap (λ r. mark LeftBrace ∷ r)
          (found.spelled ∙ ap (λ r. rules_words found.rules ++ mark RightBrace ∷ r) config.2),
    )
SystemSpelledBy-accepts _ goes = absurd (false≢true goes)

-- and each system is accepted
pub accepts-SystemSpelledBy : (ts : List Token) → SystemSpelledBy ts → accepts (at Start After 0) ts ≡ true
accepts-SystemSpelledBy ts spelled =
    ap (accepts (at Start After 0)) spelled.2 ∙ accepts-system_words spelled.0 spelled.1
