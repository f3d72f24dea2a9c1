-- Scanning the tokens of rules from their end gives their prefix notation.
use Rattle.std.proofs.Common.{◌≡◌, ℕ, ◌+◌, ◌*◌, List, [], ◌∷◌, ◌++◌, map, length, refl, sym, ap, ◌∙◌, append_assoc, arith}
use Rattle.ic_term.specs.Symbol.{Symbol}
use Rattle.ic_text.specs.declared.token.Mark.TheVariants.{LeftBrace, Less, Greater, Semicolon}
use Rattle.ic_text.specs.Token.{Token, mark}
use Rattle.ic_text.specs.Source.{words}
use Rattle.ic_text.specs.SystemSource.{RulePhrase, agent_source, rule_words, rules_words}
use Rattle.ic_text.specs.inner.Prefix.{scan, scan_step}
use Rattle.ic_text.specs.inner.Words.{prefix, rules_prefix}
use Rattle.ic_text.proofs.Accepted.{IsClosed}
use Rattle.ic_text.proofs.GrammarSystem.{after_semicolons}
use Rattle.ic_text.proofs.Scanning.{made, with_term, scan-words}

semicolons_are_closed : (tss : List (List Token)) → IsClosed (after_semicolons tss)
semicolons_are_closed [] = tt
semicolons_are_closed (ts ∷ tss) = tt

-- the words of a rule in front of what was scanned
rule_scan : (r : RulePhrase) (ts : List Token) (ns : List Symbol) (k : ℕ) → IsClosed ts → scan ts ≡ made ns [] 0 k
    → scan (rule_words r ++ ts) ≡ made ((prefix (agent_source r.left) ++ prefix (agent_source r.right)) ++ ns) [] 0 (k + 1 + 1)
rule_scan r ts ns k closed rest =
    let left = agent_source r.left in
    let right = agent_source r.right in
    ap scan (append_assoc (words left) (mark Greater ∷ mark Less ∷ words right) ts)
    ∙ scan-words left (mark Greater ∷ mark Less ∷ (words right ++ ts)) tt
    ∙ ap (λ s. with_term (prefix left) (scan_step (mark Greater) (scan_step (mark Less) s))) (scan-words right ts closed ∙ ap (with_term (prefix right)) rest)
    ∙ ap (λ xs. made xs [] 0 (k + 1 + 1)) (sym (append_assoc (prefix left) (prefix right) ns))

two_more : (rs : List RulePhrase) (r : RulePhrase) → 2 * length rs + 1 + 1 ≡ 2 * length (r ∷ rs)
two_more rs r = omega arith

rules_after : (rs : List RulePhrase) → scan (after_semicolons (map rule_words rs)) ≡ made (rules_prefix rs) [] 0 (2 * length rs)
rules_after [] = refl
rules_after (r ∷ rs) =
    ap (scan_step (mark Semicolon)) (rule_scan r (after_semicolons (map rule_words rs)) (rules_prefix rs) (2 * length rs) (semicolons_are_closed (map rule_words rs)) (rules_after rs))
    ∙ ap (made (rules_prefix (r ∷ rs)) [] 0) (two_more rs r)

-- rules, from their end to their beginning
scan-rules_words : (rs : List RulePhrase) → scan (rules_words rs) ≡ made (rules_prefix rs) [] 0 (2 * length rs)
scan-rules_words [] = refl
scan-rules_words (r ∷ rs) =
    rule_scan r (after_semicolons (map rule_words rs)) (rules_prefix rs) (2 * length rs) (semicolons_are_closed (map rule_words rs)) (rules_after rs)
    ∙ ap (made (rules_prefix (r ∷ rs)) [] 0) (two_more rs r)

-- and so after a `{`
pub scan-rules_inside : (rs : List RulePhrase) → scan (mark LeftBrace ∷ rules_words rs) ≡ made (rules_prefix rs) [] 0 (2 * length rs)
scan-rules_inside rs = ap (scan_step (mark LeftBrace)) (scan-rules_words rs)
