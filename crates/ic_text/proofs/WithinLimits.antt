-- What a text means has no more nodes, and no more terms in its interface, than the limits that it is read with allow.
use Rattle.std.proofs.Common.{◌≡◌, ℕ, ◌+◌, ◌≤◌, Bool, true, false, cond, List, [], ◌∷◌, Result, Ok, Err, length, map, refl, sym, ap, ◌∙◌, subst, arith}
use Rattle.std.specs.Prelude.{sum_by}
use Rattle.std.proofs.lemmas.List.Sums.{sum_by-cons}
use Rattle.std.proofs.lemmas.Bool.{and_parts, leb-true}
use Rattle.std.proofs.lemmas.List.{length-map}
use Rattle.ic_term.specs.Symbol.{Symbol}
use Rattle.ic_term.specs.Configuration.{Configuration, configuration_nodes}
use Rattle.ic_term.specs.Tree.{Tree, name, agent, Trees, no_trees, more_trees, nodes, nodes_of}
use Rattle.ic_term.specs.declared.limits.TheConstants.{MAX_SYMBOLS}
use Rattle.ic_rules.specs.Renaming.{first_occurrences, number_among, renamed, renamed_trees}
use Rattle.ic_rules.specs.Rule.{Rule, numbered, rule_names as names_of_rule, rule_nodes as nodes_of_rule}
use Rattle.ic_rules.specs.RuleSet.{AreServed}
use Rattle.ic_rules.specs.System.{SystemParts}
use Rattle.ic_rules.specs.declared.limits.TheConstants.{MAX_RULES, MAX_RULE_NODES}
use Rattle.ic_text.specs.declared.fault.TextFault.{TextFault}
use Rattle.ic_text.specs.declared.fault.TextFault.TheVariants.{Limit}
use Rattle.ic_text.specs.declared.limits.Limits.{Limits}
use Rattle.ic_text.specs.declared.limits.Limits.TheVariants.{Served}
use Rattle.ic_text.specs.Limits.{most_interface, most_nodes}
use Rattle.ic_text.specs.Source.{Phrase, phrase_nodes}
use Rattle.ic_text.specs.Sense.{is_in_limits_within, numbered_phrase, numbered_tree, sense_within, symbol_table}
use Rattle.ic_text.specs.SystemSource.{SystemPhrase, rule_nodes}
use Rattle.ic_text.specs.SystemSense.{is_system_in_limits_within, rule_over, rules_over, system_parts, system_sense_within, system_table}
use Rattle.ic_text.proofs.BuiltRules.{sum-rules_over}
use Rattle.ic_text.proofs.NextAbove.{config_of_sense, parts_of_sense}
use Rattle.ic_text.proofs.Over.{has_sense}
use Rattle.ic_text.proofs.Sensing.{nodes-numbered_phrase}

passes : {V : Type 0} (in_limits : Bool) (answer : Result V TextFault) (v : V) → cond in_limits answer (Err Limit) ≡ Ok v → in_limits ≡ true
passes true answer v e = refl
passes false answer v e = cc

-- a configuration over any table
module _ (table : List Symbol) (p : Phrase) (c : Configuration) (is : numbered_phrase table p ≡ c) where
  nodes_of_it : (most : ℕ) → phrase_nodes p ≤ most → configuration_nodes c ≤ most
  nodes_of_it most few = omega (arith, ap configuration_nodes is, nodes-numbered_phrase table p, few)

  terms_of_it : (most : ℕ) → length p.interface ≤ most → length c.interface ≤ most
  terms_of_it most few = omega (arith, ap (λ (d : Configuration). length d.interface) is, length-map p.interface (numbered_tree table), few)

module _ (limits : Limits) (p : Phrase) (v : List Symbol × Configuration) (means : sense_within limits p ≡ Ok v) where
  abbrev low : is_in_limits_within limits p ≡ true
  low = passes (is_in_limits_within limits p) _ v means

  pub few_nodes : configuration_nodes v.1 ≤ most_nodes limits
  few_nodes = nodes_of_it (symbol_table p) p v.1 (has_sense limits p v means).config (most_nodes limits) (leb-true (phrase_nodes p) (most_nodes limits) (and_parts _ _ low).1)

  pub few_terms : length v.1.interface ≤ most_interface limits
  few_terms = terms_of_it (symbol_table p) p v.1 (has_sense limits p v means).config (most_interface limits) (leb-true (length p.interface) (most_interface limits) (and_parts _ _ (and_parts _ _ low).0).1)

module _ (limits : Limits) (s : SystemPhrase) (v : SystemParts) (means : system_sense_within limits s ≡ Ok v) where
  abbrev low_system : is_system_in_limits_within limits s ≡ true
  low_system = passes (is_system_in_limits_within limits s) _ v means

  pub few_system_nodes : configuration_nodes v.config ≤ most_nodes limits
  few_system_nodes =
      nodes_of_it (system_table s) s.config v.config (config_of_sense limits s v means) (most_nodes limits)
      (leb-true (phrase_nodes s.config) (most_nodes limits) (and_parts _ _ low_system).1)

  pub few_system_terms : length v.config.interface ≤ most_interface limits
  few_system_terms =
      terms_of_it (system_table s) s.config v.config (config_of_sense limits s v means) (most_interface limits)
      (leb-true (length s.config.interface) (most_interface limits) (and_parts _ _ (and_parts _ _ low_system).0).1)

-- what is served has few symbols and rules, and few nodes of all rules together
mutual
  nodes-renamed : (f : ℕ → ℕ) (t : Tree) → nodes (renamed f t) ≡ nodes t
  nodes-renamed f (name n) = refl
  nodes-renamed f (agent s ts) = ap (λ n. 1 + n) (nodes_of-renamed f ts)

  nodes_of-renamed : (f : ℕ → ℕ) (ts : Trees) → nodes_of (renamed_trees f ts) ≡ nodes_of ts
  nodes_of-renamed f no_trees = refl
  nodes_of-renamed f (more_trees t ts) = λ i. nodes-renamed f t i + nodes_of-renamed f ts i

sum-renamed : (f : ℕ → ℕ) (ts : List Tree) → sum_by nodes (map (renamed f) ts) ≡ sum_by nodes ts
sum-renamed f [] = refl
sum-renamed f (t ∷ ts) = sum_by-cons nodes (renamed f t) (map (renamed f) ts) ∙ (λ i. nodes-renamed f t i + sum-renamed f ts i) ∙ sym (sum_by-cons nodes t ts)

rule-numbered : (r : Rule) → nodes_of_rule (numbered r) ≡ nodes_of_rule r
rule-numbered r = λ i. sum-renamed (number_among (first_occurrences (names_of_rule r))) r.left_args i + sum-renamed (number_among (first_occurrences (names_of_rule r))) r.right_args i

rules-numbered : (rs : List Rule) → sum_by nodes_of_rule (map numbered rs) ≡ sum_by nodes_of_rule rs
rules-numbered [] = refl
rules-numbered (r ∷ rs) = sum_by-cons nodes_of_rule (numbered r) (map numbered rs) ∙ (λ i. rule-numbered r i + rules-numbered rs i) ∙ sym (sum_by-cons nodes_of_rule r rs)

parts_served : (s : SystemPhrase) → is_system_in_limits_within Served s ≡ true → AreServed (system_parts s).rules
parts_served s low =
    let few_symbols : length (system_table s) ≤ MAX_SYMBOLS = leb-true (length (system_table s)) MAX_SYMBOLS (and_parts _ _ (and_parts _ _ (and_parts _ _ (and_parts _ _ (and_parts _ _ low).0).0).0).0).1 in
    let few_rules : length s.rules ≤ MAX_RULES = leb-true (length s.rules) MAX_RULES (and_parts _ _ (and_parts _ _ (and_parts _ _ (and_parts _ _ low).0).0).0).1 in
    let few_nodes : sum_by rule_nodes s.rules ≤ MAX_RULE_NODES = leb-true (sum_by rule_nodes s.rules) MAX_RULE_NODES (and_parts _ _ (and_parts _ _ (and_parts _ _ low).0).0).1 in
    record {
      symbols = few_symbols;
      rules = omega (arith, few_rules, length-map (rules_over s) numbered, length-map s.rules (rule_over (system_table s)));
      nodes = omega (arith, few_nodes, rules-numbered (rules_over s), sum-rules_over (system_table s) s.rules);
    }

pub served : (limits : Limits) (s : SystemPhrase) (v : SystemParts) → system_sense_within limits s ≡ Ok v → limits ≡ Served → AreServed v.rules
served limits s v means is =
    let means_so : system_sense_within Served s ≡ Ok v = ap (λ l. system_sense_within l s) (sym is) ∙ means in
    subst (λ (p : SystemParts). AreServed p.rules) (parts_of_sense Served s v means_so)
    (parts_served s (passes (is_system_in_limits_within Served s) _ v means_so))
