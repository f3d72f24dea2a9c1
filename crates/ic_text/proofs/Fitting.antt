-- Whether too much is written is seen by how many the words are, and so the sense is that of the words.
use Rattle.std.proofs.Common.{◌≡◌, ℕ, ◌-◌, ◌*◌, ◌<◌, ◌≤◌, ◌^◌, Bool, true, false, ◌&&◌, List, Option, None, Some, Ok, Err, length, take, drop, refl, sym, ap, ◌∙◌, arith, length-append}
use Rattle.std.specs.Prelude.{nat_le}
use Rattle.std.proofs.lemmas.Bool.{and_parts, and_right, leb-true, leb-false}
use Rattle.std.proofs.lemmas.List.{take_all, take_at, drop_at, take-map, drop-map, length-map}
use Rattle.ic_term.specs.Symbol.{Symbol}
use Rattle.ic_text.specs.declared.excess.Excess.{Excess}
use Rattle.ic_text.specs.declared.limits.Limits.{Limits}
use Rattle.ic_flat.specs.declared.word.Word.{Word}
use Rattle.ic_text.specs.declared.prefix.Node.{Node}
use Rattle.ic_text.specs.Limits.{most_interface, most_nodes, most_rules}
use Rattle.ic_text.specs.declared.fault.TextFault.TheVariants.{Limit}
use Rattle.ic_text.specs.Source.{Phrase, IsPhrase, phrase_nodes, phrase_words}
use Rattle.ic_text.specs.Token.{tokens, words_among}
use Rattle.ic_text.specs.lemmas.ReadOnce.{some-injective}
use Rattle.ic_text.proofs.InTextOrder.{among-phrase}
use Rattle.ic_text.specs.Sense.{sense_within}
use Rattle.ic_text.specs.SystemSource.{SystemPhrase, IsSystemPhrase}
use Rattle.ic_text.specs.SystemSense.{rules_are_small, system_sense_within}
use Rattle.ic_text.specs.inner.Words.{phrase_prefix, rules_prefix}
use Rattle.ic_text.specs.inner.Counted.{IsCounted, config_fits, fits, is_kept, rule_nodes_keep, rules_fit}
use Rattle.ic_text.specs.inner.Numbered.{counted_words, numbered_words}
use Rattle.ic_text.specs.inner.Prefix.{node_of, nodes_of}
use Rattle.ic_text.proofs.JoinedPhrase.{joined_phrase}
use Rattle.ic_text.proofs.Numbering.{gt_test}
use Rattle.ic_text.proofs.PrefixWords.{length-phrase_prefix}
use Rattle.ic_text.proofs.RuleNodes.{arities, arities-rules, keep-small, le_test}
use Rattle.ic_text.proofs.Sensing.{finished, sense-unfit, sense-words}
use Rattle.ic_text.proofs.SensingSystem.{finished_system, sense-system, system-unfit}

-- the sense is that of the words, unless they are too many
pub sense-counted : (limits : Limits) (p : Phrase) → IsPhrase p → (o : Option Excess) → is_kept o ≡ config_fits limits p
    → sense_within limits p ≡ finished (length p.interface) (counted_words limits o (phrase_prefix p))
sense-counted limits p is None kept =
    let parts = and_parts (nat_le (length p.interface) (most_interface limits)) (nat_le (phrase_nodes p) (most_nodes limits)) (sym kept) in
    sense-words p is limits parts.1 parts.0
sense-counted limits p is (Some x) kept = sense-unfit limits p (sym kept)

-- of too many words there is no sense
pub crowded : (limits : Limits) (p : Phrase) (text : List ℕ) (words : ℕ) → (q : Phrase) → tokens text ≡ Some (phrase_words q) → words ≡ length (words_among (phrase_words q))
    → tokens text ≡ Some (phrase_words p) → most_nodes limits < words → sense_within limits p ≡ Err Limit
crowded limits p text words q spelled many spells more =
    let nodes : words ≡ phrase_nodes p =
    many ∙ ap (λ ts. length (words_among ts)) (some-injective _ _ (sym spelled ∙ spells)) ∙ ap length (among-phrase p) ∙ length-map (phrase_prefix p) (λ (w : Symbol). w.text) ∙ length-phrase_prefix p in
    let high : nat_le (phrase_nodes p) (most_nodes limits) ≡ false = gt_test (phrase_nodes p) (most_nodes limits) (omega (arith, nodes, more)) in
    sense-unfit limits p (and_right (nat_le (length p.interface) (most_interface limits)) _ high)

pub system-counted : (limits : Limits) (s : SystemPhrase) → IsSystemPhrase s → (o : Option Excess) → is_kept o ≡ fits limits s
    → system_sense_within limits s ≡ finished_system (length (rules_prefix s.rules)) (length s.config.interface) (counted_words limits o (phrase_prefix (joined_phrase s)))
system-counted limits s is None kept =
    let parts = and_parts (rules_fit limits s) (config_fits limits s.config) (sym kept) in
    let rules = and_parts (nat_le (length s.rules) (most_rules limits)) (rules_are_small limits s.rules) parts.0 in
    let config = and_parts (nat_le (length s.config.interface) (most_interface limits)) (nat_le (phrase_nodes s.config) (most_nodes limits)) parts.1 in
    sense-system s is limits rules.0 rules.1 config.0 config.1
system-counted limits s is (Some x) kept = system-unfit limits s (sym kept)

-- words that are numbered are all counted
pub counted-numbered : (limits : Limits) (ws : List Symbol) (o : Option Excess) (v : List Symbol × List Word) → Ok v ≡ counted_words limits o ws → Ok v ≡ numbered_words limits ws
counted-numbered limits ws None v e = e
counted-numbered limits ws (Some x) v e = cc

-- of a configuration these are as many words as nodes
pub config-fits : (limits : Limits) (p : Phrase) (nodes : List Node) (terms : ℕ) → nodes_of nodes ≡ phrase_prefix p → terms ≡ length p.interface
    → (nat_le terms (most_interface limits) && nat_le (length nodes) (most_nodes limits)) ≡ config_fits limits p
config-fits limits p nodes terms are same =
    let many : length nodes ≡ phrase_nodes p = sym (length-map nodes node_of) ∙ ap length are ∙ length-phrase_prefix p in
    λ i. nat_le (same i) (most_interface limits) && nat_le (many i) (most_nodes limits)

pub double : (n m : ℕ) → nat_le (2 * n) (2 * m) ≡ nat_le n m
double n m = by (nat_le n m) refl
  where
    by : (b : Bool) → nat_le n m ≡ b → nat_le (2 * n) (2 * m) ≡ b
    by true low = le_test (2 * n) (2 * m) (omega (arith, leb-true n m low))
    by false high = gt_test (2 * n) (2 * m) (omega (arith, leb-false n m high))

-- the words of the rules and of the configuration of a system
module _ (limits : Limits) (s : SystemPhrase) (nodes : List Node) (rules agents terms : ℕ) (counted : IsCounted s (nodes_of nodes) rules agents terms) where
  rules_front : nodes_of (take rules nodes) ≡ rules_prefix s.rules
  rules_front = sym (take-map node_of rules nodes) ∙ ap (take rules) counted.words ∙ take_at (rules_prefix s.rules) (phrase_prefix s.config) rules (sym counted.before)

  config_rest : nodes_of (take (length nodes - rules) (drop rules nodes)) ≡ phrase_prefix s.config
  config_rest =
      let after : drop rules (nodes_of nodes) ≡ phrase_prefix s.config = ap (drop rules) counted.words ∙ drop_at (rules_prefix s.rules) (phrase_prefix s.config) rules (sym counted.before) in
      let long : length (phrase_prefix s.config) ≤ length nodes - rules = omega (arith, counted.before, ap length counted.words, length-append (rules_prefix s.rules) (phrase_prefix s.config), length-map nodes node_of) in
      sym (take-map node_of (length nodes - rules) (drop rules nodes)) ∙ ap (take (length nodes - rules)) (sym (drop-map node_of rules nodes) ∙ after) ∙ take_all (length nodes - rules) (phrase_prefix s.config) long

  pub rules_arities : rules < 2 ^ 64 → arities (nodes_of (take rules nodes)) < 2 ^ 64
  rules_arities low = omega (arith, ap arities rules_front, arities-rules s.rules, counted.before, low)

  pub rules-fit : (nat_le agents (2 * most_rules limits) && rule_nodes_keep limits agents (nodes_of (take rules nodes))) ≡ rules_fit limits s
  rules-fit =
      let few : nat_le agents (2 * most_rules limits) ≡ nat_le (length s.rules) (most_rules limits) = ap (λ n. nat_le n (2 * most_rules limits)) counted.sides ∙ double (length s.rules) (most_rules limits) in
      let small : rule_nodes_keep limits agents (nodes_of (take rules nodes)) ≡ rules_are_small limits s.rules = ap (rule_nodes_keep limits agents) rules_front ∙ keep-small limits s.rules agents counted.sides in
      λ i. few i && small i

  pub config-rest-fits : (nat_le terms (most_interface limits) && nat_le (length (take (length nodes - rules) (drop rules nodes))) (most_nodes limits)) ≡ config_fits limits s.config
  config-rest-fits = config-fits limits s.config (take (length nodes - rules) (drop rules nodes)) terms config_rest counted.interface
