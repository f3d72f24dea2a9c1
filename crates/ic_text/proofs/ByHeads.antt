-- A system's sense by the words of its rules and by where those of its configuration begin.
use Rattle.std.proofs.Common.{◌≡◌, ℕ, ◌*◌, ◌<◌, ◌≤◌, ◌^◌, true, ◌&&◌, List, [], ◌++◌, None, Ok, length, drop, sym, ap, ◌∙◌, subst, append-nil, arith}
use Rattle.std.specs.Prelude.{nat_le}
use Rattle.std.specs.List.{flat_map, AllByRecursion}
use Rattle.std.proofs.lemmas.List.{length-map}
use Rattle.ic_term.specs.Symbol.{Symbol}
use Rattle.ic_flat.specs.declared.word.Word.{Word}
use Rattle.ic_text.specs.declared.limits.Limits.{Limits}
use Rattle.ic_text.specs.declared.prefix.Prefix.{Prefix}
use Rattle.ic_text.specs.declared.prefix.Outline.{Outline}
use Rattle.ic_text.specs.Limits.{most_interface, most_nodes, most_rules}
use Rattle.ic_text.specs.Source.{Phrase, IsPhrase, phrase_nodes}
use Rattle.ic_text.specs.SystemSource.{SystemPhrase, IsSystemPhrase}
use Rattle.ic_text.specs.SystemSense.{rules_are_small, system_sense_within}
use Rattle.ic_text.specs.inner.Built.{IsPaired}
use Rattle.ic_text.specs.inner.Counted.{fits, rule_nodes_keep}
use Rattle.ic_text.specs.inner.Numbered.{IsWord, numbered_words}
use Rattle.ic_text.specs.inner.Prefix.{head_word, head_words, node_of, nodes_of}
use Rattle.ic_text.specs.inner.Words.{phrase_prefix, prefix, rules_prefix}
use Rattle.ic_text.proofs.Fitting.{double, system-counted}
use Rattle.ic_text.proofs.JoinedPhrase.{are-sides, joined_phrase, prefix-joined, sides_of_rules, sides_through}
use Rattle.ic_text.proofs.PrefixWords.{length-phrase_prefix, words-phrase_prefix}
use Rattle.ic_text.proofs.RuleNodes.{arities, arities-rules, keep-small}
use Rattle.ic_text.proofs.SensingSystem.{finished_system, paired-system}

-- the words of rules are names and symbols
words_rules : (s : SystemPhrase) → IsSystemPhrase s → AllByRecursion IsWord (rules_prefix s.rules)
words_rules s is =
    let p : Phrase = record { interface = sides_of_rules s.rules; equations = [] } in
    let is_phrase : IsPhrase p = record { interface = are-sides s.rules is.rules; equations = tt } in
    subst (AllByRecursion IsWord) (append-nil (flat_map prefix (sides_of_rules s.rules)) ∙ sides_through prefix s.rules) (words-phrase_prefix p is_phrase)

-- these are the words of the rules of a system, and where those of its configuration begin
pub record Outlined (s : SystemPhrase) (rules : Prefix) (rest : List ℕ) (config : Outline) : Type 0 where
  pub rules_are : nodes_of rules.nodes.items ≡ rules_prefix s.rules
  pub agents_are : rules.terms ≡ 2 * length s.rules
  pub config_are : head_words rest config.heads.items ≡ phrase_prefix s.config
  pub terms_are : config.terms ≡ length s.config.interface

module _ (limits : Limits) (s : SystemPhrase) (is : IsSystemPhrase s) (rules : Prefix) (rest : List ℕ) (config : Outline) (known : Outlined s rules rest config) where
  pub rules_words : AllByRecursion IsWord (nodes_of rules.nodes.items)
  rules_words = rw known.rules_are (words_rules s is)

  pub config_words : AllByRecursion IsWord (head_words rest config.heads.items)
  config_words = rw known.config_are (words-phrase_prefix s.config is.config)

  pub before : length rules.nodes.items ≡ length (rules_prefix s.rules)
  before = sym (length-map rules.nodes.items node_of) ∙ ap length known.rules_are

  pub rules_room : length rules.nodes.items < 2 ^ 64 → arities (nodes_of rules.nodes.items) < 2 ^ 64
  rules_room low = omega (arith, ap arities known.rules_are, arities-rules s.rules, before, low)

  -- whether a limit is passed is seen by how many they are
  pub fits_here : ((nat_le rules.terms (2 * most_rules limits) && rule_nodes_keep limits rules.terms (nodes_of rules.nodes.items))
      && (nat_le config.terms (most_interface limits) && nat_le (length config.heads.items) (most_nodes limits))) ≡ fits limits s
  fits_here =
      let few : nat_le rules.terms (2 * most_rules limits) ≡ nat_le (length s.rules) (most_rules limits) = ap (λ n. nat_le n (2 * most_rules limits)) known.agents_are ∙ double (length s.rules) (most_rules limits) in
      let small : rule_nodes_keep limits rules.terms (nodes_of rules.nodes.items) ≡ rules_are_small limits s.rules = ap (rule_nodes_keep limits rules.terms) known.rules_are ∙ keep-small limits s.rules rules.terms known.agents_are in
      let many : length config.heads.items ≡ phrase_nodes s.config = sym (length-map config.heads.items (head_word rest)) ∙ ap length known.config_are ∙ length-phrase_prefix s.config in
      λ i. (few i && small i) && (nat_le (known.terms_are i) (most_interface limits) && nat_le (many i) (most_nodes limits))

  module _ (v : List Symbol × List Word) (e : Ok v ≡ numbered_words limits (nodes_of rules.nodes.items ++ head_words rest config.heads.items)) where
    number : Ok v ≡ numbered_words limits (phrase_prefix (joined_phrase s))
    number = e ∙ ap (numbered_words limits) ((λ i. known.rules_are i ++ known.config_are i) ∙ sym (prefix-joined s))

    -- where they have numbers, those of the configuration write it
    pub paired_outlined : (length rules.nodes.items ≤ length v.1) × IsPaired (drop (length rules.nodes.items) v.1) config.terms
    paired_outlined = rw (before, known.terms_are) (paired-system s is limits v number)

    -- and the sense is that of the words
    pub sense_outlined : true ≡ fits limits s → system_sense_within limits s ≡ finished_system (length rules.nodes.items) config.terms (Ok v)
    sense_outlined kept = system-counted limits s is None kept ∙ (λ i. finished_system (sym before i) (sym known.terms_are i) (sym number i))
