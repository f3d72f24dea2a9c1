-- Numbering the words of a system and building its rules and its configuration gives its sense.
use Rattle.std.proofs.Common.{◌≡◌, ℕ, ◌≤◌, Bool, true, false, ◌&&◌, cond, List, [], ◌++◌, Option, None, Some, Result, Ok, Err, length, map, take, drop, refl, sym, ap, ◌∙◌, arith, length-append}
use Rattle.std.specs.Prelude.{nat_le}
use Rattle.std.specs.List.{flat_map, list_all}
use Rattle.std.proofs.lemmas.List.{length-map, map-append, take_at, drop_at}
use Rattle.std.proofs.lemmas.List.Folds.{list_all-append}
use Rattle.std.proofs.lemmas.Bool.{false≢true, and_from, and_parts, le-leb, leb-true}
use Rattle.ic_term.specs.Symbol.{Symbol, fits_limits, is_over}
use Rattle.ic_term.specs.Configuration.{Configuration, third_occurrence, unless_third, wide_restored}
use Rattle.ic_rules.specs.Rule.{numbered}
use Rattle.ic_rules.specs.RuleSet.{Rules, first_uncounted, first_repeated, first_lopsided, unless, built as built_rules}
use Rattle.ic_rules.specs.System.{SystemParts}
use Rattle.ic_rules.specs.declared.limits.TheConstants.{MAX_RULE_NODES, MAX_WIDE_RULES}
use Rattle.ic_rules.specs.declared.rule_set.RuleFault.{RuleFault}
use Rattle.ic_rules.specs.declared.rule_set.RuleFault.TheVariants.{NameCount as Uncounted, Twice as Repeated, Lopsided as Uneven}
use Rattle.ic_text.specs.declared.limits.Limits.{Limits}
use Rattle.ic_text.specs.declared.limits.TheConstants.{MAX_NAME}
use Rattle.ic_flat.specs.declared.word.Word.{Word}
use Rattle.ic_text.specs.declared.fault.TextFault.{TextFault}
use Rattle.ic_text.specs.declared.fault.TextFault.TheVariants.{Limit, Arity, NameCount, Name, Twice, Lopsided}
use Rattle.ic_text.specs.Limits.{most_interface, most_nodes, most_rules, most_symbols}
use Rattle.ic_text.specs.Source.{phrase_names, phrase_symbols, phrase_nodes}
use Rattle.ic_text.specs.Sense.{symbols_after, has_its_arity, numbered_phrase}
use Rattle.ic_text.specs.SystemSource.{SystemPhrase, IsSystemPhrase, rule_symbols, rule_names, rule_nodes, system_symbols, system_names}
use Rattle.ic_text.specs.SystemSense.{system_table, rules_are_small, rules_over, system_parts, unless_found, system_sense_within}
use Rattle.ic_text.specs.inner.Words.{prefix, phrase_prefix, rules_prefix}
use Rattle.ic_text.specs.inner.Numbered.{word_from, unless_refused, numbered_words, as_text_answer}
use Rattle.ic_flat.specs.Words.{forest}
use Rattle.ic_text.specs.inner.Built.{IsPaired, configuration_from, rules_in, joined}
use Rattle.ic_text.proofs.BuiltTrees.{built-terms, configuration_from-built, paired-phrase}
use Rattle.ic_text.proofs.BuiltRules.{rules_in-sides, few-rules_over, fit-rules_over}
use Rattle.ic_text.proofs.JoinedPhrase.{are-sides, sides_of_rules, sides_through, joined_phrase, prefix-joined, symbols-joined, names-joined, is-joined}
use Rattle.ic_text.proofs.LimitLemmas.{rules-low}
use Rattle.ic_text.proofs.Over.{over-numbered_phrase}
use Rattle.ic_text.proofs.RuleNodes.{each_small}
use Rattle.ic_text.proofs.Sensing.{numbered_is, numbered_words-phrase, restored-numbered}

-- numbered words as a system, so many of them those of rules
abbrev pub finished_system : ℕ → ℕ → Result (List Symbol × List Word) TextFault → Result SystemParts TextFault
finished_system before terms (Ok v) =
    joined (built_rules v.0 (rules_in (forest (take before v.1)))) (as_text_answer (wide_restored (configuration_from terms (forest (drop before v.1)))))
finished_system before terms (Err e) = Err e

module _ (s : SystemPhrase) (is : IsSystemPhrase s) where
  abbrev pub table : List Symbol
  table = system_table s

  abbrev pub words : List Symbol
  words = phrase_prefix (joined_phrase s)

  abbrev items : List Word
  items = map (word_from table) words

  abbrev pub in_limits : Limits → Bool
  in_limits limits = (list_all (λ x. fits_limits x.text x.arity) (system_symbols s) && list_all (λ n. nat_le n MAX_NAME) (system_names s)) && nat_le (length table) (most_symbols limits)

  abbrev agree : Bool
  agree = list_all (has_its_arity table) (system_symbols s)

  numbered_words-system : (limits : Limits) → numbered_words limits words ≡ unless_refused {A = List Symbol × List Word} (in_limits limits) agree (table, items)
  numbered_words-system limits = numbered_words-phrase (joined_phrase s) (is-joined s is) limits ∙ (λ i. over (symbols-joined s i) (names-joined s i))
    where
      over : List Symbol → List ℕ → Result (List Symbol × List Word) TextFault
      over ss ns = unless_refused {A = List Symbol × List Word}
          ((list_all (λ x. fits_limits x.text x.arity) ss && list_all (λ n. nat_le n MAX_NAME) ns) && nat_le (length (symbols_after [] ss)) (most_symbols limits))
          (list_all (has_its_arity (symbols_after [] ss)) ss) (symbols_after [] ss, map (word_from (symbols_after [] ss)) words)

  -- the words of the rules, and after them those of the configuration
  abbrev before : ℕ
  before = length (rules_prefix s.rules)

  abbrev items_before : List Word
  items_before = map (word_from table) (rules_prefix s.rules)

  abbrev items_after : List Word
  items_after = map (word_from table) (phrase_prefix s.config)

  items-parted : items ≡ items_before ++ items_after
  items-parted = ap (map (word_from table)) (prefix-joined s) ∙ map-append (word_from table) (rules_prefix s.rules) (phrase_prefix s.config)

  size : length items_before ≡ before
  size = length-map (rules_prefix s.rules) (word_from table)

  front-is : take before items ≡ items_before
  front-is = ap (take before) items-parted ∙ take_at items_before items_after before size

  rest-is : drop before items ≡ items_after
  rest-is = ap (drop before) items-parted ∙ drop_at items_before items_after before size

  rules-built : rules_in (forest (take before items)) ≡ rules_over s
  rules-built =
      ap (λ l. rules_in (forest l)) (front-is ∙ ap (map (word_from table)) (sym (sides_through prefix s.rules)))
      ∙ ap rules_in (built-terms table (sides_of_rules s.rules) (are-sides s.rules is.rules))
      ∙ rules_in-sides table s.rules

  config-built : configuration_from (length s.config.interface) (forest (drop before items)) ≡ numbered_phrase table s.config
  config-built = ap (λ l. configuration_from (length s.config.interface) (forest l)) rest-is ∙ configuration_from-built table s.config is.config

  -- where they have numbers, those of the configuration write it
  pub paired-system : (limits : Limits) (v : List Symbol × List Word) → Ok v ≡ numbered_words limits words → (before ≤ length v.1) × IsPaired (drop before v.1) (length s.config.interface)
  paired-system limits v e =
      let same : v.1 ≡ items = ap (λ (x : List Symbol × List Word). x.1) (numbered_is (in_limits limits) agree (table, items) v (e ∙ numbered_words-system limits)) in
      rw same (
        omega (arith, ap length items-parted, length-append items_before items_after, size),
        rw rest-is (paired-phrase table s.config is.config),
      )

  abbrev config : Configuration
  config = numbered_phrase table s.config

  -- the rule set, or its first refusal after limits and arities
  abbrev rules_or : Option ℕ → Option ℕ → Option ℕ → Result Rules RuleFault
  rules_or counted repeated uneven = unless counted Uncounted (unless repeated Repeated (unless uneven Uneven (Ok (record { symbols = table; rules = map numbered (rules_over s) }))))

  -- the system, or its first refusal after limits and arities
  abbrev system_or : Option ℕ → Option ℕ → Option ℕ → Option ℕ → Result SystemParts TextFault
  system_or counted third repeated uneven = unless_found counted NameCount (unless_found third Name (unless_found repeated Twice (unless_found uneven Lopsided (Ok (system_parts s)))))

  abbrev value : Result SystemParts TextFault
  value = system_or (first_uncounted (rules_over s)) (third_occurrence (phrase_names s.config)) (first_repeated (rules_over s)) (first_lopsided (rules_over s))

  joined-is : is_over table config ≡ true → (counted third repeated uneven : Option ℕ) → system_or counted third repeated uneven ≡ joined (rules_or counted repeated uneven) (as_text_answer (unless_third config third))
  joined-is over (Some i) third repeated uneven = refl
  joined-is over None (Some n) (Some i) uneven = refl
  joined-is over None (Some n) None (Some i) = refl
  joined-is over None (Some n) None None = refl
  joined-is over None None (Some i) uneven = refl
  joined-is over None None None (Some i) = refl
  joined-is over None None None None = rw over refl

  rules-are : (limits : Limits) → nat_le (length s.rules) (most_rules limits) ≡ true → rules_are_small limits s.rules ≡ true → agree ≡ true
      → built_rules table (rules_over s) ≡ rules_or (first_uncounted (rules_over s)) (first_repeated (rules_over s)) (first_lopsided (rules_over s))
  rules-are limits few small agreed =
      let few_too : nat_le (length s.rules) MAX_WIDE_RULES ≡ true = le-leb (length s.rules) MAX_WIDE_RULES (omega (arith, leb-true (length s.rules) (most_rules limits) few, rules-low limits)) in
      let both : (nat_le (length s.rules) MAX_WIDE_RULES && list_all (λ r. nat_le (rule_nodes r) MAX_RULE_NODES) s.rules) ≡ true = and_from _ _ few_too (each_small limits s.rules small) in
      let parts = and_parts _ _ (sym (list_all-append (has_its_arity table) (flat_map rule_symbols s.rules) (phrase_symbols s.config)) ∙ agreed) in
      rw (few-rules_over table s.rules ∙ both, fit-rules_over table s.rules parts.0) refl

  -- where neither rules, their nodes, terms of the interface nor nodes are too many, the sense is that of the words
  pub sense-system : (limits : Limits) → nat_le (length s.rules) (most_rules limits) ≡ true → rules_are_small limits s.rules ≡ true → nat_le (length s.config.interface) (most_interface limits) ≡ true
      → nat_le (phrase_nodes s.config) (most_nodes limits) ≡ true → system_sense_within limits s ≡ finished_system before (length s.config.interface) (numbered_words limits words)
  sense-system limits few small short low = whole ∙ by_cases (in_limits limits) agree refl refl ∙ ap (finished_system before (length s.config.interface)) (sym (numbered_words-system limits))
    where
      whole : system_sense_within limits s ≡ cond (in_limits limits) (cond agree value (Err Arity)) (Err Limit)
      whole = rw (few, small, short, low) (by_limits (in_limits limits))
        where
          by_limits : (a : Bool) → cond ((((a && true) && true) && true) && true) (cond agree value (Err Arity)) (Err Limit) ≡ cond a (cond agree value (Err Arity)) (Err Limit)
          by_limits true = refl
          by_limits false = refl

      low_names : in_limits limits ≡ true → list_all (λ n. nat_le n MAX_NAME) (phrase_names s.config) ≡ true
      low_names all =
          let names = (and_parts (list_all (λ x. fits_limits x.text x.arity) (system_symbols s)) (list_all (λ n. nat_le n MAX_NAME) (system_names s)) (and_parts (list_all (λ x. fits_limits x.text x.arity) (system_symbols s) && list_all (λ n. nat_le n MAX_NAME) (system_names s)) (nat_le (length table) (most_symbols limits)) all).0).1 in
          (and_parts (list_all (λ n. nat_le n MAX_NAME) (flat_map rule_names s.rules)) (list_all (λ n. nat_le n MAX_NAME) (phrase_names s.config)) (sym (list_all-append (λ n. nat_le n MAX_NAME) (flat_map rule_names s.rules) (phrase_names s.config)) ∙ names)).1

      over : agree ≡ true → is_over table config ≡ true
      over agreed = over-numbered_phrase table s.config (and_parts (list_all (has_its_arity table) (flat_map rule_symbols s.rules)) (list_all (has_its_arity table) (phrase_symbols s.config)) (sym (list_all-append (has_its_arity table) (flat_map rule_symbols s.rules) (phrase_symbols s.config)) ∙ agreed)).1

      by_cases : (a o : Bool) → in_limits limits ≡ a → agree ≡ o → cond a (cond o value (Err Arity)) (Err Limit) ≡ finished_system before (length s.config.interface) (unless_refused {A = List Symbol × List Word} a o (table, items))
      by_cases true true all agreed =
          let rules = ap (built_rules table) rules-built ∙ rules-are limits few small agreed in
          let restored_is = ap wide_restored config-built ∙ restored-numbered limits table s.config low (low_names all) in
          joined-is (over agreed) (first_uncounted (rules_over s)) (third_occurrence (phrase_names s.config)) (first_repeated (rules_over s)) (first_lopsided (rules_over s))
          ∙ (λ i. joined (sym rules i) (as_text_answer (sym restored_is i)))
      by_cases true false all agreed = refl
      by_cases false o all agreed = refl

-- a system with too many rules, nodes of their arguments, terms of the interface or nodes is beyond the limits
pub system-unfit : (limits : Limits) (s : SystemPhrase)
    → ((nat_le (length s.rules) (most_rules limits) && rules_are_small limits s.rules) && (nat_le (length s.config.interface) (most_interface limits) && nat_le (phrase_nodes s.config) (most_nodes limits))) ≡ false
    → system_sense_within limits s ≡ Err Limit
system-unfit limits s =
    by_cases _ (nat_le (length s.rules) (most_rules limits)) (rules_are_small limits s.rules) (nat_le (length s.config.interface) (most_interface limits)) (nat_le (phrase_nodes s.config) (most_nodes limits)) _
  where
    by_cases : (a r m i k : Bool) (v : Result SystemParts TextFault) → ((r && m) && (i && k)) ≡ false → cond ((((a && r) && m) && i) && k) v (Err Limit) ≡ Err Limit
    by_cases true true true true true v unfit = absurd (false≢true (sym unfit))
    by_cases true true true true false v unfit = refl
    by_cases true true true false k v unfit = refl
    by_cases true true false i k v unfit = refl
    by_cases true false m i k v unfit = refl
    by_cases false r m i k v unfit = refl
