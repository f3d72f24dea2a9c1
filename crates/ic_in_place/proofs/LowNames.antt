-- Lemmas: names of a configuration that was read may stand in texts.
use Rattle.std.proofs.Common.{◌≡◌, ℕ, ◌<◌, ◌≤◌, Bool, true, false, cond, List, [], ◌∷◌, ◌++◌, Option, None, Some, Result, Ok, Err, length, map, refl, sym, ap, ◌∙◌, ⊎_elim, arith, subst as transport}
use Rattle.std.specs.Prelude.{◌&&◌, nat_le}
use Rattle.std.specs.List.{flat_map, list_all, AllByRecursion}
use Rattle.std.proofs.lemmas.Bool.{and_parts, cases_lt, leb-true}
use Rattle.ic_term.specs.Symbol.{Symbol, fits_limits}
use Rattle.ic_term.specs.Tree.{names, names_of, pair_names}
use Rattle.ic_term.specs.Configuration.{configuration_names, occurrences, third_occurrence}
use Rattle.ic_rules.specs.RuleSet.{first_uncounted, first_repeated, first_lopsided}
use Rattle.ic_rules.specs.System.{SystemParts}
use Rattle.ic_text.specs.declared.limits.Limits.{Limits}
use Rattle.ic_text.specs.declared.limits.TheConstants.{MAX_NAME}
use Rattle.ic_text.specs.declared.fault.TextFault.{TextFault}
use Rattle.ic_text.specs.declared.fault.TextFault.TheVariants.{Limit, Syntax, Arity, NameCount, Name, Twice, Lopsided}
use Rattle.ic_text.specs.Limits.{most_bytes, most_interface, most_nodes, most_rules, most_symbols}
use Rattle.ic_text.specs.Source.{Source, leaf, node, Sources, no_sources, more_sources, Sides, Phrase, source_names, names_of_sources, phrase_names, phrase_nodes}
use Rattle.ic_text.specs.SystemSource.{SystemPhrase, rule_names, system_names, system_symbols}
use Rattle.ic_text.specs.Sense.{has_its_arity, numbered_tree, numbered_trees, numbered_pair, numbered_phrase}
use Rattle.ic_text.specs.SystemSense.{system_table, rules_are_small, is_system_in_limits_within, rules_over, system_parts, unless_found, system_sense_within}
use Rattle.ic_text.specs.SystemText.{SpellsSystem, ReadsSystemWithin}
use Rattle.ic_in_place.proofs.Renumbering.{occurring}

flat_map-map : {A B C : Type 0} (f : B → List C) (g : A → B) (xs : List A) → flat_map f (map g xs) ≡ flat_map (λ x. f (g x)) xs
flat_map-map f g [] = refl
flat_map-map f g (x ∷ xs) = ap (λ l. f (g x) ++ l) (flat_map-map f g xs)

-- a configuration has the names that are written
module _ (table : List Symbol) where
  mutual
    tree_names : (t : Source) → names (numbered_tree table t) ≡ source_names t
    tree_names (leaf n) = refl
    tree_names (node text ts) = trees_names ts

    trees_names : (ts : Sources) → names_of (numbered_trees table ts) ≡ names_of_sources ts
    trees_names no_sources = refl
    trees_names (more_sources t ts) = λ i. tree_names t i ++ trees_names ts i

  all_names : (p : Phrase) → configuration_names (numbered_phrase table p) ≡ phrase_names p
  all_names p =
      let first = flat_map-map names (numbered_tree table) p.interface ∙ (λ i. flat_map (λ t. tree_names t i) p.interface) in
      let second = flat_map-map pair_names (numbered_pair table) p.equations ∙ (λ i. flat_map (λ (e : Sides). tree_names e.left i ++ tree_names e.right i) p.equations) in
      λ i. first i ++ second i

low_all : (ms ns : List ℕ) → list_all (λ n. nat_le n MAX_NAME) (ms ++ ns) ≡ true → AllByRecursion (λ n. n ≤ MAX_NAME) ns
low_all [] [] e = tt
low_all [] (n ∷ ns) e =
    let parts = and_parts (nat_le n MAX_NAME) (list_all (λ n. nat_le n MAX_NAME) ns) e in
    (leb-true n MAX_NAME parts.0, low_all [] ns parts.1)
low_all (m ∷ ms) ns e = low_all ms ns (and_parts (nat_le m MAX_NAME) (list_all (λ n. nat_le n MAX_NAME) (ms ++ ns)) e).1

second_of : (a b c d e f g : Bool) → (a && b && c && d && e && f && g) ≡ true → b ≡ true
second_of true true c d e f g is = refl
second_of true false c d e f g is = is
second_of false true c d e f g is = refl
second_of false false c d e f g is = is

abbrev parts_or : SystemParts → Result SystemParts TextFault → SystemParts
parts_or d (Ok v) = v
parts_or d (Err e) = d

-- what has a sense is within the limits, and is what it says
sensed : (limits : Limits) (s : SystemPhrase) (v : SystemParts) → system_sense_within limits s ≡ Ok v → (is_system_in_limits_within limits s ≡ true) × (system_parts s ≡ v)
sensed limits s v =
    by_cases (is_system_in_limits_within limits s) (list_all (has_its_arity (system_table s)) (system_symbols s))
    (first_uncounted (rules_over s)) (third_occurrence (phrase_names s.config)) (first_repeated (rules_over s)) (first_lopsided (rules_over s))
  where
    by_cases : (a b : Bool) (counted third repeated uneven : Option ℕ)
        → cond a (cond b (unless_found counted NameCount (unless_found third Name (unless_found repeated Twice (unless_found uneven Lopsided (Ok (system_parts s)))))) (Err Arity)) (Err Limit) ≡ Ok v
        → (a ≡ true) × (system_parts s ≡ v)
    by_cases false b counted third repeated uneven e = cc
    by_cases true false counted third repeated uneven e = cc
    by_cases true true (Some n) third repeated uneven e = cc
    by_cases true true None (Some n) repeated uneven e = cc
    by_cases true true None None (Some n) uneven e = cc
    by_cases true true None None None (Some n) e = cc
    by_cases true true None None None None e = (refl, ap (parts_or (system_parts s)) e)

low_of_phrase : (limits : Limits) (s : SystemPhrase) (v : SystemParts) → system_sense_within limits s ≡ Ok v
    → AllByRecursion (λ n. n ≤ MAX_NAME) (configuration_names v.config)
low_of_phrase limits s v means =
    let is = sensed limits s v means in
    let names_are : configuration_names v.config ≡ phrase_names s.config =
    sym (ap (λ (p : SystemParts). configuration_names p.config) is.1) ∙ all_names (system_table s) s.config in
    transport (AllByRecursion (λ n. n ≤ MAX_NAME)) (sym names_are)
    (low_all (flat_map rule_names s.rules) (phrase_names s.config)
    (second_of (list_all (λ x. fits_limits x.text x.arity) (system_symbols s)) (list_all (λ n. nat_le n MAX_NAME) (system_names s))
    (nat_le (length (system_table s)) (most_symbols limits)) (nat_le (length s.rules) (most_rules limits)) (rules_are_small limits s.rules)
    (nat_le (length s.config.interface) (most_interface limits)) (nat_le (phrase_nodes s.config) (most_nodes limits)) is.0))

no_fault : (v : SystemParts) (fault : TextFault) → ◌≡◌ {A = Result SystemParts TextFault} (Ok v) (Err fault) → ⊥
no_fault v fault same = cc

pub low_name : (limits : Limits) (text : List ℕ) (v : SystemParts) → ReadsSystemWithin limits text (Ok v) → (x : ℕ)
    → 1 ≤ occurrences x (configuration_names v.config) → x ≤ MAX_NAME
low_name limits text v reads x there = ⊎_elim (λ high. absurd (by_length high)) (λ low. low) (cases_lt MAX_NAME x)
  where
    unspelled : MAX_NAME < x → length text ≤ most_bytes limits → (s : SystemPhrase) → SpellsSystem text s → ⊥
    unspelled high short s spells =
        let low : x ≤ MAX_NAME = occurring (λ n. n ≤ MAX_NAME) x (configuration_names v.config)
        (low_of_phrase limits s v (sym (reads.spelled short s spells))) there in
        omega (arith, high, low)

    by_length : MAX_NAME < x → ⊥
    by_length high = ⊎_elim (λ long. no_fault v Limit (reads.long long)) (λ short. no_fault v Syntax (reads.malformed short (unspelled high short)))
        (cases_lt (most_bytes limits) (length text))
