-- Names of texts, and names that are numbered anew where there aren't too many, may stand in a text.
use Rattle.std.proofs.Common.{◌≡◌, ⊎_elim, ℕ, ◌+◌, ◌*◌, ◌≤◌, Bool, true, false, List, [], ◌∷◌, ◌++◌, Ok, Err, Result, Option, None, Some, length, map, refl, sym, ap, subst, ◌∙◌, arith}
use Rattle.std.proofs.lemmas.List.{length-map}
use Rattle.std.specs.Prelude.{◌&&◌, nat_le, if◌then◌else◌}
use Rattle.std.specs.List.{flat_map, list_all, AllByRecursion}
use Rattle.std.proofs.lemmas.Bool.{and_parts, cases_lt, leb-true}
use Rattle.std.proofs.lemmas.List.Folds.{list_all-append}
use Rattle.ic_term.specs.Configuration.{Configuration, configuration_names, one_above, third_occurrence}
use Rattle.ic_term.specs.Symbol.{Symbol, fits_limits}
use Rattle.ic_term.specs.Tree.{names, names_of, pair_names}
use Rattle.ic_flat.specs.declared.word.Word.{Word}
use Rattle.ic_flat.specs.declared.word.Word.TheVariants.{Name, Agent}
use Rattle.ic_flat.specs.Flat.{configuration_of, configuration_words}
use Rattle.ic_flat.specs.Words.{forest, word_names}
use Rattle.ic_flat.specs.lemmas.FlatLaws.{names-configuration_of, names-words}
use Rattle.ic_naming.specs.Naming.{renamed_word, renumbered, renumbered_words, told_name}
use Rattle.ic_rules.specs.RuleSet.{first_lopsided, first_repeated, first_uncounted}
use Rattle.ic_rules.specs.System.{SystemParts}
use Rattle.ic_text.specs.declared.fault.TextFault.{TextFault}
use Rattle.ic_text.specs.declared.fault.TextFault.TheVariants as text
use Rattle.ic_text.specs.declared.limits.Limits.TheVariants.{Wide}
use Rattle.ic_text.specs.declared.limits.TheConstants.{MAX_NAME}
use Rattle.ic_text.specs.Source.{Source, leaf, node, Sources, no_sources, more_sources, Sides, Phrase, source_names, names_of_sources, phrase_names, phrase_nodes}
use Rattle.ic_text.specs.SystemText.{ReadsSystemWithin, SpellsSystem}
use Rattle.ic_text.specs.Limits.{most_bytes, most_interface, most_nodes, most_rules, most_symbols}
use Rattle.ic_text.specs.SystemSource.{SystemPhrase, rule_names, system_names, system_symbols}
use Rattle.ic_text.specs.SystemSense.{is_system_in_limits_within, rules_are_small, rules_over, system_parts, system_sense_within, system_table, unless_found}
use Rattle.ic_text.specs.Sense.{has_its_arity, numbered_pair, numbered_phrase, numbered_tree, numbered_trees}

-- the greatest of low names is low
pub all_low : (ns : List ℕ) → AllByRecursion (λ n. n ≤ MAX_NAME) ns → one_above ns ≤ MAX_NAME + 1
all_low [] all = omega arith
all_low (n ∷ ns) all = omega (arith, all.0, all_low ns all.1)

few_names : (ws : List Word) → length (flat_map word_names ws) ≤ length ws
few_names [] = omega arith
few_names (Name n ∷ ws) = omega (arith, few_names ws)
few_names (Agent s arity ∷ ws) = omega (arith, few_names ws)

-- what laws of names say
pub record TellingLaws : Type 0 where
  pub words : (c : Configuration) → configuration_words (renumbered c) ≡ renumbered_words (configuration_words c)
  pub names : (f : ℕ → ℕ) (ws : List Word) → flat_map word_names (map (renamed_word f) ws) ≡ map f (flat_map word_names ws)
  pub low : (ns : List ℕ) → 2 * length ns ≤ MAX_NAME + 1 → AllByRecursion (λ n. n ≤ MAX_NAME) (map (told_name ns) ns)

module _ (laws : TellingLaws) (c : Configuration) where
  abbrev ns : List ℕ
  ns = configuration_names c

  told_names : configuration_names (renumbered c) ≡ map (told_name ns) ns
  told_names =
      sym (names-words (renumbered c))
      ∙ ap (λ (ws : List Word). flat_map word_names ws) (laws.words c)
      ∙ laws.names (told_name (flat_map word_names (configuration_words c))) (configuration_words c)
      ∙ ap (λ (all : List ℕ). map (told_name all) all) (names-words c)

  -- words that write a configuration with its names numbered anew
  pub low_words : (ws : List Word) (terms n : ℕ) → length (forest ws) ≡ terms + 2 * n → configuration_of ws terms (MAX_NAME + 1) ≡ renumbered c → length ws ≤ 2147483648
      → one_above (configuration_names (configuration_of ws terms 0)) ≤ MAX_NAME + 1
  low_words ws terms n counted written few =
      let there : configuration_names (configuration_of ws terms 0) ≡ map (told_name ns) ns = ap (λ (d : Configuration). configuration_names d) written ∙ told_names in
      let as_many : length ns ≡ length (flat_map word_names ws) = sym (length-map ns (told_name ns)) ∙ ap (λ (all : List ℕ). length all) (sym there ∙ names-configuration_of ws terms n 0 counted) in
      subst (λ (all : List ℕ). one_above all ≤ MAX_NAME + 1) (sym there)
      (all_low (map (told_name ns) ns) (laws.low ns (omega (arith, as_many, few_names ws, few))))

-- ---- names of texts

mutual
  names_of_tree : (table : List Symbol) (t : Source) → names (numbered_tree table t) ≡ source_names t
  names_of_tree table (leaf n) = refl
  names_of_tree table (node text ts) = names_of_terms table ts

  names_of_terms : (table : List Symbol) (ts : Sources) → names_of (numbered_trees table ts) ≡ names_of_sources ts
  names_of_terms table no_sources = refl
  names_of_terms table (more_sources t ts) =
      ap (λ (ns : List ℕ). ns ++ names_of (numbered_trees table ts)) (names_of_tree table t)
      ∙ ap (λ (ns : List ℕ). source_names t ++ ns) (names_of_terms table ts)

names_of_interface : (table : List Symbol) (ts : List Source) → flat_map names (map (numbered_tree table) ts) ≡ flat_map source_names ts
names_of_interface table [] = refl
names_of_interface table (t ∷ ts) =
    ap (λ (ns : List ℕ). ns ++ flat_map names (map (numbered_tree table) ts)) (names_of_tree table t)
    ∙ ap (λ (ns : List ℕ). source_names t ++ ns) (names_of_interface table ts)

names_of_pair : (table : List Symbol) (e : Sides) → pair_names (numbered_pair table e) ≡ source_names e.left ++ source_names e.right
names_of_pair table e =
    ap (λ (ns : List ℕ). ns ++ names (numbered_tree table e.right)) (names_of_tree table e.left)
    ∙ ap (λ (ns : List ℕ). source_names e.left ++ ns) (names_of_tree table e.right)

names_of_equations : (table : List Symbol) (es : List Sides) → flat_map pair_names (map (numbered_pair table) es) ≡ flat_map (λ e. source_names e.left ++ source_names e.right) es
names_of_equations table [] = refl
names_of_equations table (e ∷ es) =
    ap (λ (ns : List ℕ). ns ++ flat_map pair_names (map (numbered_pair table) es)) (names_of_pair table e)
    ∙ ap (λ (ns : List ℕ). (source_names e.left ++ source_names e.right) ++ ns) (names_of_equations table es)

names_of_phrase : (table : List Symbol) (p : Phrase) → configuration_names (numbered_phrase table p) ≡ phrase_names p
names_of_phrase table p =
    ap (λ (ns : List ℕ). ns ++ flat_map pair_names (map (numbered_pair table) p.equations)) (names_of_interface table p.interface)
    ∙ ap (λ (ns : List ℕ). flat_map source_names p.interface ++ ns) (names_of_equations table p.equations)

low_ones : (ns : List ℕ) → list_all (λ n. nat_le n MAX_NAME) ns ≡ true → AllByRecursion (λ n. n ≤ MAX_NAME) ns
low_ones [] all = tt
low_ones (n ∷ ns) all =
    let both = and_parts (nat_le n MAX_NAME) (list_all (λ m. nat_le m MAX_NAME) ns) all in
    (leb-true n MAX_NAME both.0, low_ones ns both.1)

from_found : (found : Option ℕ) (fault : ℕ → TextFault) (answer : Result SystemParts TextFault) (s : SystemParts) → Ok s ≡ unless_found found fault answer → Ok s ≡ answer
from_found None fault answer s is = is
from_found (Some n) fault answer s is = cc

in_limits : (within fits : Bool) (answer : Result SystemParts TextFault) (s : SystemParts) → Ok s ≡ (if within then (if fits then answer else Err text.Arity) else Err text.Limit)
    → (within ≡ true) × (Ok s ≡ answer)
in_limits true true answer s is = (refl, is)
in_limits true false answer s is = cc
in_limits false fits answer s is = cc

-- the system of a text has low names
pub low_text : (p : SystemPhrase) (s : SystemParts) → Ok s ≡ system_sense_within Wide p → s.config.next ≤ MAX_NAME + 1
low_text p s is =
    let lopsided = unless_found (first_lopsided (rules_over p)) text.Lopsided (Ok (system_parts p)) in
    let twice = unless_found (first_repeated (rules_over p)) text.Twice lopsided in
    let third = unless_found (third_occurrence (phrase_names p.config)) text.Name twice in
    let sense = unless_found (first_uncounted (rules_over p)) text.NameCount third in
    let within = in_limits (is_system_in_limits_within Wide p) (list_all (has_its_arity (system_table p)) (system_symbols p)) sense s is in
    let found = from_found (first_lopsided (rules_over p)) text.Lopsided (Ok (system_parts p)) s
    (from_found (first_repeated (rules_over p)) text.Twice lopsided s
    (from_found (third_occurrence (phrase_names p.config)) text.Name twice s
    (from_found (first_uncounted (rules_over p)) text.NameCount third s within.1))) in
    let same : s ≡ system_parts p = cc (found) in
    let named = list_all (λ n. nat_le n MAX_NAME) (system_names p) in
    let fitting = list_all (λ x. fits_limits x.text x.arity) (system_symbols p) in
    let tests = and_parts (fitting && named) (nat_le (length (system_table p)) (most_symbols Wide))
    (and_parts _ (nat_le (length p.rules) (most_rules Wide))
    (and_parts _ (rules_are_small Wide p.rules)
    (and_parts _ (nat_le (length p.config.interface) (most_interface Wide))
    (and_parts _ (nat_le (phrase_nodes p.config) (most_nodes Wide)) within.0).0).0).0).0 in
    let low = and_parts fitting named tests.0 in
    let ours = and_parts (list_all (λ n. nat_le n MAX_NAME) (flat_map rule_names p.rules)) (list_all (λ n. nat_le n MAX_NAME) (phrase_names p.config))
    (sym (list_all-append (λ n. nat_le n MAX_NAME) (flat_map rule_names p.rules) (phrase_names p.config)) ∙ low.1) in
    subst (λ (t : SystemParts). t.config.next ≤ MAX_NAME + 1) (sym same)
    (all_low (configuration_names (system_parts p).config)
    (subst (λ (ns : List ℕ). AllByRecursion (λ n. n ≤ MAX_NAME) ns) (sym (names_of_phrase (system_table p) p.config)) (low_ones (phrase_names p.config) ours.1)))

pub low_begun : (source : List ℕ) (s : SystemParts) → ReadsSystemWithin Wide source (Ok s) → (p : SystemPhrase) × SpellsSystem source p → s.config.next ≤ MAX_NAME + 1
low_begun source s reads spelled =
    ⊎_elim
    (λ long. let refused = reads.long long in cc (refused))
    (λ short. low_text spelled.0 s (reads.spelled short spelled.0 spelled.1))
    (cases_lt (most_bytes Wide) (length source))
