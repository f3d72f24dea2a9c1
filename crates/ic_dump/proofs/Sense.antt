-- A system that is written is read, where its names may stand in a text, and is written again as it was.
use Rattle.std.proofs.Common.{◌≡◌, ◌↔◌, ℕ, ◌+◌, ◌<◌, ◌≤◌, Bool, true, false, cond, List, [], ◌∷◌, ◌++◌, Option, None, Ok, Err, map, length, IsTrue, refl, sym, ap, subst, ◌∙◌, arith, length-append}
use Rattle.std.specs.Prelude.{nat_le, sum_by}
use Rattle.std.specs.List.{flat_map, list_all, AllByRecursion}
use Rattle.std.proofs.lemmas.Bool.{and_parts, and_from, le-leb}
use Rattle.std.proofs.lemmas.List.{length-map, map-append}
use Rattle.std.proofs.lemmas.List.Folds.{list_all-append}
use Rattle.std.proofs.lemmas.List.Sums.{sum_by-cons}
use Rattle.std.proofs.lemmas.Simd.{map-map}
use Rattle.ic_term.specs.Symbol.{Symbol, AreSymbols, is_symbol_text, fits_limits, is_tree_over, is_pair_over, is_over}
use Rattle.ic_term.specs.Tree.{names}
use Rattle.ic_term.specs.Configuration.{IsConfiguration, configuration_names, configuration_nodes, third_occurrence, occurrences}
use Rattle.ic_term.specs.declared.limits.TheConstants.{MAX_NODES, MAX_INTERFACE, MAX_SYMBOLS}
use Rattle.ic_rules.specs.Renaming.{first_occurrences, number_among}
use Rattle.ic_rules.specs.Rule.{Rule, IsRule, rule_names, rule_nodes, numbered, is_lopsided}
use Rattle.ic_rules.specs.RuleSet.{AreServed, IsRuleSet, IsRuleOver, first_uncounted, first_repeated, first_lopsided}
use Rattle.ic_rules.specs.System.{SystemParts}
use Rattle.ic_rules.specs.Mirror.{IsOwnMirror}
use Rattle.ic_rules.specs.declared.limits.TheConstants.{MAX_RULES, MAX_RULE_NODES}
use Rattle.ic_rules.specs.lemmas.FitLaws.{first_unfit-None}
use Rattle.ic_rules.specs.lemmas.NumberingLaws.{numbered-same, each_among}
use Rattle.ic_rules.specs.lemmas.RenamingLaws.{flat_names-renamed}
use Rattle.ic_text.specs.declared.limits.TheConstants.{MAX_NAME}
use Rattle.ic_text.specs.declared.fault.TextFault.TheVariants.{Limit, Arity, NameCount, Name, Twice, Lopsided}
use Rattle.ic_text.specs.Source.{phrase_names, phrase_symbols, phrase_nodes, source_symbols, Sides}
use Rattle.ic_text.specs.SystemSource.{IsSystemPhrase, rule_symbols, system_symbols, system_names, rule_names as written_names, rule_nodes as written_nodes}
use Rattle.ic_text.specs.Sense.{has_its_arity}
use Rattle.ic_text.specs.SystemSense.{system_table, is_system_in_limits, rule_over, rules_over, system_parts, unless_found, system_sense}
use Rattle.ic_text.specs.Text.{source_of, sides_of}
use Rattle.ic_naming.specs.lemmas.ToldNames.{firsts_within, numbers_below}
use Rattle.ic_text.specs.lemmas.WrittenBack.{phrase_back}
use Rattle.ic_dump.specs.Telling.{rule_of, system_of}
use Rattle.ic_dump.proofs.Lists.{All-join, All-split, All-at}
use Rattle.ic_dump.proofs.NodeNames.{list_names_within}
use Rattle.ic_dump.proofs.Known.{Known, known_rules, known_interface, known_equations, interface_is, equations_are, rules_are}
use Rattle.ic_dump.proofs.Table.{Placed, all_placed, all_agree, no_more_symbols}
use Rattle.ic_dump.proofs.Turned.{turned_rule, rule_names_written, rule_nodes_written, interface_names_written, equation_names_written, interface_nodes_written, equation_nodes_written, rule_back, numbered_turned}
use Rattle.ic_dump.proofs.Rules.{BothMoved, rules_moved, none_uncounted, none_repeated, none_lopsided}

-- what is known of a system whose names may stand in a text
pub record IsWhole (s : SystemParts) : Type 0 where
  pub symbols : AreSymbols s.rules.symbols
  pub rules : IsRuleSet s.rules
  pub served : AreServed s.rules
  pub config : IsConfiguration s.config
  pub over : IsTrue (is_over s.rules.symbols s.config)
  pub names : list_all (λ n. nat_le n MAX_NAME) (configuration_names s.config) ≡ true

-- ---- names of rules are low

names_low : (firsts ns : List ℕ) → length firsts ≤ 2048 → AllByRecursion (λ n. n < length firsts) ns → list_all (λ n. nat_le n MAX_NAME) ns ≡ true
names_low firsts [] few all = refl
names_low firsts (n ∷ ns) few all =
    let here : n ≤ MAX_NAME = omega (arith, all.0) in
    and_from _ _ (le-leb n MAX_NAME here) (names_low firsts ns few all.1)

rule_low : (r : Rule) → IsRule r → rule_nodes r ≤ 2048 → list_all (λ n. nat_le n MAX_NAME) (rule_names r) ≡ true
rule_low r is few =
    let ns = rule_names r in
    let firsts = first_occurrences ns in
    let f : ℕ → ℕ = number_among firsts in
    let same : map f ns ≡ ns =
    map-append f (flat_map names r.left_args) (flat_map names r.right_args)
    ∙ (λ i. sym (flat_names-renamed f r.left_args) i ++ sym (flat_names-renamed f r.right_args) i)
    ∙ ap rule_names (numbered-same r is.in_order) in
    let fewer : length firsts ≤ 2048 =
    omega (arith, firsts_within ns, length-append (flat_map names r.left_args) (flat_map names r.right_args), list_names_within r.left_args, list_names_within r.right_args) in
    names_low firsts ns fewer (subst (λ l. AllByRecursion (λ n. n < length firsts) l) same (numbers_below firsts ns (each_among [] ns)))

rules_low : (table : List Symbol) (rs : List Rule) → AllByRecursion IsRule rs → sum_by rule_nodes rs ≤ 2048
    → list_all (λ n. nat_le n MAX_NAME) (flat_map written_names (map (rule_of table) rs)) ≡ true
rules_low table [] are few = refl
rules_low table (r ∷ rs) are few =
    let parts = sum_by-cons rule_nodes r rs in
    let here : list_all (λ n. nat_le n MAX_NAME) (written_names (rule_of table r)) ≡ true =
    ap (list_all (λ n. nat_le n MAX_NAME)) (rule_names_written table r) ∙ rule_low r are.0 (omega (arith, parts)) in
    list_all-append (λ n. nat_le n MAX_NAME) (written_names (rule_of table r)) (flat_map written_names (map (rule_of table) rs))
    ∙ and_from _ _ here (rules_low table rs are.1 (omega (arith, parts)))

rules_nodes : (table : List Symbol) (rs : List Rule) → sum_by written_nodes (map (rule_of table) rs) ≡ sum_by rule_nodes rs
rules_nodes table [] = refl
rules_nodes table (r ∷ rs) =
    sum_by-cons written_nodes (rule_of table r) (map (rule_of table) rs) ∙ (λ i. rule_nodes_written table r i + rules_nodes table rs i) ∙ sym (sum_by-cons rule_nodes r rs)

-- ---- what is known of symbols

fits_all : (table : List Symbol) → AreSymbols table → (ss : List Symbol) → AllByRecursion (Known table) ss → list_all (λ s. fits_limits s.text s.arity) ss ≡ true
fits_all table are [] known = refl
fits_all table are (s ∷ ss) known = and_from _ _ (All-at (λ (x : Symbol). IsTrue (is_symbol_text x.text) × IsTrue (fits_limits x.text x.arity)) table known.0.place s are.each known.0.there).1 (fits_all table are ss known.1)

chosen : (a b : Bool) (o p q r : Option ℕ) (v : SystemParts) → a ≡ true → b ≡ true → o ≡ None → p ≡ None → q ≡ None → r ≡ None
    → cond a (cond b (unless_found o NameCount (unless_found p Name (unless_found q Twice (unless_found r Lopsided (Ok v))))) (Err Arity)) (Err Limit) ≡ Ok v
chosen a b o p q r v ea eb eo ep eq er = rw (ea, eb, eo, ep, eq, er) refl

module _ (s : SystemParts) (is : IsWhole s) where
  rules_over_table : AllByRecursion (IsRuleOver s.rules.symbols) s.rules.rules
  rules_over_table = (first_unfit-None s.rules.symbols s.rules.rules).0 is.rules.fitting

  known_all : AllByRecursion (Known s.rules.symbols) (system_symbols (system_of s))
  known_all =
      let table = s.rules.symbols in
      let parts = and_parts (list_all (is_tree_over table) s.config.interface) (list_all (is_pair_over table) s.config.equations) is.over in
      All-join (Known table) (flat_map rule_symbols (map (rule_of table) s.rules.rules)) (phrase_symbols (system_of s).config) (known_rules table s.rules.rules rules_over_table)
      (All-join (Known table) (flat_map source_symbols (map (source_of table) s.config.interface))
      (flat_map (λ (e : Sides). source_symbols e.left ++ source_symbols e.right) (map (sides_of table) s.config.equations)) (known_interface table s.config.interface parts.0) (known_equations table s.config.equations parts.1))

  placed_all : AllByRecursion (Placed (system_table (system_of s))) (system_symbols (system_of s))
  placed_all = all_placed s.rules.symbols is.symbols (system_symbols (system_of s)) known_all

  -- each symbol has the text of one
  pub is_system : IsSystemPhrase (system_of s)
  is_system =
      let table = s.rules.symbols in
      let parts = All-split (Known table) (flat_map rule_symbols (system_of s).rules) (phrase_symbols (system_of s).config) known_all in
      let sides = All-split (Known table) (flat_map source_symbols (system_of s).config.interface) (flat_map (λ (e : Sides). source_symbols e.left ++ source_symbols e.right) (system_of s).config.equations) parts.1 in
      record {
        rules = rules_are table is.symbols (system_of s).rules parts.0;
        config = record {
          interface = interface_is table is.symbols (system_of s).config.interface sides.0;
          equations = equations_are table is.symbols (system_of s).config.equations sides.1;
        };
      }

  names_written : phrase_names (system_of s).config ≡ configuration_names s.config
  names_written = λ i. interface_names_written s.rules.symbols s.config.interface i ++ equation_names_written s.rules.symbols s.config.equations i

  in_limits : is_system_in_limits (system_of s) ≡ true
  in_limits =
      let table = s.rules.symbols in
      let p = system_of s in
      let fits : list_all (λ (x : Symbol). fits_limits x.text x.arity) (system_symbols p) ≡ true = fits_all table is.symbols (system_symbols p) known_all in
      let names : list_all (λ n. nat_le n MAX_NAME) (system_names p) ≡ true =
      list_all-append (λ n. nat_le n MAX_NAME) (flat_map written_names p.rules) (phrase_names p.config)
      ∙ and_from _ _ (rules_low table s.rules.rules is.rules.each is.served.nodes) (ap (list_all (λ n. nat_le n MAX_NAME)) names_written ∙ is.names) in
      let symbols : length (system_table p) ≤ MAX_SYMBOLS = omega (arith, no_more_symbols table is.symbols (system_symbols p) known_all, is.served.symbols) in
      let rules : nat_le (length p.rules) MAX_RULES ≡ true = ap (λ n. nat_le n MAX_RULES) (length-map s.rules.rules (rule_of table)) ∙ le-leb (length s.rules.rules) MAX_RULES is.served.rules in
      let rule_sum : nat_le (sum_by written_nodes p.rules) MAX_RULE_NODES ≡ true = ap (λ n. nat_le n MAX_RULE_NODES) (rules_nodes table s.rules.rules) ∙ le-leb (sum_by rule_nodes s.rules.rules) MAX_RULE_NODES is.served.nodes in
      let interface : length p.config.interface ≤ MAX_INTERFACE = omega (arith, length-map s.config.interface (source_of table), is.config.interface) in
      let count : phrase_nodes p.config ≡ configuration_nodes s.config = (λ i. interface_nodes_written table s.config.interface i + equation_nodes_written table s.config.equations i) in
      let nodes_few : phrase_nodes p.config ≤ MAX_NODES = omega (arith, count, is.config.nodes) in
      and_from _ _ (and_from _ _ (and_from _ _ (and_from _ _ (and_from _ _ (and_from _ _ fits names) (le-leb (length (system_table p)) MAX_SYMBOLS symbols)) rules) rule_sum)
      (le-leb (length p.config.interface) MAX_INTERFACE interface)) (le-leb (phrase_nodes p.config) MAX_NODES nodes_few)

  agree_all : list_all (has_its_arity (system_table (system_of s))) (system_symbols (system_of s)) ≡ true
  agree_all = all_agree (system_table (system_of s)) (system_symbols (system_of s)) placed_all

  moved_all : AllByRecursion (BothMoved s.rules.symbols (system_table (system_of s))) s.rules.rules
  moved_all =
      rules_moved s.rules.symbols (system_table (system_of s)) s.rules.rules rules_over_table
      (All-split (Placed (system_table (system_of s))) (flat_map rule_symbols (system_of s).rules) (phrase_symbols (system_of s).config) placed_all).0

  rules_turned : rules_over (system_of s) ≡ map (turned_rule s.rules.symbols (system_table (system_of s))) s.rules.rules
  rules_turned = map-map (rule_over (system_table (system_of s))) (rule_of s.rules.symbols) s.rules.rules

  -- what is written has a sense
  module _ (third : (ns : List ℕ) → (third_occurrence ns ≡ None) ↔ ((n : ℕ) → occurrences n ns ≤ 2))
      (same : (r : Rule) → r.left ≡ r.right → (is_lopsided (numbered r) ≡ false) ↔ IsOwnMirror r) (two : (r : Rule) → (r.left ≡ r.right → ⊥) → is_lopsided (numbered r) ≡ false) where
    pub has_sense : system_sense (system_of s) ≡ Ok (system_parts (system_of s))
    has_sense =
        let table = s.rules.symbols in
        let read = system_table (system_of s) in
        let rs = s.rules.rules in
        chosen (is_system_in_limits (system_of s)) (list_all (has_its_arity read) (system_symbols (system_of s))) (first_uncounted (rules_over (system_of s)))
        (third_occurrence (phrase_names (system_of s).config)) (first_repeated (rules_over (system_of s))) (first_lopsided (rules_over (system_of s)))
        (system_parts (system_of s)) in_limits agree_all
        (ap first_uncounted rules_turned ∙ none_uncounted table read rs is.rules.each)
        (ap third_occurrence names_written ∙ (third (configuration_names s.config)).1 is.config.twice)
        (ap first_repeated rules_turned ∙ none_repeated table read is.symbols rs moved_all is.rules.single)
        (ap first_lopsided rules_turned ∙ none_lopsided table read is.symbols same two rs is.rules.each moved_all)

  rules_back : (rs : List Rule) → AllByRecursion IsRule rs → list_all (has_its_arity (system_table (system_of s))) (flat_map rule_symbols (map (rule_of s.rules.symbols) rs)) ≡ true
      → map (rule_of (system_table (system_of s))) (map numbered (map (rule_over (system_table (system_of s))) (map (rule_of s.rules.symbols) rs))) ≡ map (rule_of s.rules.symbols) rs
  rules_back [] are agree = refl
  rules_back (r ∷ rs) are agree =
      let table = s.rules.symbols in
      let read = system_table (system_of s) in
      let parts = and_parts _ _ (sym (list_all-append (has_its_arity read) (rule_symbols (rule_of table r)) (flat_map rule_symbols (map (rule_of table) rs))) ∙ agree) in
      let here : rule_of read (numbered (turned_rule table read r)) ≡ rule_of table r =
      ap (rule_of read) (numbered-same (turned_rule table read r) (numbered_turned table read r are.0.in_order)) ∙ rule_back read (rule_of table r) parts.0 in
      λ i. here i ∷ rules_back rs are.1 parts.1 i

  -- it is written as it was
  pub written_again : system_of (system_parts (system_of s)) ≡ system_of s
  written_again =
      let read = system_table (system_of s) in
      let parts = and_parts _ _ (sym (list_all-append (has_its_arity read) (flat_map rule_symbols (system_of s).rules) (phrase_symbols (system_of s).config)) ∙ agree_all) in
      let rules = rules_back s.rules.rules is.rules.each parts.0 in
      let config = phrase_back read (system_of s).config parts.1 in
      λ i. record { rules = rules i; config = config i }
