-- Terms and rules that are written over one table of symbols and read over another.
use Rattle.std.proofs.Common.{◌≡◌, ℕ, true, ◌+◌, List, [], ◌∷◌, ◌++◌, map, length, slice_get, refl, sym, ap, ◌∙◌}
use Rattle.std.specs.Prelude.{sum_by}
use Rattle.std.specs.List.{flat_map, range_with_len, list_all}
use Rattle.std.proofs.lemmas.List.Folds.{flat_map-map, list_all-append}
use Rattle.std.proofs.lemmas.List.Sums.{sum_by-cons}
use Rattle.std.proofs.lemmas.Bool.{and_parts}
use Rattle.std.proofs.lemmas.Simd.{map-map}
use Rattle.std.proofs.lemmas.List.FromFn.{length-range_with_len}
use Rattle.ic_term.specs.Symbol.{Symbol}
use Rattle.ic_term.specs.Tree.{Tree, name, agent, Trees, no_trees, more_trees, Pair, list_of, trees_of, names, names_of, nodes, nodes_of, pair_names, pair_nodes}
use Rattle.ic_rules.specs.Renaming.{renamed, renamed_trees, first_occurrences}
use Rattle.ic_rules.specs.Rule.{Rule, rule_names, rule_nodes, IsNumbered}
use Rattle.ic_text.specs.Source.{Sides, source_names, names_of_sources, source_nodes, nodes_of_sources, source_symbols, count_of}
use Rattle.ic_text.specs.SystemSource.{RulePhrase, AgentPhrase, agent_source, rule_symbols, rule_names as written_names, rule_nodes as written_nodes}
use Rattle.ic_text.specs.Sense.{has_its_arity, number_in_table, numbered_tree, numbered_trees}
use Rattle.ic_text.specs.SystemSense.{rule_over}
use Rattle.ic_text.specs.Text.{text_or_none, source_of, sources_of, sides_of}
use Rattle.ic_dump.specs.Telling.{agent_of, rule_of}
use Rattle.ic_text.specs.lemmas.WrittenBack.{text_found, sources_back}
use Rattle.ic_flat.specs.lemmas.WordLaws.{trees_of-list_of}

-- ---- the names and nodes of what is written
module _ (table : List Symbol) where
  mutual
    names_written : (t : Tree) → source_names (source_of table t) ≡ names t
    names_written (name n) = refl
    names_written (agent s ts) = names_of_written ts

    names_of_written : (ts : Trees) → names_of_sources (sources_of table ts) ≡ names_of ts
    names_of_written no_trees = refl
    names_of_written (more_trees t ts) = λ i. names_written t i ++ names_of_written ts i

  mutual
    nodes_written : (t : Tree) → source_nodes (source_of table t) ≡ nodes t
    nodes_written (name n) = refl
    nodes_written (agent s ts) = ap (λ n. 1 + n) (nodes_of_written ts)

    nodes_of_written : (ts : Trees) → nodes_of_sources (sources_of table ts) ≡ nodes_of ts
    nodes_of_written no_trees = refl
    nodes_of_written (more_trees t ts) = λ i. nodes_written t i + nodes_of_written ts i

  list_names : (ts : List Tree) → names_of_sources (sources_of table (trees_of ts)) ≡ flat_map names ts
  list_names [] = refl
  list_names (t ∷ ts) = λ i. names_written t i ++ list_names ts i

  list_nodes : (ts : List Tree) → nodes_of_sources (sources_of table (trees_of ts)) ≡ sum_by nodes ts
  list_nodes [] = refl
  list_nodes (t ∷ ts) = (λ i. nodes_written t i + list_nodes ts i) ∙ sym (sum_by-cons nodes t ts)

  pub rule_names_written : (r : Rule) → written_names (rule_of table r) ≡ rule_names r
  rule_names_written r = λ i. list_names r.left_args i ++ list_names r.right_args i

  pub rule_nodes_written : (r : Rule) → written_nodes (rule_of table r) ≡ rule_nodes r
  rule_nodes_written r = λ i. list_nodes r.left_args i + list_nodes r.right_args i

  pub interface_names_written : (ts : List Tree) → flat_map source_names (map (source_of table) ts) ≡ flat_map names ts
  interface_names_written ts = flat_map-map source_names (source_of table) ts ∙ (λ i. flat_map (λ t. names_written t i) ts)

  pub equation_names_written : (es : List Pair) → flat_map (λ (e : Sides). source_names e.left ++ source_names e.right) (map (sides_of table) es) ≡ flat_map pair_names es
  equation_names_written es =
      flat_map-map (λ (e : Sides). source_names e.left ++ source_names e.right) (sides_of table) es ∙ (λ i. flat_map (λ (e : Pair). names_written e.left i ++ names_written e.right i) es)

  pub interface_nodes_written : (ts : List Tree) → sum_by source_nodes (map (source_of table) ts) ≡ sum_by nodes ts
  interface_nodes_written [] = refl
  interface_nodes_written (t ∷ ts) =
      sum_by-cons source_nodes (source_of table t) (map (source_of table) ts) ∙ (λ i. nodes_written t i + interface_nodes_written ts i) ∙ sym (sum_by-cons nodes t ts)

  pub equation_nodes_written : (es : List Pair) → sum_by (λ (e : Sides). source_nodes e.left + source_nodes e.right) (map (sides_of table) es) ≡ sum_by pair_nodes es
  equation_nodes_written [] = refl
  equation_nodes_written (e ∷ es) =
      sum_by-cons (λ (x : Sides). source_nodes x.left + source_nodes x.right) (sides_of table e) (map (sides_of table) es)
      ∙ (λ i. (nodes_written e.left i + nodes_written e.right i) + equation_nodes_written es i)
      ∙ sym (sum_by-cons pair_nodes e es)

-- ---- what is read is written as it was
module _ (read : List Symbol) where
  agent_back : (a : AgentPhrase) → list_all (has_its_arity read) (source_symbols (agent_source a)) ≡ true
      → agent_of read (number_in_table read a.text) (list_of (numbered_trees read a.arguments)) ≡ a
  agent_back a agree =
      let parts = and_parts (has_its_arity read (record { text = a.text; arity = count_of a.arguments })) _ agree in
      let arguments : sources_of read (trees_of (list_of (numbered_trees read a.arguments))) ≡ a.arguments =
      ap (sources_of read) (trees_of-list_of (numbered_trees read a.arguments)) ∙ sources_back read a.arguments parts.1 in
      λ i. record { text = text_found read a.text (count_of a.arguments) parts.0 i; arguments = arguments i }

  pub rule_back : (r : RulePhrase) → list_all (has_its_arity read) (rule_symbols r) ≡ true → rule_of read (rule_over read r) ≡ r
  rule_back r agree =
      let sides = and_parts _ _ (sym (list_all-append (has_its_arity read) (source_symbols (agent_source r.left)) (source_symbols (agent_source r.right))) ∙ agree) in
      λ i. record { left = agent_back r.left sides.0 i; right = agent_back r.right sides.1 i }

-- ---- terms over the other table
module _ (table read : List Symbol) where
  abbrev pub turned : Tree → Tree
  turned t = numbered_tree read (source_of table t)

  -- the rule that is read where this one is written
  abbrev pub turned_rule : Rule → Rule
  turned_rule r = rule_over read (rule_of table r)

  mutual
    names_turned : (t : Tree) → names (turned t) ≡ names t
    names_turned (name n) = refl
    names_turned (agent s ts) = names_of_turned ts

    names_of_turned : (ts : Trees) → names_of (numbered_trees read (sources_of table ts)) ≡ names_of ts
    names_of_turned no_trees = refl
    names_of_turned (more_trees t ts) = λ i. names_turned t i ++ names_of_turned ts i

  pub list_turned : (ts : List Tree) → list_of (numbered_trees read (sources_of table (trees_of ts))) ≡ map turned ts
  list_turned [] = refl
  list_turned (t ∷ ts) = ap (λ l. turned t ∷ l) (list_turned ts)

  list_names_turned : (ts : List Tree) → flat_map names (map turned ts) ≡ flat_map names ts
  list_names_turned ts = flat_map-map names turned ts ∙ (λ i. flat_map (λ t. names_turned t i) ts)

  pub rule_names_turned : (r : Rule) → rule_names (turned_rule r) ≡ rule_names r
  rule_names_turned r =
      (λ i. flat_map names (list_turned r.left_args i) ++ flat_map names (list_turned r.right_args i))
      ∙ (λ i. list_names_turned r.left_args i ++ list_names_turned r.right_args i)

  -- its names are numbered as they were
  pub numbered_turned : (r : Rule) → IsNumbered r → IsNumbered (turned_rule r)
  numbered_turned r in_order =
      let count : r.names ≡ length (first_occurrences (written_names (rule_of table r))) =
      sym (length-range_with_len 0 r.names) ∙ ap length (sym in_order) ∙ ap (λ ns. length (first_occurrences ns)) (sym (rule_names_written table r)) in
      ap first_occurrences (rule_names_turned r) ∙ in_order ∙ ap (range_with_len 0) count

  -- renaming goes before or after
  mutual
    renamed_turned : (f : ℕ → ℕ) (t : Tree) → renamed f (turned t) ≡ turned (renamed f t)
    renamed_turned f (name n) = refl
    renamed_turned f (agent s ts) = ap (agent (number_in_table read (text_or_none (slice_get table s)))) (renamed_of_turned f ts)

    renamed_of_turned : (f : ℕ → ℕ) (ts : Trees) → renamed_trees f (numbered_trees read (sources_of table ts)) ≡ numbered_trees read (sources_of table (renamed_trees f ts))
    renamed_of_turned f no_trees = refl
    renamed_of_turned f (more_trees t ts) = λ i. more_trees (renamed_turned f t i) (renamed_of_turned f ts i)

  pub list_renamed_turned : (f : ℕ → ℕ) (ts : List Tree) → map (renamed f) (map turned ts) ≡ map turned (map (renamed f) ts)
  list_renamed_turned f ts = map-map (renamed f) turned ts ∙ (λ i. map (λ t. renamed_turned f t i) ts) ∙ sym (map-map turned (renamed f) ts)
