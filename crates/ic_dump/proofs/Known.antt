-- The symbols of what is written are those of the table.
use Rattle.std.proofs.Common.{◌≡◌, ℕ, ◌<◌, true, false, List, [], ◌∷◌, ◌++◌, Option, None, Some, map, length, get_or, slice_get, IsTrue, inl, inr, refl, sym, ap, ◌∙◌, arith}
use Rattle.std.specs.List.{flat_map, list_all, AllByRecursion}
use Rattle.std.specs.Str.{bytes_eq}
use Rattle.std.specs.Cmp.{unsigned_Decides}
use Rattle.std.specs.Cmp.Lexicographic.{bytes_decides}
use Rattle.std.proofs.lemmas.Bool.{and_parts, cases_order, false≢true}
use Rattle.std.proofs.lemmas.List.{length-map}
use Rattle.std.proofs.lemmas.Map.Keys.{apart_from_distinct}
use Rattle.std.proofs.lemmas.Option.{same_Some, slice_get_within}
use Rattle.ic_term.specs.Symbol.{Symbol, AreSymbols, texts, has_arity, is_symbol_text, fits_limits, is_tree_over, are_trees_over, is_pair_over}
use Rattle.ic_term.specs.Tree.{Tree, name, agent, Trees, no_trees, more_trees, Pair, list_of, trees_of}
use Rattle.ic_term.specs.lemmas.TreeLaws.{list_of-trees_of}
use Rattle.ic_rules.specs.Rule.{Rule}
use Rattle.ic_rules.specs.RuleSet.{IsRuleOver}
use Rattle.ic_rules.specs.lemmas.FitLaws.{are_trees_over-trees_of}
use Rattle.ic_text.specs.Source.{Source, leaf, node, Sources, no_sources, more_sources, Sides, IsSource, AreSources, count_of, source_symbols, symbols_of_sources}
use Rattle.ic_text.specs.SystemSource.{RulePhrase, IsRulePhrase, agent_source, rule_symbols}
use Rattle.ic_text.specs.Text.{text_or_none, source_of, sources_of, sides_of}
use Rattle.ic_text.specs.lemmas.WrittenBack.{text-get_or}
use Rattle.ic_dump.specs.Telling.{agent_of, rule_of}
use Rattle.ic_dump.proofs.Lists.{All-join, All-split, All-at}

-- a symbol stands in a table
pub record Known (table : List Symbol) (s : Symbol) : Type 0 where
  pub place : ℕ
  pub there : slice_get table place ≡ Some s

found_symbol : (k : ℕ) (o : Option Symbol) → has_arity k o ≡ true → o ≡ Some (record { text = text_or_none o; arity = k })
found_symbol k None has = absurd (false≢true has)
found_symbol k (Some x) has = ap (λ a. Some (record { text = x.text; arity = a })) ((unsigned_Decides x.arity k).0 has)

pub count_of-sources_of : (table : List Symbol) (ts : Trees) → count_of (sources_of table ts) ≡ length (list_of ts)
count_of-sources_of table no_trees = refl
count_of-sources_of table (more_trees t ts) = omega (arith, count_of-sources_of table ts)

module _ (table : List Symbol) where
  -- the symbol of an agent
  pub symbol_there : (s : ℕ) (ts : Trees) → has_arity (length (list_of ts)) (slice_get table s) ≡ true
      → slice_get table s ≡ Some (record { text = text_or_none (slice_get table s); arity = count_of (sources_of table ts) })
  symbol_there s ts has =
      found_symbol (length (list_of ts)) (slice_get table s) has
      ∙ ap (λ n. Some (record { text = text_or_none (slice_get table s); arity = n })) (sym (count_of-sources_of table ts))

  mutual
    known_tree : (t : Tree) → is_tree_over table t ≡ true → AllByRecursion (Known table) (source_symbols (source_of table t))
    known_tree (name n) over = tt
    known_tree (agent s ts) over =
        let parts = and_parts (has_arity (length (list_of ts)) (slice_get table s)) _ over in
        (record { place = s; there = symbol_there s ts parts.0 }, known_trees ts parts.1)

    known_trees : (ts : Trees) → are_trees_over table ts ≡ true → AllByRecursion (Known table) (symbols_of_sources (sources_of table ts))
    known_trees no_trees over = tt
    known_trees (more_trees t ts) over =
        let parts = and_parts (is_tree_over table t) _ over in
        All-join (Known table) (source_symbols (source_of table t)) (symbols_of_sources (sources_of table ts)) (known_tree t parts.0) (known_trees ts parts.1)

  pub known_interface : (ts : List Tree) → list_all (is_tree_over table) ts ≡ true → AllByRecursion (Known table) (flat_map source_symbols (map (source_of table) ts))
  known_interface [] over = tt
  known_interface (t ∷ ts) over =
      let parts = and_parts (is_tree_over table t) _ over in
      All-join (Known table) (source_symbols (source_of table t)) (flat_map source_symbols (map (source_of table) ts)) (known_tree t parts.0) (known_interface ts parts.1)

  pub known_equations : (es : List Pair) → list_all (is_pair_over table) es ≡ true
      → AllByRecursion (Known table) (flat_map (λ (e : Sides). source_symbols e.left ++ source_symbols e.right) (map (sides_of table) es))
  known_equations [] over = tt
  known_equations (e ∷ es) over =
      let parts = and_parts (is_pair_over table e) _ over in
      let sides = and_parts (is_tree_over table e.left) (is_tree_over table e.right) parts.0 in
      All-join (Known table) (source_symbols (source_of table e.left) ++ source_symbols (source_of table e.right))
      (flat_map (λ (x : Sides). source_symbols x.left ++ source_symbols x.right) (map (sides_of table) es))
      (All-join (Known table) (source_symbols (source_of table e.left)) (source_symbols (source_of table e.right)) (known_tree e.left sides.0) (known_tree e.right sides.1))
      (known_equations es parts.1)

  known_agent : (s : ℕ) (ts : List Tree) → has_arity (length ts) (slice_get table s) ≡ true → list_all (is_tree_over table) ts ≡ true
      → AllByRecursion (Known table) (source_symbols (agent_source (agent_of table s ts)))
  known_agent s ts has over =
      let here : has_arity (length (list_of (trees_of ts))) (slice_get table s) ≡ true = ap (λ l. has_arity (length l) (slice_get table s)) (list_of-trees_of ts) ∙ has in
      (record { place = s; there = symbol_there s (trees_of ts) here }, known_trees (trees_of ts) (are_trees_over-trees_of table ts ∙ over))

  pub known_rule : (r : Rule) → IsRuleOver table r → AllByRecursion (Known table) (rule_symbols (rule_of table r))
  known_rule r over =
      All-join (Known table) (source_symbols (agent_source (agent_of table r.left r.left_args))) (source_symbols (agent_source (agent_of table r.right r.right_args)))
      (known_agent r.left r.left_args over.left over.left_args) (known_agent r.right r.right_args over.right over.right_args)

  pub known_rules : (rs : List Rule) → AllByRecursion (IsRuleOver table) rs → AllByRecursion (Known table) (flat_map rule_symbols (map (rule_of table) rs))
  known_rules [] over = tt
  known_rules (r ∷ rs) over =
      All-join (Known table) (rule_symbols (rule_of table r)) (flat_map rule_symbols (map (rule_of table) rs)) (known_rule r over.0) (known_rules rs over.1)

text_there : (ss : List Symbol) (n : ℕ) (s : Symbol) → slice_get ss n ≡ Some s → get_or (texts ss) n [] ≡ s.text
text_there ss n s there = text-get_or ss n ∙ ap text_or_none there

module _ (table : List Symbol) (are : AreSymbols table) where
  -- one text stands at one place
  pub one_place : (m n : ℕ) (s t : Symbol) → slice_get table m ≡ Some s → slice_get table n ≡ Some t → s.text ≡ t.text → m ≡ n
  one_place m n s t here there same = elim (cases_order m n) [
    | inl e ↦ e
    | inr (inl less) ↦ absurd (false≢true (sym (apart m n s t here there less) ∙ (bytes_decides s.text t.text).1 same))
    | inr (inr more) ↦ absurd (false≢true (sym (apart n m t s there here more) ∙ (bytes_decides t.text s.text).1 (sym same)))
  ]
    where
      apart : (i j : ℕ) (x y : Symbol) → slice_get table i ≡ Some x → slice_get table j ≡ Some y → i < j → bytes_eq x.text y.text ≡ false
      apart i j x y at_i at_j less =
          let within : j < length (texts table) = omega (arith, slice_get_within table j y at_j, length-map table (λ (z : Symbol). z.text)) in
          (λ k. bytes_eq (sym (text_there table i x at_i) k) (sym (text_there table j y at_j) k)) ∙ apart_from_distinct bytes_eq (texts table) i j [] are.distinct less within

  pub one_symbol : (s t : Symbol) → Known table s → Known table t → s.text ≡ t.text → s ≡ t
  one_symbol s t here there same =
      let place = one_place here.place there.place s t here.there there.there same in
      same_Some s t (sym here.there ∙ ap (slice_get table) place ∙ there.there)

  pub known_text : (s : Symbol) → Known table s → IsTrue (is_symbol_text s.text)
  known_text s known = (All-at (λ (x : Symbol). IsTrue (is_symbol_text x.text) × IsTrue (fits_limits x.text x.arity)) table known.place s are.each known.there).0

  mutual
    source_is : (t : Source) → AllByRecursion (Known table) (source_symbols t) → IsSource t
    source_is (leaf n) known = tt
    source_is (node text ts) known = (known_text (record { text = text; arity = count_of ts }) known.0, sources_are ts known.1)

    sources_are : (ts : Sources) → AllByRecursion (Known table) (symbols_of_sources ts) → AreSources ts
    sources_are no_sources known = tt
    sources_are (more_sources t ts) known =
        let parts = All-split (Known table) (source_symbols t) (symbols_of_sources ts) known in
        (source_is t parts.0, sources_are ts parts.1)

  pub interface_is : (ts : List Source) → AllByRecursion (Known table) (flat_map source_symbols ts) → AllByRecursion IsSource ts
  interface_is [] known = tt
  interface_is (t ∷ ts) known =
      let parts = All-split (Known table) (source_symbols t) (flat_map source_symbols ts) known in
      (source_is t parts.0, interface_is ts parts.1)

  pub equations_are : (es : List Sides) → AllByRecursion (Known table) (flat_map (λ (e : Sides). source_symbols e.left ++ source_symbols e.right) es)
      → AllByRecursion (λ (e : Sides). IsSource e.left × IsSource e.right) es
  equations_are [] known = tt
  equations_are (e ∷ es) known =
      let parts = All-split (Known table) (source_symbols e.left ++ source_symbols e.right) (flat_map (λ (x : Sides). source_symbols x.left ++ source_symbols x.right) es) known in
      let sides = All-split (Known table) (source_symbols e.left) (source_symbols e.right) parts.0 in
      ((source_is e.left sides.0, source_is e.right sides.1), equations_are es parts.1)

  pub rules_are : (rs : List RulePhrase) → AllByRecursion (Known table) (flat_map rule_symbols rs) → AllByRecursion IsRulePhrase rs
  rules_are [] known = tt
  rules_are (r ∷ rs) known =
      let parts = All-split (Known table) (rule_symbols r) (flat_map rule_symbols rs) known in
      let sides = All-split (Known table) (source_symbols (agent_source r.left)) (source_symbols (agent_source r.right)) parts.0 in
      ((source_is (agent_source r.left) sides.0, source_is (agent_source r.right) sides.1), rules_are rs parts.1)
