-- The rules that are built of prefix notation are those that are written.
use Rattle.std.proofs.Common.{◌≡◌, ℕ, ◌+◌, Bool, true, false, cond, List, [], ◌∷◌, ◌++◌, ◌&&◌, None, Some, length, map, refl, sym, ap, ◌∙◌}
use Rattle.std.specs.Prelude.{nat_le, sum_by}
use Rattle.std.specs.List.{flat_map, list_all, slice_get}
use Rattle.std.proofs.lemmas.Bool.{and_parts}
use Rattle.std.proofs.lemmas.List.Sums.{sum_by-cons}
use Rattle.std.proofs.lemmas.List.{length-map}
use Rattle.std.proofs.lemmas.List.Folds.{list_all-append}
use Rattle.ic_term.specs.Symbol.{Symbol, has_arity, number_of_text}
use Rattle.ic_term.specs.Tree.{agent, Trees, no_trees, more_trees, list_of, names, names_of, nodes, nodes_of}
use Rattle.ic_rules.specs.Renaming.{first_occurrences}
use Rattle.ic_rules.specs.Rule.{agents, agents_of, rule_agents, rule_nodes as nodes_of_rule}
use Rattle.ic_rules.specs.RuleSet.{are_few, unfit_among, first_unfit}
use Rattle.ic_rules.specs.declared.limits.TheConstants.{MAX_WIDE_RULES, MAX_RULE_NODES}
use Rattle.ic_text.specs.Source.{Source, leaf, node, Sources, no_sources, more_sources, source_symbols, symbols_of_sources, count_of}
use Rattle.ic_text.specs.Sense.{has_its_arity, number_in_table, numbered_tree, numbered_trees}
use Rattle.ic_text.specs.SystemSource.{RulePhrase, agent_source, rule_symbols, rule_nodes}
use Rattle.ic_text.specs.SystemSense.{rule_over}
use Rattle.ic_text.specs.inner.Built.{rule_in, rules_in}
use Rattle.ic_text.proofs.BuiltTrees.{length-numbered_trees}
use Rattle.ic_text.proofs.Sensing.{names-numbered_trees, nodes-numbered_trees, sum_by-map}
use Rattle.ic_text.proofs.Over.{found_has}
use Rattle.ic_text.proofs.JoinedPhrase.{sides_of_rules}
use Rattle.ic_flat.specs.lemmas.WordLaws.{trees_of-list_of}

pub flat_names : (ts : Trees) → flat_map names (list_of ts) ≡ names_of ts
flat_names no_trees = refl
flat_names (more_trees t ts) = ap (λ l. names t ++ l) (flat_names ts)

sum_nodes : (ts : Trees) → sum_by nodes (list_of ts) ≡ nodes_of ts
sum_nodes no_trees = refl
sum_nodes (more_trees t ts) = sum_by-cons nodes t (list_of ts) ∙ ap (λ n. nodes t + n) (sum_nodes ts)

module _ (table : List Symbol) where
  rule-is : (r : RulePhrase) → rule_in (numbered_tree table (agent_source r.left)) (numbered_tree table (agent_source r.right)) ≡ rule_over table r ∷ []
  rule-is r =
      let left = flat_names (numbered_trees table r.left.arguments) ∙ names-numbered_trees table r.left.arguments in
      let right = flat_names (numbered_trees table r.right.arguments) ∙ names-numbered_trees table r.right.arguments in
      λ i. record {
        left = number_in_table table r.left.text;
        right = number_in_table table r.right.text;
        left_args = list_of (numbered_trees table r.left.arguments);
        right_args = list_of (numbered_trees table r.right.arguments);
        names = length (first_occurrences (left i ++ right i));
      } ∷ []

  -- the rules of their sides
  pub rules_in-sides : (rs : List RulePhrase) → rules_in (map (numbered_tree table) (sides_of_rules rs)) ≡ map (rule_over table) rs
  rules_in-sides [] = refl
  rules_in-sides (r ∷ rs) = ap (λ l. l ++ rules_in (map (numbered_tree table) (sides_of_rules rs))) (rule-is r) ∙ ap (λ l. rule_over table r ∷ l) (rules_in-sides rs)

  -- the nodes of their arguments
  nodes-rule_over : (r : RulePhrase) → nodes_of_rule (rule_over table r) ≡ rule_nodes r
  nodes-rule_over r =
      let left = sum_nodes (numbered_trees table r.left.arguments) ∙ nodes-numbered_trees table r.left.arguments in
      let right = sum_nodes (numbered_trees table r.right.arguments) ∙ nodes-numbered_trees table r.right.arguments in
      λ i. left i + right i

  short-rules_over : (rs : List RulePhrase) → list_all (λ r. nat_le (nodes_of_rule r) MAX_RULE_NODES) (map (rule_over table) rs) ≡ list_all (λ r. nat_le (rule_nodes r) MAX_RULE_NODES) rs
  short-rules_over [] = refl
  short-rules_over (r ∷ rs) = λ i. nat_le (nodes-rule_over r i) MAX_RULE_NODES && short-rules_over rs i

  pub few-rules_over : (rs : List RulePhrase) → are_few (map (rule_over table) rs) ≡ (nat_le (length rs) MAX_WIDE_RULES && list_all (λ r. nat_le (rule_nodes r) MAX_RULE_NODES) rs)
  few-rules_over rs = λ i. nat_le (length-map rs (rule_over table) i) MAX_WIDE_RULES && short-rules_over rs i

  -- rules that are few by the limits of what is served
  pub sum-rules_over : (rs : List RulePhrase) → sum_by nodes_of_rule (map (rule_over table) rs) ≡ sum_by rule_nodes rs
  sum-rules_over rs = sum_by-map nodes_of_rule (rule_over table) rs ∙ (λ i. sum_by (λ r. nodes-rule_over r i) rs)

  -- agents that have their arities are fit
  unfit-append : (xs ys : List (ℕ × ℕ)) → unfit_among table xs ≡ None → unfit_among table ys ≡ None → unfit_among table (xs ++ ys) ≡ None
  unfit-append [] ys none others = others
  unfit-append (x ∷ xs) ys none others = by_test (has_arity x.1 (slice_get table x.0)) none (λ e. unfit-append xs ys e others)
    where
      by_test : (b : Bool) → cond b (unfit_among table xs) (Some x.0) ≡ None → (unfit_among table xs ≡ None → unfit_among table (xs ++ ys) ≡ None) → cond b (unfit_among table (xs ++ ys)) (Some x.0) ≡ None
      by_test true e next = next e
      by_test false e next = cc

  mutual
    fit-tree : (t : Source) → list_all (has_its_arity table) (source_symbols t) ≡ true → unfit_among table (agents (numbered_tree table t)) ≡ None
    fit-tree (leaf n) agree = refl
    fit-tree (node text ts) agree =
        let parts = and_parts (has_its_arity table (record { text = text; arity = count_of ts })) _ agree in
        let has = found_has table (count_of ts) (number_of_text table text) parts.0 in
        let here : has_arity (length (list_of (numbered_trees table ts))) (slice_get table (number_in_table table text)) ≡ true = ap (λ n. has_arity n (slice_get table (number_in_table table text))) (length-numbered_trees table ts) ∙ has in
        rw here (fit-trees ts parts.1)

    fit-trees : (ts : Sources) → list_all (has_its_arity table) (symbols_of_sources ts) ≡ true → unfit_among table (agents_of (numbered_trees table ts)) ≡ None
    fit-trees no_sources agree = refl
    fit-trees (more_sources t ts) agree =
        let parts = and_parts _ _ (sym (list_all-append (has_its_arity table) (source_symbols t) (symbols_of_sources ts)) ∙ agree) in
        unfit-append (agents (numbered_tree table t)) (agents_of (numbered_trees table ts)) (fit-tree t parts.0) (fit-trees ts parts.1)

  agents-rule_over : (r : RulePhrase) → rule_agents (rule_over table r) ≡ agents (numbered_tree table (agent_source r.left)) ++ agents (numbered_tree table (agent_source r.right))
  agents-rule_over r =
      let left = trees_of-list_of (numbered_trees table r.left.arguments) in
      let right = trees_of-list_of (numbered_trees table r.right.arguments) in
      λ i. agents (agent (number_in_table table r.left.text) (left i)) ++ agents (agent (number_in_table table r.right.text) (right i))

  pub fit-rules_over : (rs : List RulePhrase) → list_all (has_its_arity table) (flat_map rule_symbols rs) ≡ true → first_unfit table (map (rule_over table) rs) ≡ None
  fit-rules_over [] agree = refl
  fit-rules_over (r ∷ rs) agree =
      let parts = and_parts _ _ (sym (list_all-append (has_its_arity table) (rule_symbols r) (flat_map rule_symbols rs)) ∙ agree) in
      let sides = and_parts _ _ (sym (list_all-append (has_its_arity table) (source_symbols (agent_source r.left)) (source_symbols (agent_source r.right))) ∙ parts.0) in
      let here = ap (unfit_among table) (agents-rule_over r) ∙ unfit-append (agents (numbered_tree table (agent_source r.left))) (agents (numbered_tree table (agent_source r.right))) (fit-tree (agent_source r.left) sides.0) (fit-tree (agent_source r.right) sides.1) in
      unfit-append (rule_agents (rule_over table r)) (flat_map rule_agents (map (rule_over table) rs)) here (fit-rules_over rs parts.1)
