-- The size of a fired configuration, added up equation by equation.
use Rattle.std.proofs.Common.{◌≡◌, ℕ, ◌+◌, ◌≤◌, List, ◌∷◌, true, min, sum_by, ap, arith}
use Rattle.std.proofs.lemmas.List.Sums.{sum_by-cons}
use Rattle.std.specs.List.{list_all}
use Rattle.ic_term.specs.Tree.{Tree, nodes, Pair, pair_nodes}
use Rattle.ic_term.specs.Symbol.{is_over, is_pair_over, is_tree_over}
use Rattle.ic_term.specs.Configuration.{Configuration, IsConfiguration, configuration_nodes}
use Rattle.ic_term.specs.declared.limits.TheConstants.{MAX_NODES}
use Rattle.ic_rules.specs.RuleSet.{Rules}
use Rattle.ic_round.specs.Firing.{names_taken, fired}
use Rattle.ic_round.specs.lemmas.Sizes.{fired_nodes}
use Rattle.ic_round.specs.lemmas.Words.{u64_MAX}
use Rattle.std.proofs.lemmas.Bool.{and_parts}
use Rattle.ic_round.specs.lemmas.ActiveRules.{nodes-fired_from, next-sum}

-- these nodes and names and those of the equations left are the size of the fired configuration
pub record SizeSoFar (rs : Rules) (c : Configuration) (count names : ℕ) (left : List Pair) : Type 0 where
  pub over : list_all (is_pair_over rs.symbols) left ≡ true
  pub count_small : count ≤ u64_MAX
  pub names_small : names ≤ u64_MAX
  pub small : sum_by pair_nodes left ≤ MAX_NODES
  pub nodes_so_far : min (count + sum_by (fired_nodes rs.rules) left) u64_MAX ≡ min (configuration_nodes (fired rs.rules c)) u64_MAX
  pub names_so_far : min (names + sum_by (names_taken rs.rules) left) u64_MAX ≡ min (fired rs.rules c).next u64_MAX

pub size-start : (rs : Rules) (c : Configuration) (ts : List Tree) (es : List Pair) (count names : ℕ) → ts ≡ c.interface → es ≡ c.equations → IsConfiguration c → is_over rs.symbols c ≡ true
    → count ≡ min (sum_by nodes ts) u64_MAX → names ≡ c.next → SizeSoFar rs c count names es
size-start rs c ts es count names same_interface same_equations is over counted named =
    let all = and_parts (list_all (is_tree_over rs.symbols) c.interface) (list_all (is_pair_over rs.symbols) c.equations) over in
    let out = nodes-fired_from rs.rules c.next c.equations in
    let next = next-sum rs.rules c.next c.equations in
    let few = is.nodes in
    let low = is.next in
    let first = ap (sum_by nodes) same_interface in
    rw same_equations (record {
      over = all.1;
      count_small = omega arith;
      names_small = omega arith;
      small = omega arith;
      nodes_so_far = omega arith;
      names_so_far = omega arith;
    })

pub size-next : (rs : Rules) (c : Configuration) (count names more taken : ℕ) (p : Pair) (left : List Pair) → SizeSoFar rs c count names (p ∷ left)
    → more ≡ min (fired_nodes rs.rules p) u64_MAX → taken ≡ names_taken rs.rules p
    → SizeSoFar rs c (min (count + more) u64_MAX) (min (names + taken) u64_MAX) left
size-next rs c count names more taken p left s grown named =
    let all = and_parts (is_pair_over rs.symbols p) (list_all (is_pair_over rs.symbols) left) s.over in
    let old_nodes = s.nodes_so_far in
    let old_names = s.names_so_far in
    let few = s.small in
    let a = sum_by-cons (fired_nodes rs.rules) p left in
    let b = sum_by-cons (names_taken rs.rules) p left in
    let d = sum_by-cons pair_nodes p left in
    record {
      over = all.1;
      count_small = omega arith;
      names_small = omega arith;
      small = omega arith;
      nodes_so_far = omega arith;
      names_so_far = omega arith;
    }

-- what the next equation needs
pub size-here : (rs : Rules) (c : Configuration) (count names : ℕ) (p : Pair) (left : List Pair) → SizeSoFar rs c count names (p ∷ left)
    → (is_pair_over rs.symbols p ≡ true) × (pair_nodes p ≤ MAX_NODES)
size-here rs c count names p left s =
    let few = s.small in
    let d = sum_by-cons pair_nodes p left in
    ((and_parts (is_pair_over rs.symbols p) (list_all (is_pair_over rs.symbols) left) s.over).0, omega arith)
