use Rattle.std.specs.Prelude.{◌≡◌, ℕ, ◌+◌, ◌==◌, List, [], ◌∷◌, ◌++◌, Bool, false, ◌&&◌, ◌||◌, not, length, map, sum_by, IsTrue}
use Rattle.std.specs.List.{flat_map, range_with_len}
use Rattle.std.specs.Cmp.Lexicographic.{pointwise}
use Rattle.ic_term.specs.Tree.{Tree, name, agent, Trees, no_trees, more_trees, trees_of, list_of, nodes, names, tree_eq}
use Rattle.ic_rules.specs.Renaming.{renamed, first_occurrences, number_among, are_paired}

-- An interaction rule `A(t1,..,tn)><B(u1,..,um)` as plain data (Lafont 1990): its symbols by number, its
-- arguments, and how many names it has.
pub record Rule : Type 0 where
  pub left : ℕ
  pub right : ℕ
  pub left_args : List Tree
  pub right_args : List Tree
  pub names : ℕ

-- the names of a rule in the order of the text, left arguments first, each as often as it occurs
abbrev pub rule_names : Rule → List ℕ
rule_names r = flat_map names r.left_args ++ flat_map names r.right_args

-- the nodes of a rule's arguments
abbrev pub rule_nodes : Rule → ℕ
rule_nodes r = sum_by nodes r.left_args + sum_by nodes r.right_args

-- a rule with its names numbered 0, 1, .. by first occurrence, left arguments first (this project's choice)
abbrev pub numbered : Rule → Rule
numbered r = let firsts = first_occurrences (rule_names r) in record {
  left = r.left;
  right = r.right;
  left_args = map (renamed (number_among firsts)) r.left_args;
  right_args = map (renamed (number_among firsts)) r.right_args;
  names = length firsts;
}

-- a rule read from its right side
abbrev pub swapped : Rule → Rule
swapped r = record {
  left = r.right;
  right = r.left;
  left_args = r.right_args;
  right_args = r.left_args;
  names = r.names;
}

-- whether two rules are the same
abbrev pub rule_eq : Rule → Rule → Bool
rule_eq r s = r.left == s.left && r.right == s.right && pointwise tree_eq r.left_args s.left_args
    && pointwise tree_eq r.right_args s.right_args && r.names == s.names

-- A rule is lopsided if both its symbols are one, and it isn't its own swap with the swap's names
-- numbered anew. It is asked of rules whose names are numbered (this project's choice).
abbrev pub is_lopsided : Rule → Bool
is_lopsided r = r.left == r.right && not (rule_eq r (numbered (swapped r)))

-- the names of a rule are 0, 1, .. by first occurrence, left arguments first, and `names` counts them
abbrev pub IsNumbered : Rule → Type 0
IsNumbered r = first_occurrences (rule_names r) ≡ range_with_len 0 r.names

-- What each rule keeps. Each of its names occurs exactly twice (Lafont 1990); they are numbered by first occurrence,
-- and a rule of a symbol with itself is its own swap (this project's choice).
pub record IsRule (r : Rule) : Type 0 where
  pub paired : IsTrue (are_paired (rule_names r))
  pub in_order : IsNumbered r
  pub level : is_lopsided r ≡ false

-- the rule is of this pair of symbols, as they stand
abbrev pub stands_for : ℕ → ℕ → Rule → Bool
stands_for a b r = r.left == a && r.right == b

-- two rules are of one unordered pair of symbols
abbrev pub same_pair : Rule → Rule → Bool
same_pair r s = stands_for r.left r.right s || stands_for r.right r.left s

-- the agents of a term in the order of the text, each with its number of arguments
abbrev mutual
  pub agents : Tree → List (ℕ × ℕ)
  agents (name n) = []
  agents (agent s ts) = (s, length (list_of ts)) ∷ agents_of ts

  pub agents_of : Trees → List (ℕ × ℕ)
  agents_of no_trees = []
  agents_of (more_trees t ts) = agents t ++ agents_of ts

-- the agents of a rule in the order of the text
abbrev pub rule_agents : Rule → List (ℕ × ℕ)
rule_agents r = agents (agent r.left (trees_of r.left_args))
    ++ agents (agent r.right (trees_of r.right_args))
