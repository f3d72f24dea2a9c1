use Rattle.std.specs.Prelude.{ℕ, ◌+◌, ◌==◌, List, [], ◌∷◌, ◌++◌, Bool, true, false, ◌&&◌}

-- A term as plain data: a name, or a symbol with its arguments in order (Lafont 1990; Fernández and
-- Mackie 1999, section 2). Names and symbols are numbers.
mutual
  pub data Tree : Type 0 where
    name : ℕ → Tree
    agent : ℕ → Trees → Tree

  pub data Trees : Type 0 where
    no_trees : Trees
    more_trees : Tree → Trees → Trees

-- the arguments of an agent as a list
abbrev pub list_of : Trees → List Tree
list_of no_trees = []
list_of (more_trees t ts) = t ∷ list_of ts

-- a list as the arguments of an agent
abbrev pub trees_of : List Tree → Trees
trees_of [] = no_trees
trees_of (t ∷ ts) = more_trees t (trees_of ts)

-- A name is one node, an agent one and those of its arguments (this project's choice).
abbrev mutual
  pub nodes : Tree → ℕ
  nodes (name n) = 1
  nodes (agent s ts) = 1 + nodes_of ts

  pub nodes_of : Trees → ℕ
  nodes_of no_trees = 0
  nodes_of (more_trees t ts) = nodes t + nodes_of ts

-- the names of a term in the order of the text, each as often as it occurs
abbrev mutual
  pub names : Tree → List ℕ
  names (name n) = n ∷ []
  names (agent s ts) = names_of ts

  pub names_of : Trees → List ℕ
  names_of no_trees = []
  names_of (more_trees t ts) = names t ++ names_of ts

-- whether two terms are the same
abbrev mutual
  pub tree_eq : Tree → Tree → Bool
  tree_eq (name m) (name n) = m == n
  tree_eq (agent s ts) (agent r us) = (s == r) && trees_eq ts us
  tree_eq _ _ = false

  pub trees_eq : Trees → Trees → Bool
  trees_eq no_trees no_trees = true
  trees_eq (more_trees t ts) (more_trees u us) = tree_eq t u && trees_eq ts us
  trees_eq _ _ = false

-- an equation: a left term and a right term, in this order (this project's choice)
pub record Pair : Type 0 where
  pub left : Tree
  pub right : Tree

abbrev pub pair_nodes : Pair → ℕ
pair_nodes p = nodes p.left + nodes p.right

abbrev pub pair_names : Pair → List ℕ
pair_names p = names p.left ++ names p.right

abbrev pub pair_eq : Pair → Pair → Bool
pair_eq p q = tree_eq p.left q.left && tree_eq p.right q.right
