-- Terms and equations as bytes (this project's choice).
use Rattle.std.specs.Prelude.{ℕ, List, [], ◌∷◌, ◌++◌}
use Rattle.ic_term.specs.Tree.{Tree, name, agent, Trees, no_trees, more_trees, Pair}
use Rattle.ic_codec.specs.Numbers.{eight_bytes}

-- a name is the byte 255 and its number, an agent its symbol in one byte and its arguments
abbrev mutual
  pub tree_bytes : Tree → List ℕ
  tree_bytes (name n) = 255 ∷ eight_bytes n
  tree_bytes (agent s ts) = s ∷ trees_bytes ts

  pub trees_bytes : Trees → List ℕ
  trees_bytes no_trees = []
  trees_bytes (more_trees t ts) = tree_bytes t ++ trees_bytes ts

-- an equation is its left side, then its right side
abbrev pub pair_bytes : Pair → List ℕ
pair_bytes p = tree_bytes p.left ++ tree_bytes p.right
