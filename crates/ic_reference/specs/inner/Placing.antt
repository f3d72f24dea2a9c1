-- A held term put at the first occurrence of a name, and what is then still held.
use Rattle.std.specs.Prelude.{ℕ, ◌==◌, List, [], ◌∷◌, Option, None, Some, if◌then◌else◌}
use Rattle.std.specs.Option.{option_map}
use Rattle.ic_term.specs.declared.term.Term.{Term}
use Rattle.ic_term.specs.Tree.{Tree, name, agent, Trees, no_trees, more_trees, Pair}
use Rattle.ic_term.specs.Term.{tree}

abbrev pub held_tree : Option Term → Option Tree
held_tree held = option_map tree held

-- what is held, put for this name if it is the one
abbrev pub placed_name : ℕ → Option Tree → ℕ → Tree × Option Tree
placed_name x None n = (name n, None)
placed_name x (Some u) n = if n == x then (u, None) else (name n, Some u)

abbrev mutual
  pub placed : ℕ → Option Tree → Tree → Tree × Option Tree
  placed x held (name n) = placed_name x held n
  placed x held (agent s ts) = let rest = placed_all x held ts in (agent s rest.0, rest.1)

  pub placed_all : ℕ → Option Tree → Trees → Trees × Option Tree
  placed_all x held no_trees = (no_trees, held)
  placed_all x held (more_trees t ts) =
      let first = placed x held t in
      let rest = placed_all x first.1 ts in
      (more_trees first.0 rest.0, rest.1)

abbrev pub placed_terms : ℕ → Option Tree → List Tree → List Tree × Option Tree
placed_terms x held [] = ([], held)
placed_terms x held (t ∷ ts) =
    let first = placed x held t in
    let rest = placed_terms x first.1 ts in
    (first.0 ∷ rest.0, rest.1)

abbrev pub placed_pair : ℕ → Option Tree → Pair → Pair × Option Tree
placed_pair x held p =
    let left = placed x held p.left in
    let right = placed x left.1 p.right in
    (record { left = left.0; right = right.0 }, right.1)

abbrev pub placed_pairs : ℕ → Option Tree → List Pair → List Pair × Option Tree
placed_pairs x held [] = ([], held)
placed_pairs x held (p ∷ ps) =
    let first = placed_pair x held p in
    let rest = placed_pairs x first.1 ps in
    (first.0 ∷ rest.0, rest.1)
