use Rattle.std.specs.Prelude.{ℕ, ◌==◌, List, [], ◌∷◌, ◌++◌, Bool, if◌then◌else◌}
use Rattle.std.specs.List.{list_any, list_all, position_or_len}
use Rattle.ic_term.specs.Tree.{Tree, name, agent, Trees, no_trees, more_trees}
use Rattle.ic_term.specs.Configuration.{occurrences}

-- a term with each name turned into another
abbrev mutual
  pub renamed : (ℕ → ℕ) → Tree → Tree
  renamed f (name n) = name (f n)
  renamed f (agent s ts) = agent s (renamed_trees f ts)

  pub renamed_trees : (ℕ → ℕ) → Trees → Trees
  renamed_trees f no_trees = no_trees
  renamed_trees f (more_trees t ts) = more_trees (renamed f t) (renamed_trees f ts)

-- those seen, and then the other names of a list in the order in which they first occur
abbrev pub first_after : List ℕ → List ℕ → List ℕ
first_after seen [] = seen
first_after seen (n ∷ ns) = if list_any (λ m. n == m) seen then first_after seen ns
    else first_after (seen ++ n ∷ []) ns

-- the names of a list in the order in which they first occur, each once
abbrev pub first_occurrences : List ℕ → List ℕ
first_occurrences ns = first_after [] ns

-- the number of a name: its place among the first occurrences
abbrev pub number_among : List ℕ → ℕ → ℕ
number_among firsts n = position_or_len (λ m. n == m) firsts

-- each name of a list occurs there exactly twice
abbrev pub are_paired : List ℕ → Bool
are_paired ns = list_all (λ n. occurrences n ns == 2) ns
