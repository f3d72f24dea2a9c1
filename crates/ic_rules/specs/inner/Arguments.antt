use Rattle.std.specs.Prelude.{ℕ, List, ◌++◌, ◌==◌, Bool, ◌&&◌, length, map}
use Rattle.std.specs.List.{flat_map}
use Rattle.std.specs.Cmp.Lexicographic.{pointwise}
use Rattle.ic_term.specs.declared.term.Term.{Term}
use Rattle.ic_term.specs.Tree.{Tree, names, tree_eq}
use Rattle.ic_term.specs.Term.{tree}
use Rattle.ic_rules.specs.Renaming.{renamed, number_among, first_occurrences}

-- the names of left and right arguments in the order in which they first occur
abbrev pub firsts_in : List Tree → List Tree → List ℕ
firsts_in ts us = first_occurrences (flat_map names ts ++ flat_map names us)

abbrev pub firsts_of : List Term → List Term → List ℕ
firsts_of ts us = firsts_in (map tree ts) (map tree us)

-- arguments, right ones first and numbered anew, are the same as before
abbrev pub is_own_swap : List Tree → List Tree → ℕ → Bool
is_own_swap ts us names =
    pointwise tree_eq ts (map (renamed (number_among (firsts_in us ts))) us)
    && pointwise tree_eq us (map (renamed (number_among (firsts_in us ts))) ts)
    && names == length (firsts_in us ts)
