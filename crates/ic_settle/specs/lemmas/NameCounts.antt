-- How many names terms and equations have: at most as many as nodes.
use Rattle.std.proofs.Common.{◌≡◌, ℕ, ◌+◌, ◌≤◌, List, [], ◌∷◌, ◌++◌, length, length-append, take, append-nil, ap, ◌∙◌, arith}
use Rattle.std.specs.Prelude.{sum_by}
use Rattle.std.specs.List.{flat_map, refill}
use Rattle.std.proofs.lemmas.List.{take_all, drop_all}
use Rattle.std.proofs.lemmas.List.Sums.{sum_by-cons}
use Rattle.ic_term.specs.Tree.{Tree, name, agent, Trees, no_trees, more_trees, Pair, nodes, nodes_of, names, names_of, pair_names, pair_nodes}
use Rattle.ic_term.specs.Configuration.{Configuration, IsConfiguration}

mutual
  few_names : (t : Tree) → length (names t) ≤ nodes t
  few_names (name n) = omega arith
  few_names (agent s ts) = omega (arith, few_names_of ts)

  few_names_of : (ts : Trees) → length (names_of ts) ≤ nodes_of ts
  few_names_of no_trees = omega arith
  few_names_of (more_trees t ts) = omega (arith, length-append (names t) (names_of ts), few_names t, few_names_of ts)

few_in_terms : (ts : List Tree) → length (flat_map names ts) ≤ sum_by nodes ts
few_in_terms [] = omega arith
few_in_terms (t ∷ ts) = rw (sum_by-cons nodes t ts) (omega (arith, length-append (names t) (flat_map names ts), few_names t, few_in_terms ts))

few_in_pairs : (ps : List Pair) → length (flat_map pair_names ps) ≤ sum_by pair_nodes ps
few_in_pairs [] = omega arith
few_in_pairs (p ∷ ps) =
    rw (sum_by-cons pair_nodes p ps)
    (omega (arith, length-append (pair_names p) (flat_map pair_names ps), length-append (names p.left) (names p.right), few_names p.left, few_names p.right, few_in_pairs ps))

-- a configuration's names fit into the table
pub names_fit : (c : Configuration) → IsConfiguration c → length (flat_map names c.interface) + length (flat_map pair_names c.equations) ≤ 8192
names_fit c sound =
    let bound : sum_by nodes c.interface + sum_by pair_nodes c.equations ≤ 8192 = sound.nodes in
    omega (arith, bound, few_in_terms c.interface, few_in_pairs c.equations)

-- what is in the table and what is next fit, where what is in it and all that is left make what was given
pub next_fits : (done next rest given all : List ℕ) → done ++ (next ++ rest) ≡ given ++ all → length given + length all ≤ 8192
    → length done + length next ≤ 8192
next_fits done next rest given all same fits =
    let total = ap length same in
    omega (arith, total, fits, length-append done (next ++ rest), length-append next rest, length-append given all)

-- a list written in the place of one that is as long
pub refilled : (xs ys : List ℕ) → length ys ≡ length xs → refill (length xs) xs ys ≡ ys
refilled xs ys same =
    ap (λ rest. take (length xs) (ys ++ rest)) (drop_all (length ys) xs (omega (arith, same)))
    ∙ ap (take (length xs)) (append-nil ys) ∙ take_all (length xs) ys (omega (arith, same))
