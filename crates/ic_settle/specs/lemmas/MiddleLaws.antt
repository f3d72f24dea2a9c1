-- What an equation adds to those before and after it.
use Rattle.std.proofs.Common.{◌≡◌, ℕ, ◌+◌, List, ◌∷◌, ◌++◌, true, sym, ◌∙◌, arith}
use Rattle.std.specs.List.{flat_map, list_all, AllByRecursion}
use Rattle.std.proofs.lemmas.List.Sums.{sum_by-append, sum_by-cons}
use Rattle.std.proofs.lemmas.List.Folds.{list_all-append}
use Rattle.std.proofs.lemmas.Grind.{flat_map-append}
use Rattle.std.proofs.lemmas.Bool.{and_parts}
use Rattle.ic_term.specs.Tree.{Tree, Pair, names, pair_names, pair_nodes}
use Rattle.ic_term.specs.Configuration.{names_in, nodes_in, occurrences}
use Rattle.ic_term.specs.Symbol.{Symbol, is_pair_over}
use Rattle.ic_settle.specs.lemmas.SubstitutionLaws.{occurrences-append, All-append, All-front, All-back, and_both}

pub nodes-middle : (ts : List Tree) (before : List Pair) (p : Pair) (after : List Pair)
    → nodes_in ts (before ++ p ∷ after) ≡ nodes_in ts (before ++ after) + pair_nodes p
nodes-middle ts before p after =
    rw (sum_by-append pair_nodes before (p ∷ after), sum_by-append pair_nodes before after, sum_by-cons pair_nodes p after) (omega arith)

pub occurrences-middle : (n : ℕ) (ts : List Tree) (before : List Pair) (p : Pair) (after : List Pair)
    → occurrences n (names_in ts (before ++ p ∷ after)) ≡ occurrences n (names_in ts (before ++ after)) + occurrences n (pair_names p)
occurrences-middle n ts before p after =
    let first = flat_map names ts in
    let front = flat_map pair_names before in
    let back = flat_map pair_names after in
    rw (flat_map-append pair_names before (p ∷ after), flat_map-append pair_names before after)
    (omega (
      arith,
      occurrences-append n first (front ++ (pair_names p ++ back)),
      occurrences-append n front (pair_names p ++ back),
      occurrences-append n (pair_names p) back,
      occurrences-append n first (front ++ back),
      occurrences-append n front back,
    ))

-- a fact of each name is one of those outside of an equation, and of its own
pub All-middle : (P : ℕ → Type 0) (ts : List Tree) (before : List Pair) (p : Pair) (after : List Pair)
    → AllByRecursion P (names_in ts (before ++ p ∷ after)) → AllByRecursion P (names_in ts (before ++ after)) × AllByRecursion P (pair_names p)
All-middle P ts before p after all =
    let first = flat_map names ts in
    let front = flat_map pair_names before in
    let back = flat_map pair_names after in
    let parts : AllByRecursion P (first ++ (front ++ (pair_names p ++ back))) = rw (flat_map-append pair_names before (p ∷ after)) at all in
    let rest = All-back P first (front ++ (pair_names p ++ back)) parts in
    let last = All-back P front (pair_names p ++ back) rest in (
      rw (flat_map-append pair_names before after)
          (All-append P first (front ++ back) (All-front P first (front ++ (pair_names p ++ back)) parts)
          (All-append P front back (All-front P front (pair_names p ++ back) rest) (All-back P (pair_names p) back last))),
      All-front P (pair_names p) back last,
    )

pub over-middle : (ss : List Symbol) (before : List Pair) (p : Pair) (after : List Pair)
    → list_all (is_pair_over ss) (before ++ p ∷ after) ≡ true → (list_all (is_pair_over ss) (before ++ after) ≡ true) × (is_pair_over ss p ≡ true)
over-middle ss before p after over =
    let parts = and_parts (list_all (is_pair_over ss) before) (list_all (is_pair_over ss) (p ∷ after)) (sym (list_all-append (is_pair_over ss) before (p ∷ after)) ∙ over) in
    let last = and_parts (is_pair_over ss p) (list_all (is_pair_over ss) after) parts.1 in
    (list_all-append (is_pair_over ss) before after ∙ and_both parts.0 last.1, last.0)
