-- Lemmas: configurations of the same net are over the same symbols.
use Rattle.std.proofs.Common.{◌≡◌, ℕ, suc, ◌+◌, ◌≤◌, ◌==◌, ◌&&◌, List, [], ◌∷◌, Bool, true, false, cond, length, map, refl, sym, ap, ◌∙◌, arith, inl, inr}
use Rattle.std.proofs.lemmas.Bool.{and_parts, cases_lt}
use Rattle.std.specs.List.{list_all, slice_get}
use Rattle.ic_term.specs.Tree.{Tree, name, agent, Trees, no_trees, more_trees, list_of, names, names_of, Pair}
use Rattle.ic_term.specs.Configuration.{Configuration, occurrences}
use Rattle.ic_term.specs.Symbol.{Symbol, is_tree_over, are_trees_over, is_pair_over, is_over, has_arity}
use Rattle.ic_rules.specs.Renaming.{renamed, renamed_trees}
use Rattle.ic_settle.specs.Settling.{subst, subst_all}
use Rattle.ic_settle.specs.lemmas.SubstitutionLaws.{and_both, list_of-subst_all, over-subst, occurrences-append}
use Rattle.ic_confluence.specs.Sameness.{Alike, itself, exchanged, rotated, in_turn, Rearranged, nothing, kept, swapped, one_by_one, renamed_pair, Same, renaming, rearranging, through}

-- ---- a term with a term put in

put_back_name : (ss : List Symbol) (x m : ℕ) (u : Tree) (b : Bool) → (m == x) ≡ b → is_tree_over ss (cond b u (name m)) ≡ true → ◌≤◌ 1 (0 + cond {A = ℕ} b 1 0) → is_tree_over ss u ≡ true
put_back_name ss x m u true e over some = over
put_back_name ss x m u false e over some = absurd (omega (arith, some))

either_holds : (b : Bool) (m n : ℕ) → 1 ≤ m + n → (1 ≤ m → b ≡ true) → (1 ≤ n → b ≡ true) → b ≡ true
either_holds b m n some f g = elim (cases_lt 0 m) [ inl low ↦ f (omega (arith, low)) | inr none ↦ g (omega (arith, none, some)) ]

-- the term that was put is over the symbols
mutual
  over_put : (ss : List Symbol) (x : ℕ) (u t : Tree) → is_tree_over ss (subst x u t) ≡ true → 1 ≤ occurrences x (names t) → is_tree_over ss u ≡ true
  over_put ss x u (name m) over some = put_back_name ss x m u (m == x) refl over some
  over_put ss x u (agent s ts) over some = over_put_all ss x u ts (and_parts (has_arity (length (list_of (subst_all x u ts))) (slice_get ss s)) (are_trees_over ss (subst_all x u ts)) over).1 some

  pub over_put_all : (ss : List Symbol) (x : ℕ) (u : Tree) (ts : Trees) → are_trees_over ss (subst_all x u ts) ≡ true → 1 ≤ occurrences x (names_of ts) → is_tree_over ss u ≡ true
  over_put_all ss x u no_trees over some = absurd (let nothing : occurrences x [] ≡ 0 = refl in omega (arith, some, nothing))
  over_put_all ss x u (more_trees t ts) over some =
      let both = and_parts (is_tree_over ss (subst x u t)) (are_trees_over ss (subst_all x u ts)) over in
      let counts = occurrences-append x (names t) (names_of ts) in
      either_holds (is_tree_over ss u) (occurrences x (names t)) (occurrences x (names_of ts)) (omega (arith, counts, some)) (over_put ss x u t both.0) (over_put_all ss x u ts both.1)

-- and so is the one into which it was put
mutual
  over_below : (ss : List Symbol) (x : ℕ) (u t : Tree) → is_tree_over ss (subst x u t) ≡ true → is_tree_over ss t ≡ true
  over_below ss x u (name m) over = refl
  over_below ss x u (agent s ts) over =
      let both = and_parts (has_arity (length (list_of (subst_all x u ts))) (slice_get ss s)) (are_trees_over ss (subst_all x u ts)) over in
      and_both (ap (λ n. has_arity n (slice_get ss s)) (sym (list_of-subst_all x u ts)) ∙ both.0) (over_below_all ss x u ts both.1)

  pub over_below_all : (ss : List Symbol) (x : ℕ) (u : Tree) (ts : Trees) → are_trees_over ss (subst_all x u ts) ≡ true → are_trees_over ss ts ≡ true
  over_below_all ss x u no_trees over = refl
  over_below_all ss x u (more_trees t ts) over =
      let both = and_parts (is_tree_over ss (subst x u t)) (are_trees_over ss (subst_all x u ts)) over in
      and_both (over_below ss x u t both.0) (over_below_all ss x u ts both.1)

-- ---- rearranged

pub over_alike : (ss : List Symbol) (p q : Pair) → Alike p q → is_pair_over ss p ≡ true → is_pair_over ss q ≡ true
over_alike ss p q (itself r) over = over
over_alike ss p q (exchanged r) over = let both = and_parts (is_tree_over ss r.left) (is_tree_over ss r.right) over in and_both both.1 both.0
over_alike ss p q (rotated r s is) over =
    let given = ap (is_pair_over ss) (sym is.given) ∙ over in
    let right = (and_parts (is_tree_over ss (name is.cut)) (is_tree_over ss (subst is.cut is.inner is.outer)) given).1 in
    let one = is.once_outer in
    let inner = over_put ss is.cut is.inner is.outer right (omega (arith, one)) in
    let outer = over_below ss is.cut is.inner is.outer right in
    let other : is_tree_over ss (subst is.cut is.outer is.inner) ≡ true = over-subst ss is.cut is.outer is.inner outer inner in
    ap (is_pair_over ss) is.result ∙ other
over_alike ss p q (in_turn r s t first second) over = over_alike ss s t second (over_alike ss r s first over)

over_arranged : (ss : List Symbol) (es fs : List Pair) → Rearranged es fs → list_all (is_pair_over ss) es ≡ true → list_all (is_pair_over ss) fs ≡ true
over_arranged ss es fs nothing over = over
over_arranged ss es fs (kept p q ps qs alike rest) over =
    let both = and_parts (is_pair_over ss p) (list_all (is_pair_over ss) ps) over in
    and_both (over_alike ss p q alike both.0) (over_arranged ss ps qs rest both.1)
over_arranged ss es fs (swapped p q ps) over =
    let one = and_parts (is_pair_over ss p) (is_pair_over ss q && list_all (is_pair_over ss) ps) over in
    let two = and_parts (is_pair_over ss q) (list_all (is_pair_over ss) ps) one.1 in
    and_both two.0 (and_both one.0 two.1)
over_arranged ss es fs (one_by_one ps qs rs first second) over = over_arranged ss qs rs second (over_arranged ss ps qs first over)

-- ---- renamed

renamed_length : (f : ℕ → ℕ) (ts : Trees) → length (list_of (renamed_trees f ts)) ≡ length (list_of ts)
renamed_length f no_trees = refl
renamed_length f (more_trees t ts) = ap suc (renamed_length f ts)

mutual
  over_renamed : (ss : List Symbol) (f : ℕ → ℕ) (t : Tree) → is_tree_over ss (renamed f t) ≡ is_tree_over ss t
  over_renamed ss f (name n) = refl
  over_renamed ss f (agent s ts) = λ i. has_arity (renamed_length f ts i) (slice_get ss s) && over_renamed_trees ss f ts i

  over_renamed_trees : (ss : List Symbol) (f : ℕ → ℕ) (ts : Trees) → are_trees_over ss (renamed_trees f ts) ≡ are_trees_over ss ts
  over_renamed_trees ss f no_trees = refl
  over_renamed_trees ss f (more_trees t ts) = λ i. over_renamed ss f t i && over_renamed_trees ss f ts i

over_renamed_terms : (ss : List Symbol) (f : ℕ → ℕ) (ts : List Tree) → list_all (is_tree_over ss) (map (renamed f) ts) ≡ list_all (is_tree_over ss) ts
over_renamed_terms ss f [] = refl
over_renamed_terms ss f (t ∷ ts) = λ i. over_renamed ss f t i && over_renamed_terms ss f ts i

over_renamed_pairs : (ss : List Symbol) (f : ℕ → ℕ) (es : List Pair) → list_all (is_pair_over ss) (map (renamed_pair f) es) ≡ list_all (is_pair_over ss) es
over_renamed_pairs ss f [] = refl
over_renamed_pairs ss f (p ∷ es) = λ i. (over_renamed ss f p.left i && over_renamed ss f p.right i) && over_renamed_pairs ss f es i

-- ---- the same net

pub same_over : (ss : List Symbol) (c d : Configuration) → Same c d → is_over ss c ≡ true → is_over ss d ≡ true
same_over ss c d (renaming x y r) over =
    ap (is_over ss) r.result ∙ ((λ i. over_renamed_terms ss r.to x.interface i && over_renamed_pairs ss r.to x.equations i) ∙ over)
same_over ss c d (rearranging x y r) over =
    let both = and_parts (list_all (is_tree_over ss) x.interface) (list_all (is_pair_over ss) x.equations) over in
    ap (is_over ss) r.result ∙ and_both both.0 (over_arranged ss x.equations y.equations r.equations both.1)
same_over ss c d (through x y z first second) over = same_over ss y z second (same_over ss x y first over)
