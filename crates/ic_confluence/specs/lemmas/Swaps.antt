-- Lemmas: two names exchanged.
use Rattle.std.proofs.Common.{◌≡◌, ℕ, ◌<◌, ◌==◌, List, [], ◌∷◌, Bool, true, false, cond, map, refl, sym, ap, ◌∙◌, eq-eqb, arith}
use Rattle.std.specs.Cmp.{unsigned_Decides}
use Rattle.std.specs.List.{flat_map}
use Rattle.ic_term.specs.Tree.{Tree, name, agent, Trees, no_trees, more_trees, names, names_of, Pair, pair_names}
use Rattle.ic_term.specs.Configuration.{Configuration, configuration_names, occurrences}
use Rattle.ic_rules.specs.Renaming.{renamed, renamed_trees}
use Rattle.ic_settle.specs.Settling.{subst, subst_all, subst_pair}
use Rattle.ic_settle.specs.lemmas.SubstitutionLaws.{occurrences-append, occurrences-cons}
use Rattle.ic_round.specs.lemmas.FreshNames.{apart_false}
use Rattle.ic_confluence.specs.Sameness.{renamed_pair, renamed_in, Renames}
use Rattle.ic_confluence.specs.lemmas.Counts.{in_pair, in_more}
use Rattle.ic_confluence.specs.lemmas.Puts.{not_both}

abbrev pub swap : ℕ → ℕ → ℕ → ℕ
swap x y n = cond (n == x) y (cond (n == y) x n)

pub swap_left : (x y : ℕ) → swap x y x ≡ y
swap_left x y = rw (eq-eqb x x refl) refl

at_right : (x y : ℕ) (b : Bool) → (y == x) ≡ b → swap x y y ≡ x
at_right x y true e = rw e ((unsigned_Decides y x).0 e)
at_right x y false e = rw (e, eq-eqb y y refl) refl

pub swap_right : (x y : ℕ) → swap x y y ≡ x
swap_right x y = at_right x y (y == x) refl

pub swap_other : (x y n : ℕ) → (n == x) ≡ false → (n == y) ≡ false → swap x y n ≡ n
swap_other x y n e f = rw (e, f) refl

back_at : (x y n : ℕ) (b c : Bool) → (n == x) ≡ b → (n == y) ≡ c → swap x y (swap x y n) ≡ n
back_at x y n true c e f =
    let same = (unsigned_Decides n x).0 e in
    ap (λ k. swap x y (swap x y k)) same ∙ (ap (swap x y) (swap_left x y) ∙ (swap_right x y ∙ sym same))
back_at x y n false true e f =
    let same = (unsigned_Decides n y).0 f in
    ap (λ k. swap x y (swap x y k)) same ∙ (ap (swap x y) (swap_right x y) ∙ (swap_left x y ∙ sym same))
back_at x y n false false e f = ap (swap x y) (swap_other x y n e f) ∙ swap_other x y n e f

pub swap_back : (x y n : ℕ) → swap x y (swap x y n) ≡ n
swap_back x y n = back_at x y n (n == x) (n == y) refl refl

-- ---- one name for another, or the other for the one

turned_name : (x y n : ℕ) → (x == y) ≡ false → (b c : Bool) → (n == x) ≡ b → (n == y) ≡ c
    → renamed (swap x y) (cond b (name y) (name n)) ≡ cond c (name x) (name n)
turned_name x y n apart true true e f = absurd (not_both x y n apart e f)
turned_name x y n apart true false e f = ap name (swap_right x y ∙ sym ((unsigned_Decides n x).0 e))
turned_name x y n apart false true e f = ap name (ap (swap x y) ((unsigned_Decides n y).0 f) ∙ swap_right x y)
turned_name x y n apart false false e f = ap name (swap_other x y n e f)

mutual
  turned_tree : (x y : ℕ) → (x == y) ≡ false → (t : Tree) → renamed (swap x y) (subst x (name y) t) ≡ subst y (name x) t
  turned_tree x y apart (name n) = turned_name x y n apart (n == x) (n == y) refl refl
  turned_tree x y apart (agent s ts) = ap (agent s) (turned_trees x y apart ts)

  turned_trees : (x y : ℕ) → (x == y) ≡ false → (ts : Trees) → renamed_trees (swap x y) (subst_all x (name y) ts) ≡ subst_all y (name x) ts
  turned_trees x y apart no_trees = refl
  turned_trees x y apart (more_trees t ts) = λ i. more_trees (turned_tree x y apart t i) (turned_trees x y apart ts i)

pub turned_terms : (x y : ℕ) → (x == y) ≡ false → (ts : List Tree) → map (renamed (swap x y)) (map (subst x (name y)) ts) ≡ map (subst y (name x)) ts
turned_terms x y apart [] = refl
turned_terms x y apart (t ∷ ts) = λ i. turned_tree x y apart t i ∷ turned_terms x y apart ts i

pub turned_pairs : (x y : ℕ) → (x == y) ≡ false → (es : List Pair) → map (renamed_pair (swap x y)) (map (subst_pair x (name y)) es) ≡ map (subst_pair y (name x)) es
turned_pairs x y apart [] = refl
turned_pairs x y apart (p ∷ es) =
    λ i. record { left = turned_tree x y apart p.left i; right = turned_tree x y apart p.right i } ∷ turned_pairs x y apart es i

-- ---- a term put for one of two names, where the other one doesn't occur

other_name : (n m : ℕ) → occurrences m (n ∷ []) ≡ 0 → (b : Bool) → (n == m) ≡ b → (n == m) ≡ false
other_name n m none true e = let bad : ◌≡◌ {A = ℕ} (cond (n == m) 1 0) 1 = rw e refl in let here = occurrences-cons m n [] in let nothing : occurrences m [] ≡ 0 = refl in absurd (omega (arith, bad, here, none, nothing))
other_name n m none false e = e

pub not_there : (n m : ℕ) → occurrences m (n ∷ []) ≡ 0 → (n == m) ≡ false
not_there n m none = other_name n m none (n == m) refl

elsewhere_name : (f : ℕ → ℕ) (a b n : ℕ) (v : Tree) → f a ≡ b → ((k : ℕ) → (k == a) ≡ false → (k == b) ≡ false → f k ≡ k) → (n == b) ≡ false
    → (t : Bool) → (n == a) ≡ t → cond t v (name n) ≡ subst b v (name (f n))
elsewhere_name f a b n v there others apart true e =
    let same : f n ≡ b = ap f ((unsigned_Decides n a).0 e) ∙ there in
    let yes : (f n == b) ≡ true = (unsigned_Decides (f n) b).1 same in
    rw yes refl
elsewhere_name f a b n v there others apart false e =
    let stays = others n e apart in
    let no : (f n == b) ≡ false = ap (λ k. k == b) stays ∙ apart in
    rw no (ap name (sym stays))

mutual
  pub put_elsewhere : (f : ℕ → ℕ) (a b : ℕ) (v t : Tree) → f a ≡ b → ((k : ℕ) → (k == a) ≡ false → (k == b) ≡ false → f k ≡ k) → occurrences b (names t) ≡ 0
      → subst a v t ≡ subst b v (renamed f t)
  put_elsewhere f a b v (name n) there others none = elsewhere_name f a b n v there others (not_there n b none) (n == a) refl
  put_elsewhere f a b v (agent s ts) there others none = ap (agent s) (put_all_elsewhere f a b v ts there others none)

  put_all_elsewhere : (f : ℕ → ℕ) (a b : ℕ) (v : Tree) (ts : Trees) → f a ≡ b → ((k : ℕ) → (k == a) ≡ false → (k == b) ≡ false → f k ≡ k) → occurrences b (names_of ts) ≡ 0
      → subst_all a v ts ≡ subst_all b v (renamed_trees f ts)
  put_all_elsewhere f a b v no_trees there others none = refl
  put_all_elsewhere f a b v (more_trees t ts) there others none =
      let both = occurrences-append b (names t) (names_of ts) in
      let here : occurrences b (names t) ≡ 0 = omega (arith, both, none) in
      let rest : occurrences b (names_of ts) ≡ 0 = omega (arith, both, none) in
      λ i. more_trees (put_elsewhere f a b v t there others here i) (put_all_elsewhere f a b v ts there others rest i)

-- ---- where neither of two names occurs

mutual
  unswapped : (x y : ℕ) (t : Tree) → occurrences x (names t) ≡ 0 → occurrences y (names t) ≡ 0 → renamed (swap x y) t ≡ t
  unswapped x y (name n) e f = ap name (swap_other x y n (not_there n x e) (not_there n y f))
  unswapped x y (agent s ts) e f = ap (agent s) (unswapped_trees x y ts e f)

  unswapped_trees : (x y : ℕ) (ts : Trees) → occurrences x (names_of ts) ≡ 0 → occurrences y (names_of ts) ≡ 0 → renamed_trees (swap x y) ts ≡ ts
  unswapped_trees x y no_trees e f = refl
  unswapped_trees x y (more_trees t ts) e f =
      let a = occurrences-append x (names t) (names_of ts) in
      let b = occurrences-append y (names t) (names_of ts) in
      let p : occurrences x (names t) ≡ 0 = omega (arith, a, e) in
      let q : occurrences y (names t) ≡ 0 = omega (arith, b, f) in
      let r : occurrences x (names_of ts) ≡ 0 = omega (arith, a, e) in
      let s : occurrences y (names_of ts) ≡ 0 = omega (arith, b, f) in
      λ i. more_trees (unswapped x y t p q i) (unswapped_trees x y ts r s i)

pub unswapped_terms : (x y : ℕ) (ts : List Tree) → occurrences x (flat_map names ts) ≡ 0 → occurrences y (flat_map names ts) ≡ 0 → map (renamed (swap x y)) ts ≡ ts
unswapped_terms x y [] e f = refl
unswapped_terms x y (t ∷ ts) e f =
    let a = occurrences-append x (names t) (flat_map names ts) in
    let b = occurrences-append y (names t) (flat_map names ts) in
    let p : occurrences x (names t) ≡ 0 = omega (arith, a, e) in
    let q : occurrences y (names t) ≡ 0 = omega (arith, b, f) in
    let r : occurrences x (flat_map names ts) ≡ 0 = omega (arith, a, e) in
    let s : occurrences y (flat_map names ts) ≡ 0 = omega (arith, b, f) in
    λ i. unswapped x y t p q i ∷ unswapped_terms x y ts r s i

unswapped_pair : (x y : ℕ) (p : Pair) → occurrences x (pair_names p) ≡ 0 → occurrences y (pair_names p) ≡ 0 → renamed_pair (swap x y) p ≡ p
unswapped_pair x y p e f =
    let a = in_pair x p in
    let b = in_pair y p in
    let left_x : occurrences x (names p.left) ≡ 0 = omega (arith, a, e) in
    let left_y : occurrences y (names p.left) ≡ 0 = omega (arith, b, f) in
    let right_x : occurrences x (names p.right) ≡ 0 = omega (arith, a, e) in
    let right_y : occurrences y (names p.right) ≡ 0 = omega (arith, b, f) in
    λ i. record { left = unswapped x y p.left left_x left_y i; right = unswapped x y p.right right_x right_y i }

pub unswapped_pairs : (x y : ℕ) (es : List Pair) → occurrences x (flat_map pair_names es) ≡ 0 → occurrences y (flat_map pair_names es) ≡ 0 → map (renamed_pair (swap x y)) es ≡ es
unswapped_pairs x y [] e f = refl
unswapped_pairs x y (p ∷ es) e f =
    let a = in_more x p es in
    let b = in_more y p es in
    let here_x : occurrences x (pair_names p) ≡ 0 = omega (arith, a, e) in
    let here_y : occurrences y (pair_names p) ≡ 0 = omega (arith, b, f) in
    let rest_x : occurrences x (flat_map pair_names es) ≡ 0 = omega (arith, a, e) in
    let rest_y : occurrences y (flat_map pair_names es) ≡ 0 = omega (arith, b, f) in
    λ i. unswapped_pair x y p here_x here_y i ∷ unswapped_pairs x y es rest_x rest_y i

-- ---- two taken names of a configuration exchanged, neither of which occurs once in it

free_swap : (c : Configuration) (x y n : ℕ) → (occurrences x (configuration_names c) ≡ 1 → ⊥) → (occurrences y (configuration_names c) ≡ 1 → ⊥)
    → (a b : Bool) → (n == x) ≡ a → (n == y) ≡ b → occurrences n (configuration_names c) ≡ 1 → swap x y n ≡ n
free_swap c x y n p q true b e f once = absurd (p (ap (λ k. occurrences k (configuration_names c)) (sym ((unsigned_Decides n x).0 e)) ∙ once))
free_swap c x y n p q false true e f once = absurd (q (ap (λ k. occurrences k (configuration_names c)) (sym ((unsigned_Decides n y).0 f)) ∙ once))
free_swap c x y n p q false false e f once = swap_other x y n e f

pub swap_renames : (c : Configuration) (x y : ℕ) → x < c.next → y < c.next → (occurrences x (configuration_names c) ≡ 1 → ⊥)
    → (occurrences y (configuration_names c) ≡ 1 → ⊥) → Renames c (renamed_in (swap x y) c)
swap_renames c x y low_x low_y p q = record {
  to = swap x y;
  from = swap x y;
  there_and_back = swap_back x y;
  back_and_there = swap_back x y;
  free = λ n once. free_swap c x y n p q (n == x) (n == y) refl refl once;
  fresh = λ n high. swap_other x y n (apart_false n x (λ e. omega (arith, e, high, low_x))) (apart_false n y (λ e. omega (arith, e, high, low_y)));
  result = refl;
}
