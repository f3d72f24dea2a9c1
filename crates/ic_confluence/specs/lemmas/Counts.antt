-- Lemmas: how often names occur in lists, and where a term is put for a name.
use Rattle.std.proofs.Common.{◌≡◌, ℕ, ◌+◌, ◌*◌, ◌≤◌, ◌<◌, ◌==◌, List, [], ◌∷◌, ◌++◌, Bool, true, false, cond, map, refl, sym, ap, ◌∙◌, eq-eqb, arith, inl, inr}
use Rattle.std.proofs.lemmas.Bool.{cases_lt}
use Rattle.std.specs.Cmp.{unsigned_Decides}
use Rattle.std.specs.List.{AllByRecursion, flat_map}
use Rattle.ic_term.specs.Tree.{Tree, name, agent, Trees, no_trees, more_trees, names, names_of, Pair, pair_names}
use Rattle.ic_term.specs.Configuration.{Configuration, configuration_names, names_in, occurrences}
use Rattle.ic_settle.specs.Settling.{subst, subst_all, subst_pair}
use Rattle.ic_settle.specs.lemmas.SubstitutionLaws.{occurrences-append, occurrences-cons}
use Rattle.ic_settle.specs.lemmas.WholeLaws.{whole, names_of-whole, subst_all-whole}
use Rattle.ic_round.specs.Naming.{HasNames}
use Rattle.ic_round.specs.lemmas.FreshNames.{absent_above, apart_false}

-- ---- names in lists

pub alone_other : (n m : ℕ) → (m == n) ≡ false → occurrences n (m ∷ []) ≡ 0
alone_other n m apart = rw apart refl

pub apart_sym : (m n : ℕ) → (m == n) ≡ false → (n == m) ≡ false
apart_sym m n apart = apart_false n m (λ same. let yes = (unsigned_Decides m n).1 (sym same) in let bad = sym yes ∙ apart in cc)

pub All_from : (P : ℕ → Type 0) (ns : List ℕ) → ((n : ℕ) → 1 ≤ occurrences n ns → P n) → AllByRecursion P ns
All_from P [] each = tt
All_from P (m ∷ ms) each = (
  each m (let first = occurrences-cons m m ms in let one : ◌≡◌ {A = ℕ} (cond (m == m) 1 0) 1 = rw (eq-eqb m m refl) refl in omega (arith, first, one)),
  All_from P ms (λ n some. each n (let more = occurrences-cons n m ms in omega (arith, more, some))),
)

pub in_configuration : (n : ℕ) (ts : List Tree) (es : List Pair)
    → occurrences n (names_in ts es) ≡ occurrences n (flat_map names ts) + occurrences n (flat_map pair_names es)
in_configuration n ts es = occurrences-append n (flat_map names ts) (flat_map pair_names es)

pub in_pair : (n : ℕ) (p : Pair) → occurrences n (pair_names p) ≡ occurrences n (names p.left) + occurrences n (names p.right)
in_pair n p = occurrences-append n (names p.left) (names p.right)

pub in_more : (n : ℕ) (p : Pair) (es : List Pair) → occurrences n (flat_map pair_names (p ∷ es)) ≡ occurrences n (pair_names p) + occurrences n (flat_map pair_names es)
in_more n p es = occurrences-append n (pair_names p) (flat_map pair_names es)

pub below_next : (c : Configuration) → HasNames c → (n : ℕ) → 1 ≤ occurrences n (configuration_names c) → n < c.next
below_next c named n some = elim (cases_lt n c.next) [
  | inl low ↦ low
  | inr high ↦ let none = absent_above n c.next (configuration_names c) named.below high in absurd (omega (arith, none, some))
]

-- what a configuration keeps depends on how often names occur alone
pub names_like : (c d : Configuration) → d.next ≡ c.next
    → ((n : ℕ) → occurrences n (configuration_names d) ≡ occurrences n (configuration_names c)) → HasNames c → HasNames d
names_like c d same counts named = record {
  below = All_from (λ n. n < d.next) (configuration_names d) (λ n some.
      let low = below_next c named n (let equal = counts n in omega (arith, equal, some)) in omega (arith, low, same));
  twice = λ n. let equal = counts n in let two = named.twice n in omega (arith, equal, two);
}

-- ---- a term put for a name

none_at_other : (n x m : ℕ) → (x == n) ≡ false → (m == x) ≡ true → (m == n) ≡ false
none_at_other n x m apart same = let equal = (unsigned_Decides m x).0 same in rw equal apart

put_name : (n x m : ℕ) (u : Tree) → (x == n) ≡ false → (b : Bool) → (m == x) ≡ b
    → occurrences n (names (cond b u (name m))) ≡ occurrences n (m ∷ []) + (0 + cond b 1 0) * occurrences n (names u)
put_name n x m u apart true e = let none = alone_other n m (none_at_other n x m apart e) in omega (arith, none)
put_name n x m u apart false e = omega arith

put_more : (p m o k q r s t u a b : ℕ) → p ≡ m + o * k → q ≡ r + s * k → t ≡ p + q → a ≡ m + r → b ≡ o + s → u ≡ a + b * k → t ≡ u
put_more p m o k q r s t u a b e f g h i j = rw (g, j, h, i, e, f) (omega arith)

-- another name occurs as often as before, and as often as in the term for each place where that is put
mutual
  pub occurrences-put : (n x : ℕ) (u t : Tree) → (x == n) ≡ false
      → occurrences n (names (subst x u t)) ≡ occurrences n (names t) + occurrences x (names t) * occurrences n (names u)
  occurrences-put n x u (name m) apart = put_name n x m u apart (m == x) refl
  occurrences-put n x u (agent s ts) apart = occurrences-put_all n x u ts apart

  pub occurrences-put_all : (n x : ℕ) (u : Tree) (ts : Trees) → (x == n) ≡ false
      → occurrences n (names_of (subst_all x u ts)) ≡ occurrences n (names_of ts) + occurrences x (names_of ts) * occurrences n (names u)
  occurrences-put_all n x u no_trees apart = omega arith
  occurrences-put_all n x u (more_trees t ts) apart =
      put_more _ (occurrences n (names t)) (occurrences x (names t)) (occurrences n (names u)) _ (occurrences n (names_of ts)) (occurrences x (names_of ts)) _ _
      (occurrences n (names t ++ names_of ts)) (occurrences x (names t ++ names_of ts))
      (occurrences-put n x u t apart) (occurrences-put_all n x u ts apart) (occurrences-append n (names (subst x u t)) (names_of (subst_all x u ts)))
      (occurrences-append n (names t) (names_of ts)) (occurrences-append x (names t) (names_of ts)) refl

gone_name : (x m : ℕ) (u : Tree) (b : Bool) → (m == x) ≡ b → occurrences x (names (cond b u (name m))) ≡ (0 + cond b 1 0) * occurrences x (names u)
gone_name x m u true e = omega arith
gone_name x m u false e = let none = alone_other x m e in omega (arith, none)

gone_more : (p o k q s t b : ℕ) → p ≡ o * k → q ≡ s * k → t ≡ p + q → b ≡ o + s → t ≡ b * k
gone_more p o k q s t b e f g h = rw (g, h, e, f) (omega arith)

-- the name itself is left only where the term has it
mutual
  pub occurrences-gone : (x : ℕ) (u t : Tree) → occurrences x (names (subst x u t)) ≡ occurrences x (names t) * occurrences x (names u)
  occurrences-gone x u (name m) = gone_name x m u (m == x) refl
  occurrences-gone x u (agent s ts) = occurrences-gone_all x u ts

  pub occurrences-gone_all : (x : ℕ) (u : Tree) (ts : Trees) → occurrences x (names_of (subst_all x u ts)) ≡ occurrences x (names_of ts) * occurrences x (names u)
  occurrences-gone_all x u no_trees = omega arith
  occurrences-gone_all x u (more_trees t ts) =
      gone_more _ (occurrences x (names t)) (occurrences x (names u)) _ (occurrences x (names_of ts)) _ (occurrences x (names t ++ names_of ts))
      (occurrences-gone x u t) (occurrences-gone_all x u ts) (occurrences-append x (names (subst x u t)) (names_of (subst_all x u ts)))
      (occurrences-append x (names t) (names_of ts))

-- the same in a whole configuration
whole_names : (x : ℕ) (u : Tree) (ts : List Tree) (es : List Pair) → names_of (subst_all x u (whole ts es)) ≡ names_in (map (subst x u) ts) (map (subst_pair x u) es)
whole_names x u ts es = ap names_of (subst_all-whole x u ts es) ∙ names_of-whole (map (subst x u) ts) (map (subst_pair x u) es)

pub occurrences-gone_in : (x : ℕ) (u : Tree) (ts : List Tree) (es : List Pair)
    → occurrences x (names_in (map (subst x u) ts) (map (subst_pair x u) es)) ≡ occurrences x (names_in ts es) * occurrences x (names u)
occurrences-gone_in x u ts es = rw (← whole_names x u ts es, ← names_of-whole ts es) (occurrences-gone_all x u (whole ts es))
