-- Lemmas: terms put for names one after another, and renaming.
use Rattle.std.proofs.Common.{◌≡◌, ℕ, ◌==◌, List, [], ◌∷◌, ◌++◌, Bool, true, false, cond, map, refl, sym, ap, ◌∙◌, arith}
use Rattle.std.specs.Cmp.{unsigned_Decides}
use Rattle.std.proofs.lemmas.List.{map-append}
use Rattle.std.specs.List.{flat_map}
use Rattle.ic_term.specs.Tree.{Tree, name, agent, Trees, no_trees, more_trees, names, Pair, pair_names}
use Rattle.ic_term.specs.Configuration.{Configuration, configuration_names, occurrences}
use Rattle.ic_rules.specs.Renaming.{renamed, renamed_trees}
use Rattle.ic_rules.specs.lemmas.RenamingLaws.{names-renamed, flat_names-renamed}
use Rattle.ic_settle.specs.Settling.{subst, subst_all, subst_pair, subst_in}
use Rattle.ic_settle.specs.lemmas.SubstitutionLaws.{occurrences-append, occurrences-cons, subst-absent}
use Rattle.ic_round.specs.lemmas.FreshNames.{apart_false}
use Rattle.ic_confluence.specs.Sameness.{renamed_pair, renamed_in}
use Rattle.ic_confluence.specs.lemmas.Counts.{in_pair, in_more}

-- ---- two terms put for two names

pub not_both : (x y n : ℕ) → (x == y) ≡ false → (n == x) ≡ true → (n == y) ≡ true → ⊥
not_both x y n apart e f =
    let same : x ≡ y = sym ((unsigned_Decides n x).0 e) ∙ (unsigned_Decides n y).0 f in
    let yes = (unsigned_Decides x y).1 same in
    let bad = sym yes ∙ apart in cc

exchange_name : (x y n : ℕ) (t u : Tree) → (x == y) ≡ false → occurrences y (names t) ≡ 0 → (b c : Bool) → (n == y) ≡ b → (n == x) ≡ c
    → subst x t (cond b u (name n)) ≡ subst y (subst x t u) (cond c t (name n))
exchange_name x y n t u apart absent true true e f = absurd (not_both x y n apart f e)
exchange_name x y n t u apart absent true false e f = rw e refl
exchange_name x y n t u apart absent false true e f = rw f (sym (subst-absent y (subst x t u) t absent))
exchange_name x y n t u apart absent false false e f = rw (e, f) refl

-- The order doesn't matter, but that the first term goes into the second one.
mutual
  pub subst-subst : (x y : ℕ) (t u e : Tree) → (x == y) ≡ false → occurrences y (names t) ≡ 0
      → subst x t (subst y u e) ≡ subst y (subst x t u) (subst x t e)
  subst-subst x y t u (name n) apart absent = exchange_name x y n t u apart absent (n == y) (n == x) refl refl
  subst-subst x y t u (agent s ts) apart absent = ap (agent s) (subst_all-subst_all x y t u ts apart absent)

  pub subst_all-subst_all : (x y : ℕ) (t u : Tree) (ts : Trees) → (x == y) ≡ false → occurrences y (names t) ≡ 0
      → subst_all x t (subst_all y u ts) ≡ subst_all y (subst x t u) (subst_all x t ts)
  subst_all-subst_all x y t u no_trees apart absent = refl
  subst_all-subst_all x y t u (more_trees e ts) apart absent =
      λ i. more_trees (subst-subst x y t u e apart absent i) (subst_all-subst_all x y t u ts apart absent i)

pub subst_terms-twice : (x y : ℕ) (t u : Tree) (ts : List Tree) → (x == y) ≡ false → occurrences y (names t) ≡ 0
    → map (subst x t) (map (subst y u) ts) ≡ map (subst y (subst x t u)) (map (subst x t) ts)
subst_terms-twice x y t u [] apart absent = refl
subst_terms-twice x y t u (e ∷ ts) apart absent = λ i. subst-subst x y t u e apart absent i ∷ subst_terms-twice x y t u ts apart absent i

pub subst_pairs-twice : (x y : ℕ) (t u : Tree) (es : List Pair) → (x == y) ≡ false → occurrences y (names t) ≡ 0
    → map (subst_pair x t) (map (subst_pair y u) es) ≡ map (subst_pair y (subst x t u)) (map (subst_pair x t) es)
subst_pairs-twice x y t u [] apart absent = refl
subst_pairs-twice x y t u (p ∷ es) apart absent =
    λ i. record { left = subst-subst x y t u p.left apart absent i; right = subst-subst x y t u p.right apart absent i } ∷ subst_pairs-twice x y t u es apart absent i

-- ---- a name that doesn't occur

pub pair_absent : (x : ℕ) (u : Tree) (p : Pair) → occurrences x (pair_names p) ≡ 0 → subst_pair x u p ≡ p
pair_absent x u p none =
    let both = in_pair x p in
    let left : occurrences x (names p.left) ≡ 0 = omega (arith, both, none) in
    let right : occurrences x (names p.right) ≡ 0 = omega (arith, both, none) in
    λ i. record { left = subst-absent x u p.left left i; right = subst-absent x u p.right right i }

pub terms_absent : (x : ℕ) (u : Tree) (ts : List Tree) → occurrences x (flat_map names ts) ≡ 0 → map (subst x u) ts ≡ ts
terms_absent x u [] none = refl
terms_absent x u (t ∷ ts) none =
    let both = occurrences-append x (names t) (flat_map names ts) in
    let here : occurrences x (names t) ≡ 0 = omega (arith, both, none) in
    let rest : occurrences x (flat_map names ts) ≡ 0 = omega (arith, both, none) in
    λ i. subst-absent x u t here i ∷ terms_absent x u ts rest i

pub pairs_absent : (x : ℕ) (u : Tree) (es : List Pair) → occurrences x (flat_map pair_names es) ≡ 0 → map (subst_pair x u) es ≡ es
pairs_absent x u [] none = refl
pairs_absent x u (p ∷ es) none =
    let both = in_more x p es in
    let here : occurrences x (pair_names p) ≡ 0 = omega (arith, both, none) in
    let rest : occurrences x (flat_map pair_names es) ≡ 0 = omega (arith, both, none) in
    λ i. pair_absent x u p here i ∷ pairs_absent x u es rest i

-- ---- renaming one-to-one

abbrev pub OneToOne : (ℕ → ℕ) → Type 0
OneToOne f = (m n : ℕ) → f m ≡ f n → m ≡ n

pub undone_is_one_to_one : (f g : ℕ → ℕ) → ((n : ℕ) → g (f n) ≡ n) → OneToOne f
undone_is_one_to_one f g back m n same = sym (back m) ∙ (ap g same ∙ back n)

same_test : (f : ℕ → ℕ) → OneToOne f → (m n : ℕ) (b : Bool) → (m == n) ≡ b → (f m == f n) ≡ b
same_test f one m n true e = (unsigned_Decides (f m) (f n)).1 (ap f ((unsigned_Decides m n).0 e))
same_test f one m n false e = apart_false (f m) (f n) (λ same. let yes = (unsigned_Decides m n).1 (one m n same) in let bad = sym yes ∙ e in cc)

pub renamed_test : (f : ℕ → ℕ) → OneToOne f → (m n : ℕ) → (f m == f n) ≡ (m == n)
renamed_test f one m n = same_test f one m n (m == n) refl

renamed_name : (f : ℕ → ℕ) (x n : ℕ) (u : Tree) (b : Bool) → (f n == f x) ≡ b → renamed f (cond b u (name n)) ≡ cond (f n == f x) (renamed f u) (name (f n))
renamed_name f x n u true e = rw e refl
renamed_name f x n u false e = rw e refl

-- a term put for a name, and all of it renamed
mutual
  pub renamed-subst : (f : ℕ → ℕ) → OneToOne f → (x : ℕ) (u t : Tree) → renamed f (subst x u t) ≡ subst (f x) (renamed f u) (renamed f t)
  renamed-subst f one x u (name n) = renamed_name f x n u (n == x) (renamed_test f one n x)
  renamed-subst f one x u (agent s ts) = ap (agent s) (renamed_trees-subst_all f one x u ts)

  pub renamed_trees-subst_all : (f : ℕ → ℕ) → OneToOne f → (x : ℕ) (u : Tree) (ts : Trees)
      → renamed_trees f (subst_all x u ts) ≡ subst_all (f x) (renamed f u) (renamed_trees f ts)
  renamed_trees-subst_all f one x u no_trees = refl
  renamed_trees-subst_all f one x u (more_trees t ts) = λ i. more_trees (renamed-subst f one x u t i) (renamed_trees-subst_all f one x u ts i)

pub renamed_terms-subst : (f : ℕ → ℕ) → OneToOne f → (x : ℕ) (u : Tree) (ts : List Tree)
    → map (renamed f) (map (subst x u) ts) ≡ map (subst (f x) (renamed f u)) (map (renamed f) ts)
renamed_terms-subst f one x u [] = refl
renamed_terms-subst f one x u (t ∷ ts) = λ i. renamed-subst f one x u t i ∷ renamed_terms-subst f one x u ts i

pub renamed_pairs-subst : (f : ℕ → ℕ) → OneToOne f → (x : ℕ) (u : Tree) (es : List Pair)
    → map (renamed_pair f) (map (subst_pair x u) es) ≡ map (subst_pair (f x) (renamed f u)) (map (renamed_pair f) es)
renamed_pairs-subst f one x u [] = refl
renamed_pairs-subst f one x u (p ∷ es) =
    λ i. record { left = renamed-subst f one x u p.left i; right = renamed-subst f one x u p.right i } ∷ renamed_pairs-subst f one x u es i

pub renamed_in-subst_in : (f : ℕ → ℕ) → OneToOne f → (x : ℕ) (u : Tree) (c : Configuration)
    → renamed_in f (subst_in x u c) ≡ subst_in (f x) (renamed f u) (renamed_in f c)
renamed_in-subst_in f one x u c = λ i. record {
  interface = renamed_terms-subst f one x u c.interface i;
  equations = renamed_pairs-subst f one x u c.equations i;
  next = c.next;
}

-- ---- a renamed list has a renamed name as often

pub occurrences-renamed : (f : ℕ → ℕ) → OneToOne f → (n : ℕ) (ns : List ℕ) → occurrences (f n) (map f ns) ≡ occurrences n ns
occurrences-renamed f one n [] = refl
occurrences-renamed f one n (m ∷ ns) =
    rw (occurrences-cons (f n) (f m) (map f ns), occurrences-cons n m ns, renamed_test f one m n, occurrences-renamed f one n ns) refl

pub flat_pair_names-renamed : (f : ℕ → ℕ) (es : List Pair) → flat_map pair_names (map (renamed_pair f) es) ≡ map f (flat_map pair_names es)
flat_pair_names-renamed f [] = refl
flat_pair_names-renamed f (p ∷ es) =
    rw (names-renamed f p.left, names-renamed f p.right, flat_pair_names-renamed f es, map-append f (names p.left ++ names p.right) (flat_map pair_names es), map-append f (names p.left) (names p.right)) refl

pub names-renamed_in : (f : ℕ → ℕ) (c : Configuration) → configuration_names (renamed_in f c) ≡ map f (configuration_names c)
names-renamed_in f c =
    rw (flat_names-renamed f c.interface, flat_pair_names-renamed f c.equations, map-append f (flat_map names c.interface) (flat_map pair_names c.equations)) refl

pub occurrences-renamed_in : (f : ℕ → ℕ) → OneToOne f → (n : ℕ) (c : Configuration)
    → occurrences (f n) (configuration_names (renamed_in f c)) ≡ occurrences n (configuration_names c)
occurrences-renamed_in f one n c = rw (names-renamed_in f c) (occurrences-renamed f one n (configuration_names c))

-- ---- back again

mutual
  pub renamed-back : (f g : ℕ → ℕ) → ((n : ℕ) → g (f n) ≡ n) → (t : Tree) → renamed g (renamed f t) ≡ t
  renamed-back f g back (name n) = ap name (back n)
  renamed-back f g back (agent s ts) = ap (agent s) (renamed_trees-back f g back ts)

  pub renamed_trees-back : (f g : ℕ → ℕ) → ((n : ℕ) → g (f n) ≡ n) → (ts : Trees) → renamed_trees g (renamed_trees f ts) ≡ ts
  renamed_trees-back f g back no_trees = refl
  renamed_trees-back f g back (more_trees t ts) = λ i. more_trees (renamed-back f g back t i) (renamed_trees-back f g back ts i)

renamed_terms-back : (f g : ℕ → ℕ) → ((n : ℕ) → g (f n) ≡ n) → (ts : List Tree) → map (renamed g) (map (renamed f) ts) ≡ ts
renamed_terms-back f g back [] = refl
renamed_terms-back f g back (t ∷ ts) = λ i. renamed-back f g back t i ∷ renamed_terms-back f g back ts i

renamed_pairs-back : (f g : ℕ → ℕ) → ((n : ℕ) → g (f n) ≡ n) → (es : List Pair) → map (renamed_pair g) (map (renamed_pair f) es) ≡ es
renamed_pairs-back f g back [] = refl
renamed_pairs-back f g back (p ∷ es) =
    λ i. record { left = renamed-back f g back p.left i; right = renamed-back f g back p.right i } ∷ renamed_pairs-back f g back es i

pub renamed_in-back : (f g : ℕ → ℕ) → ((n : ℕ) → g (f n) ≡ n) → (c : Configuration) → renamed_in g (renamed_in f c) ≡ c
renamed_in-back f g back c = λ i. record {
  interface = renamed_terms-back f g back c.interface i;
  equations = renamed_pairs-back f g back c.equations i;
  next = c.next;
}
