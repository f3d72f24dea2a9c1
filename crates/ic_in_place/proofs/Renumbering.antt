-- A configuration is one net with itself renumbered, wherever fresh names begin.
use Rattle.std.proofs.Common.{◌≡◌, ℕ, suc, ◌+◌, ◌<◌, ◌≤◌, ◌==◌, List, [], ◌∷◌, ◌++◌, Bool, true, false, cond, map, refl, sym, ap, subst, ◌∙◌, eq-eqb, arith}
use Rattle.std.proofs.lemmas.List.{map-append}
use Rattle.std.specs.Cmp.{unsigned_Decides}
use Rattle.std.specs.List.{flat_map, AllByRecursion}
use Rattle.ic_term.specs.Tree.{Tree, name, agent, Trees, no_trees, more_trees, names, names_of, Pair, pair_names}
use Rattle.ic_term.specs.Configuration.{Configuration, configuration_names, occurrences}
use Rattle.ic_rules.specs.Renaming.{renamed, renamed_trees}
use Rattle.ic_naming.specs.lemmas.Occurring.{occurrences-cons, occurrences-other}
use Rattle.ic_rules.specs.lemmas.RenamingLaws.{names-renamed, flat_names-renamed}
use Rattle.ic_round.specs.Naming.{HasNames}
use Rattle.ic_confluence.specs.Sameness.{Renames, renaming, renamed_in, renamed_pair}
use Rattle.ic_settle.specs.NameSteps.{no_step}
use Rattle.ic_reaching.specs.OneNet.{OneNet, SameButNext, raised}
use Rattle.ic_naming.specs.Naming.{IsOneToOne, renumbered, told_name}
use Rattle.ic_text.specs.declared.limits.TheConstants.{MAX_NAME}
use Rattle.ic_in_place.proofs.Bijections.{Extends, Bounded, apart_from, extended}

abbrev Agree : (ℕ → ℕ) → (ℕ → ℕ) → List ℕ → Type 0
Agree f g ns = AllByRecursion (λ n. f n ≡ g n) ns

split : (f g : ℕ → ℕ) (ms ns : List ℕ) → Agree f g (ms ++ ns) → Agree f g ms × Agree f g ns
split f g [] ns all = (tt, all)
split f g (m ∷ ms) ns all = let rest = split f g ms ns all.1 in ((all.0, rest.0), rest.1)

mutual
  agree : (f g : ℕ → ℕ) (t : Tree) → Agree f g (names t) → renamed f t ≡ renamed g t
  agree f g (name n) all = ap name all.0
  agree f g (agent s ts) all = ap (agent s) (agree_all f g ts all)

  agree_all : (f g : ℕ → ℕ) (ts : Trees) → Agree f g (names_of ts) → renamed_trees f ts ≡ renamed_trees g ts
  agree_all f g no_trees all = refl
  agree_all f g (more_trees t ts) all =
      let parts = split f g (names t) (names_of ts) all in
      λ i. more_trees (agree f g t parts.0 i) (agree_all f g ts parts.1 i)

agree_terms : (f g : ℕ → ℕ) (ts : List Tree) → Agree f g (flat_map names ts) → map (renamed f) ts ≡ map (renamed g) ts
agree_terms f g [] all = refl
agree_terms f g (t ∷ ts) all =
    let parts = split f g (names t) (flat_map names ts) all in
    λ i. agree f g t parts.0 i ∷ agree_terms f g ts parts.1 i

agree_pair : (f g : ℕ → ℕ) (p : Pair) → Agree f g (pair_names p) → renamed_pair f p ≡ renamed_pair g p
agree_pair f g p all =
    let parts = split f g (names p.left) (names p.right) all in
    λ i. record { left = agree f g p.left parts.0 i; right = agree f g p.right parts.1 i }

agree_pairs : (f g : ℕ → ℕ) (es : List Pair) → Agree f g (flat_map pair_names es) → map (renamed_pair f) es ≡ map (renamed_pair g) es
agree_pairs f g [] all = refl
agree_pairs f g (e ∷ es) all =
    let parts = split f g (pair_names e) (flat_map pair_names es) all in
    λ i. agree_pair f g e parts.0 i ∷ agree_pairs f g es parts.1 i

-- what is of each name is of one that occurs
at_name : (P : ℕ → Type 0) (n m : ℕ) (ms : List ℕ) (b : Bool) → (m == n) ≡ b → P m → (1 ≤ occurrences n ms → P n) → 1 ≤ occurrences n (m ∷ ms) → P n
at_name P n m ms true e one rest some = subst P ((unsigned_Decides m n).0 e) one
at_name P n m ms false e one rest some = rest (omega (arith, some, occurrences-other n m ms e))

pub occurring : (P : ℕ → Type 0) (n : ℕ) (ns : List ℕ) → AllByRecursion P ns → 1 ≤ occurrences n ns → P n
occurring P n [] all some = absurd (omega (arith, some))
occurring P n (m ∷ ms) all some = at_name P n m ms (m == n) refl all.0 (occurring P n ms all.1) some

-- above all names and what they are turned into
abbrev above : (ℕ → ℕ) → List ℕ → ℕ
above f [] = 0
above f (n ∷ ns) = suc (n + f n) + above f ns

bounded : (f : ℕ → ℕ) (ns : List ℕ) (m : ℕ) → above f ns ≤ m → Bounded f m ns
bounded f [] m le = tt
bounded f (n ∷ ns) m le = ((omega (arith, le), omega (arith, le)), bounded f ns m (omega (arith, le)))

same_parts : (c d : Configuration) → c.interface ≡ d.interface → c.equations ≡ d.equations → c.next ≡ d.next → c ≡ d
same_parts c d one two three = λ i. record { interface = one i; equations = two i; next = three i }

same_test_at : (to from : ℕ → ℕ) → ((n : ℕ) → from (to n) ≡ n) → ((n : ℕ) → to (from n) ≡ n) → (m n : ℕ) (b : Bool) → (n == from m) ≡ b → (to n == m) ≡ b
same_test_at to from there back m n true e = eq-eqb (to n) m (ap to ((unsigned_Decides n (from m)).0 e) ∙ back m)
same_test_at to from there back m n false e = other (to n == m) refl
  where
    other : (b : Bool) → (to n == m) ≡ b → (to n == m) ≡ false
    other true same = absurd (true_false (sym (eq-eqb n (from m) (sym (there n) ∙ ap from ((unsigned_Decides (to n) m).0 same))) ∙ e))
      where
        true_false : true ≡ false → ⊥
        true_false t = cc
    other false same = same

-- names that are turned one-to-one occur as often
turned_occurrences : (to from : ℕ → ℕ) → ((n : ℕ) → from (to n) ≡ n) → ((n : ℕ) → to (from n) ≡ n) → (m : ℕ) (ns : List ℕ) → occurrences m (map to ns) ≡ occurrences (from m) ns
turned_occurrences to from there back m [] = refl
turned_occurrences to from there back m (n ∷ ns) =
    occurrences-cons m (to n) (map to ns)
    ∙ ap (λ (b : Bool). cond b 1 0 + occurrences m (map to ns)) (same_test_at to from there back m n (n == from m) refl)
    ∙ ap (λ (k : ℕ). cond (n == from m) 1 0 + k) (turned_occurrences to from there back m ns)
    ∙ sym (occurrences-cons (from m) n ns)

pair_names-renamed : (f : ℕ → ℕ) (es : List Pair) → flat_map pair_names (map (renamed_pair f) es) ≡ map f (flat_map pair_names es)
pair_names-renamed f [] = refl
pair_names-renamed f (e ∷ es) =
    rw (names-renamed f e.left, names-renamed f e.right, pair_names-renamed f es)
    (sym (map-append f (names e.left ++ names e.right) (flat_map pair_names es)
    ∙ ap (λ l. l ++ map f (flat_map pair_names es)) (map-append f (names e.left) (names e.right))))

module _ (told_apart : (ns : List ℕ) → IsOneToOne (told_name ns) ns) (told_free : (ns : List ℕ) (n : ℕ) → occurrences n ns ≡ 1 → n ≤ MAX_NAME → told_name ns n ≡ n)
    (c d : Configuration) (few : (n : ℕ) → occurrences n (configuration_names c) ≡ 1 → n ≤ MAX_NAME)
    (interface : d.interface ≡ (renumbered c).interface) (equations : d.equations ≡ (renumbered c).equations) where
  abbrev ns : List ℕ
  ns = configuration_names c

  abbrev turn : ℕ → ℕ
  turn = told_name ns

  extends : Extends turn ns (above turn ns)
  extends = extended turn ns (above turn ns) (apart_from turn ns (told_apart ns)) (bounded turn ns (above turn ns) (omega arith))

  abbrev more : ℕ
  more = above turn ns + d.next

  abbrev others : ℕ
  others = c.next + above turn ns

  agrees : Agree extends.to turn (flat_map names c.interface) × Agree extends.to turn (flat_map pair_names c.equations)
  agrees = split extends.to turn (flat_map names c.interface) (flat_map pair_names c.equations) extends.agrees

  terms_are : d.interface ≡ map (renamed extends.to) c.interface
  terms_are = interface ∙ sym (agree_terms extends.to turn c.interface agrees.0)

  pairs_are : d.equations ≡ map (renamed_pair extends.to) c.equations
  pairs_are = equations ∙ sym (agree_pairs extends.to turn c.equations agrees.1)

  names_are : configuration_names d ≡ map extends.to ns
  names_are =
      ap (λ (ts : List Tree). flat_map names ts ++ flat_map pair_names d.equations) terms_are
      ∙ ap (λ (es : List Pair). flat_map names (map (renamed extends.to) c.interface) ++ flat_map pair_names es) pairs_are
      ∙ ap (λ (l : List ℕ). l ++ flat_map pair_names (map (renamed_pair extends.to) c.equations)) (flat_names-renamed extends.to c.interface)
      ∙ ap (λ (l : List ℕ). map extends.to (flat_map names c.interface) ++ l) (pair_names-renamed extends.to c.equations)
      ∙ sym (map-append extends.to (flat_map names c.interface) (flat_map pair_names c.equations))

  renames : Renames (raised more c) (raised others d)
  renames = record {
    to = extends.to;
    from = extends.from;
    there_and_back = extends.there_and_back;
    back_and_there = extends.back_and_there;
    free = λ n once. occurring (λ m. extends.to m ≡ turn m) n ns extends.agrees (omega (arith, once)) ∙ told_free ns n once (few n once);
    fresh = λ n high. extends.fresh n (omega (arith, high));
    result = same_parts (raised others d) (renamed_in extends.to (raised more c)) terms_are pairs_are (omega arith);
  }

  pub renumbered_same : SameButNext c d
  renumbered_same = record {
    more = more;
    others = others;
    same = renaming (raised more c) (raised others d) renames;
  }

  module _ (is : HasNames c) (below : AllByRecursion (λ n. n < d.next) (configuration_names d)) where
    pub is_too : HasNames d
    is_too = record {
      below = below;
      twice = λ m. subst (λ (l : List ℕ). occurrences m l ≤ 2) (sym names_are)
          (subst (λ (k : ℕ). k ≤ 2) (sym (turned_occurrences extends.to extends.from extends.there_and_back extends.back_and_there m ns)) (is.twice (extends.from m)));
    }

    pub renumbered_net : OneNet c d
    renumbered_net = record {
      names = is;
      names_too = is_too;
      end = c;
      end_too = d;
      steps = no_step c;
      steps_too = no_step d;
      same = renumbered_same;
    }
