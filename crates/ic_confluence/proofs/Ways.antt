-- Lemmas: the way round a circle is the same, but for where it begins.
use Rattle.std.proofs.Common.{◌≡◌, ℕ, zero, suc, ◌+◌, ◌*◌, ◌==◌, ◌||◌, List, [], ◌∷◌, ◌++◌, Bool, true, false, cond, map, length, refl, sym, ap, ◌∙◌, append_assoc, append-nil, arith, subst as transport}
use Rattle.std.specs.Prelude.{count_by}
use Rattle.std.proofs.lemmas.List.Sums.{sum_by-cons}
use Rattle.ic_term.specs.Tree.{Tree, name, agent, Trees, no_trees, more_trees, names, names_of, Pair}
use Rattle.ic_term.specs.Configuration.{Configuration, occurrences}
use Rattle.ic_rules.specs.Renaming.{renamed, renamed_trees}
use Rattle.ic_rules.specs.lemmas.RenamingLaws.{names-renamed}
use Rattle.ic_settle.specs.Settling.{occurs, subst, subst_all}
use Rattle.ic_settle.specs.lemmas.SubstitutionLaws.{occurrences-append, occurrences_none, occurrences_some, subst-absent}
use Rattle.ic_confluence.specs.Agents.{way_to, way_through, way_between, way_round}
use Rattle.ic_confluence.specs.Sameness.{Rotated, Alike, itself, exchanged, rotated, in_turn, Rearranged, nothing, kept, swapped, one_by_one, renamed_pair, Same, renaming, rearranging, through}
use Rattle.ic_confluence.specs.lemmas.Counts.{alone_other, occurrences-gone}
use Rattle.ic_confluence.proofs.Putting.{occurs_some}
use Rattle.ic_confluence.specs.lemmas.Puts.{OneToOne, undone_is_one_to_one, renamed_test}

abbrev pub Way : Type 0
Way = List (ℕ × ℕ)

-- ---- a term put for a name that occurs once in both

to_name : (x n : ℕ) (u : Tree) (b : Bool) → (n == x) ≡ b → occurrences x (n ∷ []) ≡ 1 → way_to x (cond b u (name n)) ≡ way_to x u
to_name x n u true e once = refl
to_name x n u false e once = let none = alone_other x n e in absurd (omega (arith, none, once))

-- in one term, or in those after it
here_or_later : (x : ℕ) (u : Tree) (s k : ℕ) (t : Tree) (ts : Trees) → occurrences x (names u) ≡ 1 → occurrences x (names t ++ names_of ts) ≡ 1 → (b : Bool) → occurs x (names t) ≡ b
    → (occurrences x (names t) ≡ 1 → way_to x (subst x u t) ≡ way_to x t ++ way_to x u)
    → (occurrences x (names_of ts) ≡ 1 → way_through x s (suc k) (subst_all x u ts) ≡ way_through x s (suc k) ts ++ way_to x u)
    → way_through x s k (more_trees (subst x u t) (subst_all x u ts)) ≡ way_through x s k (more_trees t ts) ++ way_to x u
here_or_later x u s k t ts one once true e first rest =
    let both = occurrences-append x (names t) (names_of ts) in
    let some = occurrences_some x (names t) e in
    let here : occurrences x (names t) ≡ 1 = omega (arith, both, once, some) in
    let gone = occurrences-gone x u t ∙ (λ i. here i * one i) in
    let there : occurs x (names (subst x u t)) ≡ true = occurs_some x (names (subst x u t)) (omega (arith, gone)) in
    rw (there, e) (ap (λ w. (s, k) ∷ w) (first here))
here_or_later x u s k t ts one once false e first rest =
    let both = occurrences-append x (names t) (names_of ts) in
    let none = occurrences_none x (names t) e in
    let stay = subst-absent x u t none in
    let P : Tree → Type 0 = λ v. way_through x s k (more_trees v (subst_all x u ts)) ≡ way_through x s k (more_trees t ts) ++ way_to x u in
    transport P (sym stay) (rw e (rest (omega (arith, both, once, none))))

mutual
  way_put : (x : ℕ) (u t : Tree) → occurrences x (names u) ≡ 1 → occurrences x (names t) ≡ 1 → way_to x (subst x u t) ≡ way_to x t ++ way_to x u
  way_put x u (name n) one once = to_name x n u (n == x) refl once
  way_put x u (agent s ts) one once = way_put_all x u s 0 ts one once

  way_put_all : (x : ℕ) (u : Tree) (s k : ℕ) (ts : Trees) → occurrences x (names u) ≡ 1 → occurrences x (names_of ts) ≡ 1
      → way_through x s k (subst_all x u ts) ≡ way_through x s k ts ++ way_to x u
  way_put_all x u s k no_trees one once = absurd (let nothing : occurrences x [] ≡ 0 = refl in omega (arith, nothing, once))
  way_put_all x u s k (more_trees t ts) one once =
      here_or_later x u s k t ts one once (occurs x (names t)) refl (λ here. way_put x u t one here) (λ later. way_put_all x u s (suc k) ts one later)

-- ---- names renamed

occurs-renamed : (f : ℕ → ℕ) → OneToOne f → (x : ℕ) (ns : List ℕ) → occurs (f x) (map f ns) ≡ occurs x ns
occurs-renamed f one x [] = refl
occurs-renamed f one x (n ∷ ns) = λ i. renamed_test f one n x i || occurs-renamed f one x ns i

mutual
  way_renamed : (f : ℕ → ℕ) → OneToOne f → (x : ℕ) (t : Tree) → way_to (f x) (renamed f t) ≡ way_to x t
  way_renamed f one x (name n) = refl
  way_renamed f one x (agent s ts) = way_renamed_all f one x s 0 ts

  way_renamed_all : (f : ℕ → ℕ) → OneToOne f → (x s k : ℕ) (ts : Trees) → way_through (f x) s k (renamed_trees f ts) ≡ way_through x s k ts
  way_renamed_all f one x s k no_trees = refl
  way_renamed_all f one x s k (more_trees t ts) =
      λ i. cond ((ap (occurs (f x)) (names-renamed f t) ∙ occurs-renamed f one x (names t)) i) ((s, k) ∷ way_renamed f one x t i) (way_renamed_all f one x s (suc k) ts i)

between_renamed : (f : ℕ → ℕ) → OneToOne f → (t u : Tree) → way_between (renamed f t) (renamed f u) ≡ way_between t u
between_renamed f one (name x) u = way_renamed f one x u
between_renamed f one (agent s ts) (name y) = way_renamed f one y (agent s ts)
between_renamed f one (agent s ts) (agent r us) = refl

-- ---- the way of an equation

between_turned : (t u : Tree) → way_between u t ≡ way_between t u
between_turned (name x) (agent r us) = refl
between_turned (agent s ts) (name y) = refl
between_turned _ _ = refl

rotated_given : (p q : Pair) (is : Rotated p q) → way_round p ≡ way_to is.cut is.outer ++ way_to is.cut is.inner
rotated_given p q is = ap way_round is.given ∙ way_put is.cut is.inner is.outer is.once_inner is.once_outer

rotated_result : (p q : Pair) (is : Rotated p q) → way_round q ≡ way_to is.cut is.inner ++ way_to is.cut is.outer
rotated_result p q is = ap way_round is.result ∙ way_put is.cut is.outer is.inner is.once_outer is.once_inner

-- ---- what doesn't depend on where a way begins

module _ (P : Way → Bool) (turns : (front back : Way) → P (front ++ back) ≡ P (back ++ front)) where
  alike_ways : (p q : Pair) → Alike p q → P (way_round p) ≡ P (way_round q)
  alike_ways p q (itself r) = refl
  alike_ways p q (exchanged r) = ap P (sym (between_turned r.left r.right))
  alike_ways p q (rotated r s is) =
      ap P (rotated_given r s is) ∙ (turns (way_to is.cut is.outer) (way_to is.cut is.inner) ∙ ap P (sym (rotated_result r s is)))
  alike_ways p q (in_turn r s t first second) = alike_ways r s first ∙ alike_ways s t second

  abbrev counted : List Pair → ℕ
  counted es = count_by (λ p. P (way_round p)) es

  one_more : (p : Pair) (es : List Pair) → counted (p ∷ es) ≡ cond (P (way_round p)) 1 0 + counted es
  one_more p es = sum_by-cons (λ (q : Pair). cond (P (way_round q)) 1 0) p es

  arranged_ways : (es fs : List Pair) → Rearranged es fs → counted es ≡ counted fs
  arranged_ways es fs nothing = refl
  arranged_ways es fs (kept p q ps qs alike rest) =
      let one = one_more p ps in
      let other = one_more q qs in
      let here : ◌≡◌ {A = ℕ} (cond (P (way_round p)) 1 0) (cond (P (way_round q)) 1 0) = ap (λ b. cond b 1 0) (alike_ways p q alike) in
      let later = arranged_ways ps qs rest in
      omega (arith, one, other, here, later)
  arranged_ways es fs (swapped p q ps) =
      let a = one_more p (q ∷ ps) in
      let b = one_more q ps in
      let c = one_more q (p ∷ ps) in
      let d = one_more p ps in
      omega (arith, a, b, c, d)
  arranged_ways es fs (one_by_one ps qs rs first second) = arranged_ways ps qs first ∙ arranged_ways qs rs second

  renamed_ways : (f : ℕ → ℕ) → OneToOne f → (es : List Pair) → counted (map (renamed_pair f) es) ≡ counted es
  renamed_ways f one [] = refl
  renamed_ways f one (p ∷ es) =
      let a = one_more (renamed_pair f p) (map (renamed_pair f) es) in
      let b = one_more p es in
      let here : ◌≡◌ {A = ℕ} (cond (P (way_round (renamed_pair f p))) 1 0) (cond (P (way_round p)) 1 0) = ap (λ w. cond (P w) 1 0) (between_renamed f one p.left p.right) in
      let later = renamed_ways f one es in
      omega (arith, a, b, here, later)

  pub same_ways : (c d : Configuration) → Same c d → count_by (λ p. P (way_round p)) d.equations ≡ count_by (λ p. P (way_round p)) c.equations
  same_ways c d (renaming x y r) = ap (λ (e : Configuration). counted e.equations) r.result ∙ renamed_ways r.to (undone_is_one_to_one r.to r.from r.there_and_back) x.equations
  same_ways c d (rearranging x y r) = sym (arranged_ways x.equations y.equations r.equations)
  same_ways c d (through x y z first second) = same_ways y z second ∙ same_ways x y first

-- ---- where a way begins

abbrev pub turn : Way → Way
turn [] = []
turn (e ∷ w) = w ++ e ∷ []

abbrev pub turn_by : ℕ → Way → Way
turn_by zero w = w
turn_by (suc n) w = turn_by n (turn w)

turn_by-turn_by : (m n : ℕ) (w : Way) → turn_by n (turn_by m w) ≡ turn_by (m + n) w
turn_by-turn_by zero n w = ap (λ k. turn_by k w) (let same : n ≡ 0 + n = omega arith in same)
turn_by-turn_by (suc m) n w = turn_by-turn_by m n (turn w) ∙ ap (λ k. turn_by k w) (let same : suc (m + n) ≡ suc m + n = omega arith in same)

pub from_parts : (front back : Way) → turn_by (length front) (front ++ back) ≡ back ++ front
from_parts [] back = sym (append-nil back)
from_parts (e ∷ front) back =
    ap (turn_by (length front)) (append_assoc front back (e ∷ [])) ∙ (from_parts front (back ++ e ∷ []) ∙ append_assoc back (e ∷ []) front)

-- a way that begins elsewhere
abbrev pub Elsewhere : Way → Way → Type 0
Elsewhere v w = (front : Way) × (back : Way) × (v ≡ front ++ back) × (w ≡ back ++ front)

to_parts : (n : ℕ) (front back : Way) → Elsewhere (front ++ back) (turn_by n (back ++ front))
to_parts zero front back = (front, back, refl, refl)
to_parts (suc n) front (e ∷ back) =
    let rest = to_parts n (front ++ e ∷ []) back in (
      rest.0,
      rest.1,
      sym (append_assoc front (e ∷ []) back) ∙ rest.2,
      ap (turn_by n) (append_assoc back front (e ∷ [])) ∙ rest.3,
    )
to_parts (suc n) [] [] = let rest = to_parts n [] [] in (rest.0, rest.1, rest.2, rest.3)
to_parts (suc n) (e ∷ front) [] =
    let rest = to_parts n (e ∷ []) front in (rest.0, rest.1, ap (λ w. e ∷ w) (append-nil front) ∙ rest.2, rest.3)

abbrev TurnsTo : Way → Way → Type 0
TurnsTo v w = (n : ℕ) × (turn_by n v ≡ w)

turns_twice : (u v w : Way) → TurnsTo u v → TurnsTo v w → TurnsTo u w
turns_twice u v w (m, one) (n, other) = (m + n, sym (turn_by-turn_by m n u) ∙ (ap (turn_by n) one ∙ other))

alike_turns : (p q : Pair) → Alike p q → TurnsTo (way_round p) (way_round q)
alike_turns p q (itself r) = (0, refl)
alike_turns p q (exchanged r) = (0, sym (between_turned r.left r.right))
alike_turns p q (rotated r s is) =
    let front = way_to is.cut is.outer in
    let back = way_to is.cut is.inner in
    (length front, ap (turn_by (length front)) (rotated_given r s is) ∙ (from_parts front back ∙ sym (rotated_result r s is)))
alike_turns p q (in_turn r s t first second) = turns_twice (way_round r) (way_round s) (way_round t) (alike_turns r s first) (alike_turns s t second)

-- ---- one equation alone

abbrev head_or : Pair → List Pair → Pair
head_or d [] = d
head_or d (p ∷ ps) = p

abbrev tail_of : List Pair → List Pair
tail_of [] = []
tail_of (p ∷ ps) = ps

-- one equation, whose way begins elsewhere
abbrev OneToo : Pair → List Pair → Type 0
OneToo p fs = (q : Pair) × (fs ≡ q ∷ []) × TurnsTo (way_round p) (way_round q)

no_equation : (p : Pair) (ps : List Pair) → p ∷ ps ≡ [] → ⊥
no_equation p ps e = cc

none_arranged : (es fs : List Pair) → Rearranged es fs → es ≡ [] → fs ≡ []
none_arranged es fs nothing e = refl
none_arranged es fs (kept p q ps qs alike rest) e = absurd (no_equation p ps e)
none_arranged es fs (swapped p q ps) e = absurd (no_equation p (q ∷ ps) e)
none_arranged es fs (one_by_one ps qs rs first second) e = none_arranged qs rs second (none_arranged ps qs first e)

one_arranged : (es fs : List Pair) (p : Pair) → Rearranged es fs → es ≡ p ∷ [] → OneToo p fs
one_arranged es fs p nothing e = absurd (no_equation p [] (sym e))
one_arranged es fs p (kept r q ps qs alike rest) e =
    let none = none_arranged ps qs rest (ap tail_of e) in
    let P : Pair → Type 0 = λ z. TurnsTo (way_round z) (way_round q) in
    (q, ap (λ l. q ∷ l) none, transport P (ap (head_or r) e) (alike_turns r q alike))
one_arranged es fs p (swapped r q ps) e = absurd (no_equation q ps (ap tail_of e))
one_arranged es fs p (one_by_one ps qs rs first second) e =
    let one = one_arranged ps qs p first e in
    let other = one_arranged qs rs one.0 second one.1 in
    (other.0, other.1, turns_twice (way_round p) (way_round one.0) (way_round other.0) one.2 other.2)

one_too : (c d : Configuration) (p : Pair) → Same c d → c.equations ≡ p ∷ [] → OneToo p d.equations
one_too c d p (renaming x y r) e =
    let one = undone_is_one_to_one r.to r.from r.there_and_back in
    (renamed_pair r.to p, ap (λ (z : Configuration). z.equations) r.result ∙ ap (map (renamed_pair r.to)) e, (0, sym (between_renamed r.to one p.left p.right)))
one_too c d p (rearranging x y r) e = one_arranged x.equations y.equations p r.equations e
one_too c d p (through x y z first second) e =
    let one = one_too x y p first e in
    let other = one_too y z one.0 second one.1 in
    (other.0, other.1, turns_twice (way_round p) (way_round one.0) (way_round other.0) one.2 other.2)

pub one_way : (c d : Configuration) (p q : Pair) → Same c d → c.equations ≡ p ∷ [] → d.equations ≡ q ∷ [] → Elsewhere (way_round p) (way_round q)
one_way c d p q same e f =
    let too = one_too c d p same e in
    let is : too.0 ≡ q = ap (head_or q) (sym too.1 ∙ f) in
    let turned_so = ap way_round is in
    let parts = to_parts too.2.0 [] (way_round p) in
    let whole : turn_by too.2.0 (way_round p ++ []) ≡ way_round q = ap (turn_by too.2.0) (append-nil (way_round p)) ∙ (too.2.1 ∙ turned_so) in
    (parts.0, parts.1, parts.2, sym whole ∙ parts.3)
