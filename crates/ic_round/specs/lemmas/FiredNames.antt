-- The names of a fired configuration: each occurs at most twice, below the new `next`.
use Rattle.std.proofs.Common.{◌≡◌, ℕ, ◌+◌, ◌≤◌, ◌<◌, List, [], ◌∷◌, ◌++◌, Bool, true, false, Option, None, Some, slice_get, map, refl, sym, ap, ◌∙◌, arith, ◌⊎◌, inl, inr, append-nil}
use Rattle.std.proofs.lemmas.Bool.{cases_lt}
use Rattle.std.proofs.lemmas.List.{map-append}
use Rattle.std.proofs.lemmas.Grind.{flat_map-append}
use Rattle.std.specs.List.{AllByRecursion, flat_map}
use Rattle.std.specs.Option.{option_map_or}
use Rattle.ic_term.specs.Tree.{Tree, name, agent, Trees, no_trees, more_trees, list_of, names, names_of, Pair, pair_names}
use Rattle.ic_term.specs.Configuration.{Configuration, IsConfiguration, names_in, occurrences}
use Rattle.ic_rules.specs.Rule.{Rule, IsRule, rule_names}
use Rattle.ic_rules.specs.lemmas.RenamingLaws.{flat_names-renamed}
use Rattle.ic_round.specs.Instance.{inst}
use Rattle.ic_round.specs.Firing.{Active, oriented, rule_of_sides, active_pair, arguments, against, products, products_by, count_of, names_taken, fired_pair, fired_from, next_after, fired}
use Rattle.ic_round.specs.lemmas.SoundRules.{HasSoundRule}
use Rattle.ic_settle.specs.lemmas.SubstitutionLaws.{occurrences-append, All-append, All-front, All-back}
use Rattle.ic_round.specs.lemmas.FreshNames.{absent_below, absent_above, from_base, below_top, rule_below, rule_twice, copy_twice}

pub All-mono : (P Q : ℕ → Type 0) → ((n : ℕ) → P n → Q n) → (ns : List ℕ) → AllByRecursion P ns → AllByRecursion Q ns
All-mono P Q f [] all = tt
All-mono P Q f (n ∷ ns) all = (f n all.0, All-mono P Q f ns all.1)

-- ---- an agent's arguments

pub names-arguments : (ts : Trees) → flat_map names (list_of ts) ≡ names_of ts
names-arguments no_trees = refl
names-arguments (more_trees t ts) = ap (λ ns. names t ++ ns) (names-arguments ts)

few_arguments : (n : ℕ) (t : Tree) → occurrences n (flat_map names (arguments t)) ≤ occurrences n (names t)
few_arguments n (name m) = omega arith
few_arguments n (agent s ts) = rw (names-arguments ts) (omega arith)

all_arguments : (P : ℕ → Type 0) (t : Tree) → AllByRecursion P (names t) → AllByRecursion P (flat_map names (arguments t))
all_arguments P (name m) all = tt
all_arguments P (agent s ts) all = rw (names-arguments ts) all

few_against : (n : ℕ) (ts us : List Tree)
    → occurrences n (flat_map pair_names (against ts us)) ≤ occurrences n (flat_map names ts) + occurrences n (flat_map names us)
few_against n [] us = omega arith
few_against n (t ∷ ts) [] = omega arith
few_against n (t ∷ ts) (u ∷ us) =
    let rest = few_against n ts us in
    let a = occurrences-append n (names t ++ names u) (flat_map pair_names (against ts us)) in
    let b = occurrences-append n (names t) (names u) in
    let c = occurrences-append n (names t) (flat_map names ts) in
    let d = occurrences-append n (names u) (flat_map names us) in
    omega arith

all_against : (P : ℕ → Type 0) (ts us : List Tree) → AllByRecursion P (flat_map names ts) → AllByRecursion P (flat_map names us)
    → AllByRecursion P (flat_map pair_names (against ts us))
all_against P [] us p q = tt
all_against P (t ∷ ts) [] p q = tt
all_against P (t ∷ ts) (u ∷ us) p q =
    All-append P (names t ++ names u) (flat_map pair_names (against ts us))
    (All-append P (names t) (names u) (All-front P (names t) (flat_map names ts) p) (All-front P (names u) (flat_map names us) q))
    (all_against P ts us (All-back P (names t) (flat_map names ts) p) (All-back P (names u) (flat_map names us) q))

-- ---- the products

copy_names : (r : Rule) (base : ℕ) → map (λ k. base + k) (rule_names r) ≡ flat_map names (inst r base).left_args ++ flat_map names (inst r base).right_args
copy_names r base =
    map-append (λ k. base + k) (flat_map names r.left_args) (flat_map names r.right_args)
    ∙ (λ i. sym (flat_names-renamed (λ k. base + k) r.left_args) i ++ sym (flat_names-renamed (λ k. base + k) r.right_args) i)

few_products : (n : ℕ) (r : Rule) (base : ℕ) (t u : Tree)
    → occurrences n (flat_map pair_names (products (inst r base) t u)) ≤ occurrences n (names t) + occurrences n (names u) + occurrences n (map (λ k. base + k) (rule_names r))
few_products n r base t u =
    let copy = inst r base in
    let split = ap (occurrences n) (flat_map-append pair_names (against (arguments t) copy.left_args) (against (arguments u) copy.right_args)) in
    let both = occurrences-append n (flat_map pair_names (against (arguments t) copy.left_args)) (flat_map pair_names (against (arguments u) copy.right_args)) in
    let left = few_against n (arguments t) copy.left_args in
    let right = few_against n (arguments u) copy.right_args in
    let left_few = few_arguments n t in
    let right_few = few_arguments n u in
    let named = ap (occurrences n) (copy_names r base) in
    let fresh = occurrences-append n (flat_map names copy.left_args) (flat_map names copy.right_args) in
    omega arith

all_products : (P : ℕ → Type 0) (r : Rule) (base : ℕ) (t u : Tree) → AllByRecursion P (names t) → AllByRecursion P (names u)
    → AllByRecursion P (map (λ k. base + k) (rule_names r)) → AllByRecursion P (flat_map pair_names (products (inst r base) t u))
all_products P r base t u p q fresh =
    let copy = inst r base in
    let split = rw (copy_names r base) at fresh in
    rw (flat_map-append pair_names (against (arguments t) copy.left_args) (against (arguments u) copy.right_args))
    (All-append P (flat_map pair_names (against (arguments t) copy.left_args)) (flat_map pair_names (against (arguments u) copy.right_args))
    (all_against P (arguments t) copy.left_args (all_arguments P t p) (All-front P (flat_map names copy.left_args) (flat_map names copy.right_args) split))
    (all_against P (arguments u) copy.right_args (all_arguments P u q) (All-back P (flat_map names copy.left_args) (flat_map names copy.right_args) split)))

-- ---- an active equation has its own sides, as they stand or turned round

abbrev pub SidesOf : Pair → Active → Type 0
SidesOf p a = ((a.left ≡ p.left) × (a.right ≡ p.right)) ⊎ ((a.left ≡ p.right) × (a.right ≡ p.left))

oriented_sides : (t u : Tree) (found : Option (ℕ × Bool)) (a : Active) → oriented t u found ≡ Some a
    → ((a.left ≡ t) × (a.right ≡ u)) ⊎ ((a.left ≡ u) × (a.right ≡ t))
oriented_sides t u None a e = cc
oriented_sides t u (Some (i, false)) a e = inl (cc, cc)
oriented_sides t u (Some (i, true)) a e = inr (cc, cc)

pub active_sides_of : (rs : List Rule) (p : Pair) (a : Active) → active_pair rs p ≡ Some a → SidesOf p a
active_sides_of rs p a e = oriented_sides p.left p.right (rule_of_sides rs p.left p.right) a e

sides_count : (n : ℕ) (p : Pair) (a : Active) → SidesOf p a → occurrences n (names a.left) + occurrences n (names a.right) ≡ occurrences n (pair_names p)
sides_count n p a (inl (l, r)) = rw (l, r) (sym (occurrences-append n (names p.left) (names p.right)))
sides_count n p a (inr (l, r)) = let both = occurrences-append n (names p.left) (names p.right) in rw (l, r) (omega arith)

sides_all : (P : ℕ → Type 0) (p : Pair) (a : Active) → SidesOf p a → AllByRecursion P (pair_names p) → AllByRecursion P (names a.left) × AllByRecursion P (names a.right)
sides_all P p a (inl (l, r)) all = (rw l (All-front P (names p.left) (names p.right) all), rw r (All-back P (names p.left) (names p.right) all))
sides_all P p a (inr (l, r)) all = (rw l (All-back P (names p.left) (names p.right) all), rw r (All-front P (names p.left) (names p.right) all))

-- ---- one equation, fired or not

-- What firing an equation does to the occurrences of a name, and to a bound of the names.
pub record Fires (rs : List Rule) (base : ℕ) (p : Pair) (out : List Pair) (taken : ℕ) : Type 0 where
  pub older : (n : ℕ) → n < base → occurrences n (flat_map pair_names out) ≤ occurrences n (pair_names p)
  pub fresh : (n : ℕ) → occurrences n (flat_map pair_names out) ≤ occurrences n (pair_names p) + 2
  pub later : (n : ℕ) → base + taken ≤ n → occurrences n (flat_map pair_names out) ≤ occurrences n (pair_names p)
  pub below : AllByRecursion (λ n. n < base) (pair_names p) → AllByRecursion (λ n. n < base + taken) (flat_map pair_names out)

single_names : (p : Pair) → flat_map pair_names (p ∷ []) ≡ pair_names p
single_names p = append-nil (pair_names p)

fires_none : (rs : List Rule) (base : ℕ) (p : Pair) → Fires rs base p (p ∷ []) 0
fires_none rs base p = record {
  older = λ n h. rw (single_names p) (omega arith);
  fresh = λ n. rw (single_names p) (omega arith);
  later = λ n h. rw (single_names p) (omega arith);
  below = λ all. rw (single_names p) (All-mono _ _ (λ n h. omega arith) (pair_names p) all);
}

fires_unknown : (rs : List Rule) (base : ℕ) (p : Pair) → Fires rs base p [] 0
fires_unknown rs base p = record { older = λ n h. omega arith; fresh = λ n. omega arith; later = λ n h. omega arith; below = λ all. tt }

fires_rule : (rs : List Rule) (base : ℕ) (p : Pair) (a : Active) (r : Rule) → SidesOf p a → IsRule r → Fires rs base p (products (inst r base) a.left a.right) r.names
fires_rule rs base p a r sides is =
    let ns = map (λ k. base + k) (rule_names r) in
    record {
      older = λ n h. (let few = few_products n r base a.left a.right in let same = sides_count n p a sides in let none = absent_below n base ns (from_base base (rule_names r)) h in omega arith);
      fresh = λ n. (let few = few_products n r base a.left a.right in let same = sides_count n p a sides in let two = copy_twice base n (rule_names r) (rule_twice r is) in omega arith);
      later = λ n h. (let few = few_products n r base a.left a.right in let same = sides_count n p a sides in
          let none = absent_above n (base + r.names) ns (below_top base r.names (rule_names r) (rule_below r is)) h in omega arith);
      below = λ all.
          let wider = All-mono _ (λ n. n < base + r.names) (λ n h. omega arith) (pair_names p) all in
          let parts = sides_all (λ n. n < base + r.names) p a sides wider in
          all_products (λ n. n < base + r.names) r base a.left a.right parts.0 parts.1 (below_top base r.names (rule_names r) (rule_below r is));
    }

fires_by : (rs : List Rule) (base : ℕ) (p : Pair) (a : Active) (found : Option Rule) → slice_get rs a.rule ≡ found → SidesOf p a
    → ((r : Rule) → slice_get rs a.rule ≡ Some r → IsRule r)
    → Fires rs base p (option_map_or (λ r. products (inst r base) a.left a.right) found []) (option_map_or (λ r. r.names) found 0)
fires_by rs base p a None e sides is = fires_unknown rs base p
fires_by rs base p a (Some r) e sides is = fires_rule rs base p a r sides (is r e)

fires_found : (rs : List Rule) (base : ℕ) (p : Pair) (found : Option Active) → active_pair rs p ≡ found → HasSoundRule rs p
    → Fires rs base p (option_map_or (products_by rs base) found (p ∷ [])) (option_map_or (λ a. count_of rs a.rule) found 0)
fires_found rs base p None e sound = fires_none rs base p
fires_found rs base p (Some a) e sound = fires_by rs base p a (slice_get rs a.rule) refl (active_sides_of rs p a e) (λ r there. (sound a r e there).is_rule)

pub fires : (rs : List Rule) (base : ℕ) (p : Pair) → HasSoundRule rs p → Fires rs base p (fired_pair rs base p) (names_taken rs p)
fires rs base p sound = fires_found rs base p (active_pair rs p) refl sound

-- ---- all equations

pub next_grows : (rs : List Rule) (base : ℕ) (ps : List Pair) → base ≤ next_after rs base ps
next_grows rs base [] = omega arith
next_grows rs base (p ∷ ps) = let more = next_grows rs (base + names_taken rs p) ps in omega arith

few_older : (rs : List Rule) (n base : ℕ) (ps : List Pair) → AllByRecursion (HasSoundRule rs) ps → n < base
    → occurrences n (flat_map pair_names (fired_from rs base ps)) ≤ occurrences n (flat_map pair_names ps)
few_older rs n base [] sound h = omega arith
few_older rs n base (p ∷ ps) sound h =
    let here = (fires rs base p sound.0).older n h in
    let rest = few_older rs n (base + names_taken rs p) ps sound.1 (omega arith) in
    let split = ap (occurrences n) (flat_map-append pair_names (fired_pair rs base p) (fired_from rs (base + names_taken rs p) ps)) in
    let parts = occurrences-append n (flat_map pair_names (fired_pair rs base p)) (flat_map pair_names (fired_from rs (base + names_taken rs p) ps)) in
    let whole = occurrences-append n (pair_names p) (flat_map pair_names ps) in
    omega arith

few_fresh : (rs : List Rule) (n base : ℕ) (ps : List Pair) → AllByRecursion (HasSoundRule rs) ps
    → occurrences n (flat_map pair_names (fired_from rs base ps)) ≤ occurrences n (flat_map pair_names ps) + 2
few_fresh rs n base [] sound = omega arith
few_fresh rs n base (p ∷ ps) sound =
    let split = ap (occurrences n) (flat_map-append pair_names (fired_pair rs base p) (fired_from rs (base + names_taken rs p) ps)) in
    let parts = occurrences-append n (flat_map pair_names (fired_pair rs base p)) (flat_map pair_names (fired_from rs (base + names_taken rs p) ps)) in
    let whole = occurrences-append n (pair_names p) (flat_map pair_names ps) in
    elim (cases_lt n (base + names_taken rs p)) [
      | inl low ↦ let here = (fires rs base p sound.0).fresh n in let rest = few_older rs n (base + names_taken rs p) ps sound.1 low in omega arith
      | inr high ↦ let here = (fires rs base p sound.0).later n high in let rest = few_fresh rs n (base + names_taken rs p) ps sound.1 in omega arith
    ]

all_below_next : (rs : List Rule) (base : ℕ) (ps : List Pair) → AllByRecursion (HasSoundRule rs) ps → AllByRecursion (λ n. n < base) (flat_map pair_names ps)
    → AllByRecursion (λ n. n < next_after rs base ps) (flat_map pair_names (fired_from rs base ps))
all_below_next rs base [] sound all = tt
all_below_next rs base (p ∷ ps) sound all =
    let later = base + names_taken rs p in
    let top = next_after rs later ps in
    let grown = next_grows rs later ps in
    let here = (fires rs base p sound.0).below (All-front _ (pair_names p) (flat_map pair_names ps) all) in
    let rest = all_below_next rs later ps sound.1 (All-mono _ _ (λ n h. omega arith) (flat_map pair_names ps) (All-back _ (pair_names p) (flat_map pair_names ps) all)) in
    rw (flat_map-append pair_names (fired_pair rs base p) (fired_from rs later ps))
    (All-append (λ n. n < top) (flat_map pair_names (fired_pair rs base p)) (flat_map pair_names (fired_from rs later ps)) (All-mono _ _ (λ n h. omega arith) _ here) rest)

-- each name of the fired configuration is below its `next`, and occurs at most twice
pub fired_below : (rs : List Rule) (c : Configuration) → AllByRecursion (HasSoundRule rs) c.equations → IsConfiguration c
    → AllByRecursion (λ n. n < (fired rs c).next) (names_in (fired rs c).interface (fired rs c).equations)
fired_below rs c sound is =
    let grown = next_grows rs c.next c.equations in
    All-append _ (flat_map names c.interface) (flat_map pair_names (fired_from rs c.next c.equations))
    (All-mono _ _ (λ n h. omega arith) _ (All-front _ (flat_map names c.interface) (flat_map pair_names c.equations) is.below))
    (all_below_next rs c.next c.equations sound (All-back _ (flat_map names c.interface) (flat_map pair_names c.equations) is.below))

pub fired_twice : (rs : List Rule) (c : Configuration) → AllByRecursion (HasSoundRule rs) c.equations → IsConfiguration c
    → (n : ℕ) → occurrences n (names_in (fired rs c).interface (fired rs c).equations) ≤ 2
fired_twice rs c sound is n =
    let out = flat_map pair_names (fired_from rs c.next c.equations) in
    let split = occurrences-append n (flat_map names c.interface) out in
    let whole = occurrences-append n (flat_map names c.interface) (flat_map pair_names c.equations) in
    elim (cases_lt n c.next) [
      | inl low ↦ let few = few_older rs n c.next c.equations sound low in let two = is.twice n in omega arith
      | inr high ↦ let few = few_fresh rs n c.next c.equations sound in let none = absent_above n c.next _ is.below high in omega arith
    ]
