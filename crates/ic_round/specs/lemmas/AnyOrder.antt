-- Results in any order fill the same gaps.
use Rattle.std.proofs.Common.{◌≡◌, ℕ, ◌+◌, ◌≤◌, ◌<◌, ◌==◌, ◌||◌, List, [], ◌∷◌, ◌++◌, Bool, true, false, not, Option, None, Some, Result, Ok, Err, map, cond, nat_lt, refl, sym, ap, ◌∙◌, arith}
use Rattle.std.proofs.lemmas.Bool.{or_parts}
use Rattle.std.proofs.lemmas.List.Sums.{sum_by-cons}
use Rattle.std.proofs.lemmas.List.Sorted.{sum_by-IsPermutation, All-permutation}
use Rattle.std.proofs.lemmas.List.Elements.{All-from_recursion, recursion_from_All, All-contains}
use Rattle.std.specs.List.Sorted.{IsPermutation}
use Rattle.std.specs.Cmp.{unsigned_Decides}
use Rattle.std.specs.List.{All, AllByRecursion, Contains, list_any}
use Rattle.std.specs.Option.{option_map_or}
use Rattle.ic_term.specs.Tree.{Pair}
use Rattle.ic_term.specs.Configuration.{Configuration}
use Rattle.ic_rules.specs.Rule.{Rule}
use Rattle.ic_round.specs.Firing.{Active, active_pair, products_by, names_taken, fired_from, fired}
use Rattle.ic_round.specs.Works.{PlainFired, result_of, work_at, works_from}
use Rattle.ic_round.specs.Gathering.{gap_at, gapped, gaps_from, results_for, products_for, filled_from, filled, is_lost, is_strange, gathered}
use Rattle.ic_round.specs.declared.gather_fault.GatherFault.{GatherFault}
use Rattle.ic_round.specs.declared.gather_fault.GatherFault.TheVariants.{Lost, Stranger}
use Rattle.ic_round.specs.lemmas.FreshNames.{apart_false}

-- ---- each element, by recursion and by place

pub each_permuted : {X : Type 0} (P : X → Type 0) (xs ys : List X) → IsPermutation xs ys → AllByRecursion P xs → AllByRecursion P ys
each_permuted P xs ys same each = recursion_from_All P ys (All-permutation P xs ys same (All-from_recursion P xs each))

each_mono : {X : Type 0} (P Q : X → Type 0) → ((x : X) → P x → Q x) → (xs : List X) → AllByRecursion P xs → AllByRecursion Q xs
each_mono P Q f [] all = tt
each_mono P Q f (x ∷ xs) all = (f x all.0, each_mono P Q f xs all.1)

each_both : {X : Type 0} (P Q : X → Type 0) (xs : List X) → AllByRecursion P xs → AllByRecursion Q xs → AllByRecursion (λ x. P x × Q x) xs
each_both P Q [] p q = tt
each_both P Q (x ∷ xs) p q = ((p.0, q.0), each_both P Q xs p.1 q.1)

-- ---- results at rising places

-- each place is above the one before, the first at least this
abbrev pub Rising : ℕ → List PlainFired → Type 0
Rising i [] = Unit {0}
Rising i (f ∷ fs) = (i ≤ f.place) × Rising (f.place + 1) fs

-- the two results are for one place only if they have the same products
abbrev Alike : PlainFired → PlainFired → Type 0
Alike f g = g.place ≡ f.place → g.products ≡ f.products

rising_low : (i : ℕ) (fs : List PlainFired) → Rising i fs → AllByRecursion (λ f. i ≤ f.place) fs
rising_low i [] r = tt
rising_low i (f ∷ fs) r = (r.0, each_mono (λ g. f.place + 1 ≤ g.place) (λ g. i ≤ g.place) (λ g h. let low = r.0 in omega arith) fs (rising_low (f.place + 1) fs r.1))

pub results-cons : (i : ℕ) (f : PlainFired) (fs : List PlainFired) → results_for i (f ∷ fs) ≡ cond (f.place == i) 1 0 + results_for i fs
results-cons i f fs = sum_by-cons (λ (g : PlainFired). cond (g.place == i) 1 0) f fs

none_at_low : (n i : ℕ) (fs : List PlainFired) → n < i → AllByRecursion (λ f. i ≤ f.place) fs → results_for n fs ≡ 0
none_at_low n i [] low all = refl
none_at_low n i (f ∷ fs) low all =
    let above = all.0 in
    let other = apart_false f.place n (λ e. omega arith) in
    rw (results-cons n f fs, other) (omega (arith, none_at_low n i fs low all.1))

one_at_each : (i : ℕ) (fs : List PlainFired) → Rising i fs → AllByRecursion (λ f. results_for f.place fs ≡ 1) fs
one_at_each i [] r = tt
one_at_each i (f ∷ fs) r =
    let later = rising_low (f.place + 1) fs r.1 in
    let none = none_at_low f.place (f.place + 1) fs (omega arith) later in
    let self = (unsigned_Decides f.place f.place).1 refl in (
      rw (results-cons f.place f fs, self) (omega arith),
      each_mono (λ g. (f.place + 1 ≤ g.place) × (results_for g.place fs ≡ 1)) (λ g. results_for g.place (f ∷ fs) ≡ 1)
          (λ g h. let low = h.0 in let one = h.1 in let other = apart_false f.place g.place (λ e. omega arith) in rw (results-cons g.place f fs, other) (omega arith))
          fs (each_both (λ g. f.place + 1 ≤ g.place) (λ g. results_for g.place fs ≡ 1) fs later (one_at_each (f.place + 1) fs r.1)),
    )

alike_each : (i : ℕ) (fs : List PlainFired) → Rising i fs → AllByRecursion (λ f. AllByRecursion (Alike f) fs) fs
alike_each i [] r = tt
alike_each i (f ∷ fs) r =
    let later = rising_low (f.place + 1) fs r.1 in (
      ((λ e. refl), each_mono (λ g. f.place + 1 ≤ g.place) (Alike f) (λ g low e. absurd (omega arith)) fs later),
      each_mono (λ g. (f.place + 1 ≤ g.place) × AllByRecursion (Alike g) fs) (λ g. AllByRecursion (Alike g) (f ∷ fs))
          (λ g h. ((λ e. let low = h.0 in absurd (omega arith)), h.1))
          fs (each_both (λ g. f.place + 1 ≤ g.place) (λ g. AllByRecursion (Alike g) fs) fs later (alike_each (f.place + 1) fs r.1)),
    )

among_places : (n : ℕ) (fs : List PlainFired) → AllByRecursion (λ f. list_any (λ i. f.place == i) (map (λ (g : PlainFired). g.place) fs) ≡ true) fs
among_places n [] = tt
among_places n (f ∷ fs) = (
  rw ((unsigned_Decides f.place f.place).1 refl) refl,
  each_mono (λ g. list_any (λ i. g.place == i) (map (λ (h : PlainFired). h.place) fs) ≡ true) (λ g. list_any (λ i. g.place == i) (map (λ (h : PlainFired). h.place) (f ∷ fs)) ≡ true)
      (λ g h. or_true (g.place == f.place) _ h) fs (among_places n fs),
)
  where
    or_true : (a b : Bool) → b ≡ true → (a || b) ≡ true
    or_true true b e = refl
    or_true false b e = e

-- ---- the products for a place that has just one result

pub products_one : (n : ℕ) (ps : List Pair) (fs : List PlainFired) → results_for n fs ≡ 1 → AllByRecursion (λ f. f.place ≡ n → f.products ≡ ps) fs → products_for n fs ≡ ps
products_one n ps [] one each = absurd (omega arith)
products_one n ps (f ∷ fs) one each = at (f.place == n) refl (λ e. products_one n ps fs e each.1)
  where
    at : (b : Bool) → (f.place == n) ≡ b → (results_for n fs ≡ 1 → products_for n fs ≡ ps) → products_for n (f ∷ fs) ≡ ps
    at true h rest = let here = each.0 ((unsigned_Decides f.place n).0 h) in rw h here
    at false h rest = let count = rw (results-cons n f fs, h) at one in rw h (rest (omega arith))

-- ---- results in any order

-- What is known of results that are those of works, in any order.
pub record Complete (works fs : List PlainFired) : Type 0 where
  pub products : AllByRecursion (λ f. products_for f.place fs ≡ f.products) works
  pub counted : AllByRecursion (λ f. results_for f.place fs ≡ 1) works
  pub known : AllByRecursion (λ f. (list_any (λ i. f.place == i) (map (λ (g : PlainFired). g.place) works) ≡ true) × (results_for f.place fs ≡ 1)) fs

pub complete : (works fs : List PlainFired) → Rising 0 works → IsPermutation works fs → Complete works fs
complete works fs rising same =
    let total : (n : ℕ) → results_for n fs ≡ results_for n works = λ n. sum_by-IsPermutation (λ (f : PlainFired). cond (f.place == n) 1 0) works fs same in
    let once = one_at_each 0 works rising in
    let alike = alike_each 0 works rising in
    record {
      counted = each_mono (λ f. results_for f.place works ≡ 1) (λ f. results_for f.place fs ≡ 1) (λ f e. total f.place ∙ e) works once;
      products = each_mono (λ f. (results_for f.place works ≡ 1) × AllByRecursion (Alike f) works) (λ f. products_for f.place fs ≡ f.products)
          (λ f h. products_one f.place f.products fs (total f.place ∙ h.0) (each_permuted (Alike f) works fs same h.1)) works
          (each_both (λ f. results_for f.place works ≡ 1) (λ f. AllByRecursion (Alike f) works) works once alike);
      known = each_permuted _ works fs same (each_mono
          (λ f. (list_any (λ i. f.place == i) (map (λ (g : PlainFired). g.place) works) ≡ true) × (results_for f.place works ≡ 1))
          (λ f. (list_any (λ i. f.place == i) (map (λ (g : PlainFired). g.place) works) ≡ true) × (results_for f.place fs ≡ 1))
          (λ f h. (h.0, total f.place ∙ h.1)) works
          (each_both (λ f. list_any (λ i. f.place == i) (map (λ (g : PlainFired). g.place) works) ≡ true) (λ f. results_for f.place works ≡ 1) works (among_places 0 works) once));
    }

not_lost : (works fs : List PlainFired) → AllByRecursion (λ f. results_for f.place fs ≡ 1) works → is_lost (map (λ (g : PlainFired). g.place) works) fs ≡ false
not_lost [] fs counted = refl
not_lost (w ∷ works) fs counted = let one = counted.0 in rw one (not_lost works fs counted.1)

not_strange : (gaps : List ℕ) (all fs : List PlainFired) → AllByRecursion (λ f. (list_any (λ i. f.place == i) gaps ≡ true) × (results_for f.place all ≡ 1)) fs
    → list_any (λ (f : PlainFired). not (list_any (λ i. f.place == i) gaps) || nat_lt 1 (results_for f.place all)) fs ≡ false
not_strange gaps all [] known = refl
not_strange gaps all (f ∷ fs) known = let there = known.0.0 in let one = known.0.1 in rw (there, one) (not_strange gaps all fs known.1)

-- ---- the works of a list of equations

abbrev results : List Rule → ℕ → ℕ → List Pair → List PlainFired
results rs i base ps = map (result_of rs) (works_from rs i base ps)

rising_wider : (i j : ℕ) (fs : List PlainFired) → i ≤ j → Rising j fs → Rising i fs
rising_wider i j [] low r = tt
rising_wider i j (f ∷ fs) low r = (let h = r.0 in omega arith, r.1)

pub works_rise : (rs : List Rule) (i base : ℕ) (ps : List Pair) → Rising i (results rs i base ps)
works_rise rs i base [] = tt
works_rise rs i base (p ∷ ps) = at (active_pair rs p) (works_rise rs (i + 1) (base + names_taken rs p) ps)
  where
    at : (found : Option Active) → Rising (i + 1) (results rs (i + 1) (base + names_taken rs p) ps)
        → Rising i (map (result_of rs) (option_map_or (λ a. work_at i base a ∷ works_from rs (i + 1) (base + names_taken rs p) ps) found (works_from rs (i + 1) (base + names_taken rs p) ps)))
    at None rest = rising_wider i (i + 1) _ (omega arith) rest
    at (Some a) rest = (omega arith, rest)

pub gaps_of_works : (rs : List Rule) (i base : ℕ) (ps : List Pair) → gaps_from i (map (gap_at rs) ps) ≡ map (λ (f : PlainFired). f.place) (results rs i base ps)
gaps_of_works rs i base [] = refl
gaps_of_works rs i base (p ∷ ps) = at (active_pair rs p) (gaps_of_works rs (i + 1) (base + names_taken rs p) ps)
  where
    at : (found : Option Active) → gaps_from (i + 1) (map (gap_at rs) ps) ≡ map (λ (f : PlainFired). f.place) (results rs (i + 1) (base + names_taken rs p) ps)
        → gaps_from i (option_map_or (λ a. None) found (Some p) ∷ map (gap_at rs) ps)
        ≡ map (λ (f : PlainFired). f.place) (map (result_of rs) (option_map_or (λ a. work_at i base a ∷ works_from rs (i + 1) (base + names_taken rs p) ps) found (works_from rs (i + 1) (base + names_taken rs p) ps)))
    at None rest = rest
    at (Some a) rest = ap (λ l. i ∷ l) rest

pub filled_works : (rs : List Rule) (fs : List PlainFired) (i base : ℕ) (ps : List Pair) → AllByRecursion (λ f. products_for f.place fs ≡ f.products) (results rs i base ps)
    → filled_from i (map (gap_at rs) ps) fs ≡ fired_from rs base ps
filled_works rs fs i base [] each = refl
filled_works rs fs i base (p ∷ ps) each = at (active_pair rs p) each (filled_works rs fs (i + 1) (base + names_taken rs p) ps)
  where
    at : (found : Option Active)
        → AllByRecursion (λ f. products_for f.place fs ≡ f.products) (map (result_of rs) (option_map_or (λ a. work_at i base a ∷ works_from rs (i + 1) (base + names_taken rs p) ps) found (works_from rs (i + 1) (base + names_taken rs p) ps)))
        → (AllByRecursion (λ f. products_for f.place fs ≡ f.products) (results rs (i + 1) (base + names_taken rs p) ps) → filled_from (i + 1) (map (gap_at rs) ps) fs ≡ fired_from rs (base + names_taken rs p) ps)
        → filled_from i (option_map_or (λ a. None) found (Some p) ∷ map (gap_at rs) ps) fs
        ≡ option_map_or (products_by rs base) found (p ∷ []) ++ fired_from rs (base + names_taken rs p) ps
    at None each rest = ap (λ l. p ∷ l) (rest each)
    at (Some a) each rest = λ j. each.0 j ++ rest each.1 j

-- The results of a configuration's works, in any order, fill its gaps to the fired configuration.
pub any_order : (rs : List Rule) (c : Configuration) (fs : List PlainFired) → IsPermutation (map (result_of rs) (works_from rs 0 c.next c.equations)) fs
    → gathered (gapped rs c) fs ≡ Ok (fired rs c)
any_order rs c fs same =
    let works = results rs 0 c.next c.equations in
    let all = complete works fs (works_rise rs 0 c.next c.equations) same in
    let gaps = gaps_of_works rs 0 c.next c.equations in
    let lost = ap (λ l. is_lost l fs) gaps ∙ not_lost works fs all.counted in
    let strange = ap (λ l. is_strange l fs) gaps ∙ not_strange (map (λ (g : PlainFired). g.place) works) fs fs all.known in
    let equations = filled_works rs fs 0 c.next c.equations all.products in
    rw (lost, strange) (ap (λ (es : List Pair). let d : Configuration = record { interface = c.interface; equations = es; next = (fired rs c).next } in Ok d) equations)

-- ---- any results of the works

each_contained : {X : Type 0} (P : X → Type 0) (xs ys : List X) → AllByRecursion P xs → All (Contains xs) ys → AllByRecursion P ys
each_contained P xs ys all known = recursion_from_All P ys (λ k d within. All-contains P xs _ (All-from_recursion P xs all) (known k d within))

-- the products for a place that has a result
products_some : (n : ℕ) (ps : List Pair) (fs : List PlainFired) → (results_for n fs == 0) ≡ false → AllByRecursion (λ f. f.place ≡ n → f.products ≡ ps) fs → products_for n fs ≡ ps
products_some n ps [] some each = cc
products_some n ps (f ∷ fs) some each = at (f.place == n) refl (λ e. products_some n ps fs e each.1)
  where
    at : (b : Bool) → (f.place == n) ≡ b → ((results_for n fs == 0) ≡ false → products_for n fs ≡ ps) → products_for n (f ∷ fs) ≡ ps
    at true h rest = let here = each.0 ((unsigned_Decides f.place n).0 h) in rw h here
    at false h rest =
        let fewer : results_for n (f ∷ fs) ≡ results_for n fs = rw (results-cons n f fs, h) (omega arith) in
        rw h (rest (ap (λ k. k == 0) (sym fewer) ∙ some))

none_lost : (works fs : List PlainFired) → is_lost (map (λ (g : PlainFired). g.place) works) fs ≡ false → AllByRecursion (λ f. (results_for f.place fs == 0) ≡ false) works
none_lost [] fs e = tt
none_lost (w ∷ works) fs e =
    let both = or_parts (results_for w.place fs == 0) (is_lost (map (λ (g : PlainFired). g.place) works) fs) e in
    (both.0, none_lost works fs both.1)

ok_parts : (lost strange : Bool) (e d : Configuration) → cond {A = Result Configuration GatherFault} lost (Err Lost) (cond strange (Err Stranger) (Ok e)) ≡ Ok d → (lost ≡ false) × (e ≡ d)
ok_parts true strange e d h = cc
ok_parts false true e d h = cc
ok_parts false false e d h = (refl, cc)

-- where results of the works, whichever they are, fill all gaps, they fill them to the fired
-- configuration
pub any_results : (rs : List Rule) (c : Configuration) (fs : List PlainFired) (d : Configuration) → All (Contains (map (result_of rs) (works_from rs 0 c.next c.equations))) fs
    → gathered (gapped rs c) fs ≡ Ok d → d ≡ fired rs c
any_results rs c fs d known full =
    let works = results rs 0 c.next c.equations in
    let gaps = gaps_from 0 (gapped rs c).equations in
    let parts = ok_parts (is_lost gaps fs) (is_strange gaps fs) (filled (gapped rs c) fs) d full in
    let some = none_lost works fs (ap (λ l. is_lost l fs) (sym (gaps_of_works rs 0 c.next c.equations)) ∙ parts.0) in
    let alike = alike_each 0 works (works_rise rs 0 c.next c.equations) in
    let products = each_mono (λ f. ((results_for f.place fs == 0) ≡ false) × AllByRecursion (Alike f) works) (λ f. products_for f.place fs ≡ f.products)
    (λ f h. products_some f.place f.products fs h.0 (each_contained (Alike f) works fs h.1 known)) works
    (each_both (λ f. (results_for f.place fs == 0) ≡ false) (λ f. AllByRecursion (Alike f) works) works some alike) in
    let equations = filled_works rs fs 0 c.next c.equations products in
    sym parts.1 ∙ (λ j. record { interface = c.interface; equations = equations j; next = (fired rs c).next })
