-- Lemmas: what a machine counts of plans is what they fired, round by round.
use Rattle.std.proofs.Common.{◌≡◌, ℕ, zero, suc, ◌+◌, ◌*◌, ◌<◌, ◌≤◌, ◌==◌, List, [], ◌∷◌, ◌++◌, Some, cond, ne_eqb, eq-eqb, length, map, count_by, sum_by, slice_get, slice_index_or, refl, sym, ap, ◌∙◌, add-zero, zero-add, arith, subst as transport}
use Rattle.std.specs.List.{AllByRecursion}
use Rattle.std.proofs.lemmas.List.{length-append, length-map}
use Rattle.std.proofs.lemmas.List.Sums.{sum_by-append, sum_by-cons}
use Rattle.std.specs.Prelude.{IsTrue}
use Rattle.ic_term.specs.Configuration.{Configuration}
use Rattle.ic_term.specs.Symbol.{is_over}
use Rattle.ic_rules.specs.RuleSet.{Rules, IsRuleSet}
use Rattle.ic_round.specs.Naming.{HasNames}
use Rattle.ic_round.specs.Rounds.{iterate}
use Rattle.ic_generations.specs.Figures.{amount, amount_made, amount_spent}
use Rattle.ic_arena.specs.Piece.{Piece}
use Rattle.ic_machine.specs.declared.equation.Equation.{Equation}
use Rattle.ic_machine.specs.declared.generation.Generation.{Generation}
use Rattle.ic_machine.specs.Generations.{Takes, ended, fires, stays}
use Rattle.ic_machine.specs.Net.{Net}
use Rattle.ic_machine.specs.Plan.{Plans}
use Rattle.ic_machine.specs.lemmas.FiringKeeps.{all_append}
use Rattle.ic_meaning.specs.Generations.{FireAsRounds}
use Rattle.ic_meaning.specs.InPlace.{AreRounds, begun, goes_on, put_through, next_round}
use Rattle.ic_meaning.specs.Plans.{rule_number}
use Rattle.ic_in_place.specs.Amounts.{by_counts}
use Rattle.ic_in_place.specs.Rounds.{AreOver, AreTold, none_told, none_yet, one_told, some}
use Rattle.ic_in_place.specs.Told.{RoundOver}
use Rattle.ic_in_place.proofs.Amounts.{AmountLaws, amounts_after}
use Rattle.ic_in_place.proofs.RoundsTold.{last_fires}

-- ---- sums over plans

module _ (g : ℕ → ℕ) (numbers : List ℕ) where
  abbrev worth : ℕ → ℕ
  worth k = g (rule_number numbers k)

  -- the same by a function in place of a list
  abbrev weight : ℕ → (ℕ → ℕ) → ℕ → ℕ
  weight zero f k = 0
  weight (suc n) f k = f k * worth k + weight n f (k + 1)

  abbrev unit : ℕ → ℕ → ℕ
  unit j i = cond (j == i) 1 0

  times : (m n k : ℕ) → (m + n) * k ≡ m * k + n * k
  times m n k = omega arith

  once : (k : ℕ) → 1 * k ≡ k
  once k = omega arith

  never : (k : ℕ) → 0 * k ≡ 0
  never k = omega arith

  weight_plus : (n : ℕ) (f h : ℕ → ℕ) (k : ℕ) → weight n (λ i. f i + h i) k ≡ weight n f k + weight n h k
  weight_plus zero f h k = refl
  weight_plus (suc n) f h k =
      let here = times (f k) (h k) (worth k) in
      let rest = weight_plus n f h (k + 1) in
      omega (arith, here, rest)

  weight_none : (n k : ℕ) → weight n (λ i. 0) k ≡ 0
  weight_none zero k = refl
  weight_none (suc n) k = let here = never (worth k) in let rest = weight_none n (k + 1) in omega (arith, here, rest)

  weight_same : (n : ℕ) (f h : ℕ → ℕ) (k : ℕ) → ((i : ℕ) → k ≤ i → i < k + n → f i ≡ h i) → weight n f k ≡ weight n h k
  weight_same zero f h k same = refl
  weight_same (suc n) f h k same =
      let here = ap (λ (x : ℕ). x * worth k) (same k (omega arith) (omega arith)) in
      let rest = weight_same n f h (k + 1) (λ i low high. same i (omega (arith, low)) (omega (arith, high))) in
      λ i. here i + rest i

  unit_other : (j i : ℕ) → ¬ (j ≡ i) → unit j i ≡ 0
  unit_other j i apart = ap (λ b. cond b 1 0) (ne_eqb j i apart)

  unit_same : (j : ℕ) → unit j j ≡ 1
  unit_same j = ap (λ b. cond b 1 0) (eq-eqb j j refl)

  weight_past : (n j k : ℕ) → j < k → weight n (unit j) k ≡ 0
  weight_past zero j k low = refl
  weight_past (suc n) j k low =
      let here = ap (λ (x : ℕ). x * worth k) (unit_other j k (λ e. omega (arith, e, low))) in
      let none = never (worth k) in
      let rest = weight_past n j (k + 1) (omega (arith, low)) in
      omega (arith, here, none, rest)

  weight_one : (n d k : ℕ) → d < n → weight n (unit (k + d)) k ≡ worth (k + d)
  weight_one zero d k low = absurd (omega (arith, low))
  weight_one (suc n) zero k low =
      let here = ap (λ (x : ℕ). x * worth k) (unit_same k) in
      let one = once (worth k) in
      let rest = weight_past n k (k + 1) (omega arith) in
      let whole : weight (suc n) (unit k) k ≡ worth k = omega (arith, here, one, rest) in
      ap (λ (j : ℕ). weight (suc n) (unit j) k) (add-zero k) ∙ (whole ∙ ap worth (sym (add-zero k)))
  weight_one (suc n) (suc d) k low =
      let here = ap (λ (x : ℕ). x * worth k) (unit_other (k + suc d) k (λ e. omega (arith, e))) in
      let none = never (worth k) in
      let moved : k + suc d ≡ (k + 1) + d = omega arith in
      let rest = ap (λ (j : ℕ). weight n (unit j) (k + 1)) moved ∙ (weight_one n d (k + 1) (omega (arith, low)) ∙ ap worth (sym moved)) in
      omega (arith, here, none, rest)

  -- what some plans fired
  weight_fired : (n : ℕ) (fired : List ℕ) → AllByRecursion (λ i. i < n) fired
      → weight n (λ i. count_by (λ j. j == i) fired) 0 ≡ sum_by g (map (rule_number numbers) fired)
  weight_fired n [] all = weight_none n 0
  weight_fired n (j ∷ js) all =
      let split : weight n (λ i. count_by (λ m. m == i) (j ∷ js)) 0 ≡ weight n (λ i. unit j i + count_by (λ m. m == i) js) 0 =
      weight_same n (λ i. count_by (λ m. m == i) (j ∷ js)) (λ i. unit j i + count_by (λ m. m == i) js) 0 (λ i low high. sum_by-cons (λ m. cond (m == i) 1 0) j js) in
      let parts = weight_plus n (unit j) (λ i. count_by (λ m. m == i) js) 0 in
      let one : weight n (unit j) 0 ≡ worth j = ap (λ (i : ℕ). weight n (unit i) 0) (sym (zero-add j)) ∙ (weight_one n j 0 all.0 ∙ ap worth (zero-add j)) in
      let rest = weight_fired n js all.1 in
      let told = sum_by-cons g (rule_number numbers j) (map (rule_number numbers) js) in
      omega (arith, split, parts, one, rest, told)

  weight_made : (n : ℕ) (made : List (List ℕ)) → AllByRecursion (λ fired. AllByRecursion (λ i. i < n) fired) made
      → weight n (λ i. sum_by (λ fired. count_by (λ j. j == i) fired) made) 0 ≡ sum_by (λ fired. sum_by g (map (rule_number numbers) fired)) made
  weight_made n [] all = weight_none n 0
  weight_made n (fired ∷ made) all =
      let split : weight n (λ i. sum_by (λ is. count_by (λ j. j == i) is) (fired ∷ made)) 0
      ≡ weight n (λ i. count_by (λ j. j == i) fired + sum_by (λ is. count_by (λ j. j == i) is) made) 0 =
      weight_same n (λ i. sum_by (λ is. count_by (λ j. j == i) is) (fired ∷ made)) (λ i. count_by (λ j. j == i) fired + sum_by (λ is. count_by (λ j. j == i) is) made) 0
      (λ i low high. sum_by-cons (λ is. count_by (λ j. j == i) is) fired made) in
      let parts = weight_plus n (λ i. count_by (λ j. j == i) fired) (λ i. sum_by (λ is. count_by (λ j. j == i) is) made) 0 in
      let here = weight_fired n fired all.0 in
      let rest = weight_made n made all.1 in
      let told = sum_by-cons (λ is. sum_by g (map (rule_number numbers) is)) fired made in
      omega (arith, split, parts, here, rest, told)

  from_weight : (counts : List ℕ) (f : ℕ → ℕ) (k : ℕ) → ((i : ℕ) → i < length counts → slice_index_or counts i 0 ≡ f (k + i)) → by_counts g numbers counts k ≡ weight (length counts) f k
  from_weight [] f k same = refl
  from_weight (n ∷ counts) f k same =
      let here : n ≡ f k = same 0 (omega arith) ∙ ap f (add-zero k) in
      let first = ap (λ (x : ℕ). x * worth k) here in
      let rest = from_weight counts f (k + 1) (λ i low. same (suc i) (omega (arith, low)) ∙ ap f (omega arith)) in
      λ i. first i + rest i

-- ---- what fires has a plan

get_below : {X : Type 0} (xs : List X) (i : ℕ) (x : X) → slice_get xs i ≡ Some x → i < length xs
get_below [] i x h = absurd (cc h)
get_below (y ∷ xs) zero x h = omega arith
get_below (y ∷ xs) (suc i) x h = let rest = get_below xs i x h in omega (arith, rest)

takes_within : (p : Plans) (now left : List Equation) (is : List ℕ) (xs ys : List Piece) → Takes p now left is xs ys → AllByRecursion (λ i. i < length p.plans) is
takes_within p _ _ _ _ _ (ended now left xs ys order t) = tt
takes_within p _ _ _ _ _ (fires e now es left i is xs before after ys order t f r) =
    (get_below p.plans i f.fires.plan f.fires.has_plan, takes_within p es left is after ys r)
takes_within p _ _ _ _ _ (stays e now es left is xs before ys order t stuck r) = takes_within p es left is (_) ys r

-- ---- counts

abbrev AreBelow : Plans → List ℕ → Type 0
AreBelow p fired = AllByRecursion (λ i. i < length p.plans) fired

-- what is counted of each plan, and that each that fired is counted
record AreCounted (p : Plans) (first m : Net) (over : List (List ℕ)) (now : List ℕ) : Type 0 where
  len : length m.counts ≡ length first.counts
  each : (i : ℕ) → i < length first.counts
      → slice_index_or m.counts i 0 ≡ slice_index_or first.counts i 0 + (sum_by (λ fired. count_by (λ j. j == i) fired) over + count_by (λ j. j == i) now)
  over_below : AllByRecursion (AreBelow p) over
  now_below : AreBelow p now

counted : (p : Plans) (first : Net) (pairs : ℕ) (over : List (List ℕ)) (now : List ℕ) (g : Generation) (m : Net) → AreRounds p first pairs over now g m → AreCounted p first m over now
counted p first pairs over now g m begun = record { len = refl; each = λ i low. omega arith; over_below = tt; now_below = tt }
counted p first pairs over now g m (goes_on over' before g' h old new so_far a) =
    let rest = counted p first pairs over' before g' old so_far in
    let len = a.ran.counts.all in
    record {
      len = len ∙ rest.len;
      each = λ i low.
          let here = rest.each i low in
          let more = a.ran.counts.each i (omega (arith, low, rest.len)) in
          let all = sum_by-append (λ j. cond (j == i) 1 0) before a.ran.fired in
          omega (arith, here, more, all);
      over_below = rest.over_below;
      now_below = all_append (λ i. i < length p.plans) before a.ran.fired rest.now_below (takes_within p _ _ a.ran.fired _ _ a.takes);
    }
counted p first pairs over now g m (put_through over' now' g' old new so_far same steps) =
    let rest = counted p first pairs over' now' g' old so_far in
    transport (λ (z : Net). AreCounted p first z over' now') (sym same) (record { len = rest.len; each = rest.each; over_below = rest.over_below; now_below = rest.now_below })
counted p first pairs over now g m (next_round over' now' g' m' so_far done at) =
    let rest = counted p first pairs over' now' g' m' so_far in
    record {
      len = rest.len;
      each = λ i low.
          let here = rest.each i low in
          let all = sum_by-append (λ fired. count_by (λ j. j == i) fired) over' (now' ∷ []) in
          let one = sum_by-cons (λ fired. count_by (λ j. j == i) fired) now' [] in
          let none : sum_by (λ (fired : List ℕ). count_by (λ j. j == i) fired) [] ≡ 0 = refl in
          let zero : count_by (λ j. j == i) [] ≡ 0 = refl in
          omega (arith, here, all, one, none, zero);
      over_below = all_append (AreBelow p) over' (now' ∷ []) rest.over_below (rest.now_below, tt);
      now_below = tt;
    }

no_count : {X : Type 0} (xs : List X) (i : ℕ) → ◌≡◌ {A = ℕ} (slice_index_or (map (λ x. 0) xs) i 0) 0
no_count [] i = refl
no_count (x ∷ xs) zero = refl
no_count (x ∷ xs) (suc i) = no_count xs i

-- what was counted as rounds are over is what they fired
over_by_counts : (p : Plans) (first : Net) (pairs : ℕ) (g : ℕ → ℕ) (numbers : List ℕ) → first.counts ≡ map (λ plan. 0) p.plans → (made : List (List ℕ)) (m : Net) → AreOver p first pairs made m
    → by_counts g numbers m.counts 0 ≡ sum_by (λ fired. sum_by g (map (rule_number numbers) fired)) made
over_by_counts p first pairs g numbers none made m none_yet =
    ap (λ (l : List ℕ). by_counts g numbers l 0) none
    ∙ (from_weight g numbers (map (λ plan. 0) p.plans) (λ i. 0) 0 (λ i low. no_count p.plans i) ∙ weight_none g numbers (length (map (λ plan. 0) p.plans)) 0)
over_by_counts p first pairs g numbers none made m (some over now h last so_far done) =
    let c = counted p first pairs over now h last so_far in
    let len : length last.counts ≡ length p.plans = c.len ∙ (ap (length {A = ℕ}) none ∙ length-map p.plans (λ plan. 0)) in
    let all : List (List ℕ) = over ++ now ∷ [] in
    let f : ℕ → ℕ = λ i. sum_by (λ fired. count_by (λ j. j == i) fired) all in
    let each : (i : ℕ) → i < length last.counts → slice_index_or last.counts i 0 ≡ f (0 + i) = λ i low.
    let here = c.each i (omega (arith, low, c.len)) in
    let zero_first : slice_index_or first.counts i 0 ≡ 0 = ap (λ (l : List ℕ). slice_index_or l i 0) none ∙ no_count p.plans i in
    let both = sum_by-append (λ fired. count_by (λ j. j == i) fired) over (now ∷ []) in
    let one = sum_by-cons (λ fired. count_by (λ j. j == i) fired) now [] in
    let nothing : sum_by (λ (fired : List ℕ). count_by (λ j. j == i) fired) [] ≡ 0 = refl in
    let told : slice_index_or last.counts i 0 ≡ f i = omega (arith, here, zero_first, both, one, nothing) in
    told ∙ ap f (sym (zero-add i)) in
    let below = all_append (AreBelow p) over (now ∷ []) c.over_below (c.now_below, tt) in
    from_weight g numbers last.counts f 0 each
    ∙ (ap (λ (n : ℕ). weight g numbers n f 0) len ∙ weight_made g numbers (length p.plans) all below)

over_len : (p : Plans) (first : Net) (pairs : ℕ) (made : List (List ℕ)) (m : Net) → AreOver p first pairs made m → length m.counts ≡ length first.counts
over_len p first pairs made m none_yet = refl
over_len p first pairs made m (some over now h last so_far done) = (counted p first pairs over now h last so_far).len

-- there is a count for each plan
pub each_counted : (p : Plans) (first : Net) (pairs : ℕ) (numbers : List ℕ) → first.counts ≡ map (λ plan. 0) p.plans → length numbers ≡ length p.plans
    → (made : List (List ℕ)) (told : List RoundOver) → AreTold p first pairs made told → AllByRecursion (λ o. length o.net.counts ≡ length numbers) told
each_counted p first pairs numbers none numbered made told none_told = tt
each_counted p first pairs numbers none numbered made told (one_told over fired so_far m are done between) =
    let rest = each_counted p first pairs numbers none numbered over so_far are in
    let o : RoundOver = record { round = length over + 1; pairs = length fired; net = m } in
    let here : length m.counts ≡ length numbers =
    over_len p first pairs (over ++ fired ∷ []) m done ∙ (ap (length {A = ℕ}) none ∙ (length-map p.plans (λ plan. 0) ∙ sym numbered)) in
    all_append (λ (x : RoundOver). length x.net.counts ≡ length numbers) so_far (o ∷ []) rest (here, tt)

-- what is told of rounds, by what their nets count
pub told_by_counts : AmountLaws → (p : Plans) (first : Net) (pairs : ℕ) (f : ℕ → ℕ) (rs : Rules) (numbers : List ℕ) (c : Configuration) → IsRuleSet rs → IsTrue (is_over rs.symbols c) → HasNames c
    → first.counts ≡ map (λ plan. 0) p.plans → (made : List (List ℕ)) (told : List RoundOver) → AreTold p first pairs made told → FireAsRounds rs.rules numbers made c
    → AllByRecursion (λ o. amount f (iterate rs.rules o.round c) + by_counts (amount_spent f rs.rules) numbers o.net.counts 0
    ≡ amount f c + by_counts (amount_made f rs.rules) numbers o.net.counts 0) told
told_by_counts laws p first pairs f rs numbers c set over_symbols named none made told none_told fire = tt
told_by_counts laws p first pairs f rs numbers c set over_symbols named none made told (one_told over fired so_far m are done between) fire =
    let last = last_fires rs.rules numbers over fired c fire in
    let rest = told_by_counts laws p first pairs f rs numbers c set over_symbols named none over so_far are last.0 in
    let o : RoundOver = record { round = length over + 1; pairs = length fired; net = m } in
    let all : List (List ℕ) = over ++ fired ∷ [] in
    let many : length all ≡ length over + 1 = length-append over (fired ∷ []) in
    let amounts = amounts_after laws f rs numbers all c set over_symbols named fire in
    let same = ap (λ (k : ℕ). amount f (iterate rs.rules k c)) many in
    let spent = over_by_counts p first pairs (amount_spent f rs.rules) numbers none all m done in
    let more = over_by_counts p first pairs (amount_made f rs.rules) numbers none all m done in
    all_append (λ (x : RoundOver). amount f (iterate rs.rules x.round c) + by_counts (amount_spent f rs.rules) numbers x.net.counts 0
    ≡ amount f c + by_counts (amount_made f rs.rules) numbers x.net.counts 0) so_far (o ∷ []) rest (omega (arith, amounts, same, spent, more), tt)
