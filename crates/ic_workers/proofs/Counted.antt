-- Lemmas: how often the rules of plans fired.
use Rattle.std.proofs.Common.{◌≡◌, ℕ, zero, suc, ◌+◌, ◌<◌, ◌≤◌, ◌==◌, List, [], ◌∷◌, Bool, true, false, cond, ne_eqb, eq-eqb, length, map, count_by, slice_index_or, refl, sym, ap, ◌∙◌, add-zero, zero-add, arith}
use Rattle.std.specs.List.{AllByRecursion}
use Rattle.std.proofs.lemmas.List.Sums.{sum_by-cons}
use Rattle.ic_in_place.specs.Summing.{sum_from}

-- the same by a function in place of a list
abbrev over : ℕ → List ℕ → (ℕ → ℕ) → ℕ → ℕ
over r [] f k = 0
over r (n ∷ ns) f k = cond (n == r) (f k) 0 + over r ns f (k + 1)

chosen_plus : (b : Bool) (x y : ℕ) → cond b (x + y) 0 ≡ cond b x 0 + cond b y 0
chosen_plus true x y = refl
chosen_plus false x y = refl

chosen_none : (b : Bool) → cond {A = ℕ} b 0 0 ≡ 0
chosen_none true = refl
chosen_none false = refl

over_plus : (r : ℕ) (ns : List ℕ) (f g : ℕ → ℕ) (k : ℕ) → over r ns (λ i. f i + g i) k ≡ over r ns f k + over r ns g k
over_plus r [] f g k = refl
over_plus r (n ∷ ns) f g k = let here = chosen_plus (n == r) (f k) (g k) in let there = over_plus r ns f g (k + 1) in omega (arith, here, there)

over_none : (r : ℕ) (ns : List ℕ) (k : ℕ) → over r ns (λ i. 0) k ≡ 0
over_none r [] k = refl
over_none r (n ∷ ns) k = let here = chosen_none (n == r) in let there = over_none r ns (k + 1) in omega (arith, here, there)

over_same : (r : ℕ) (ns : List ℕ) (f g : ℕ → ℕ) (k : ℕ) → ((i : ℕ) → k ≤ i → i < k + length ns → f i ≡ g i) → over r ns f k ≡ over r ns g k
over_same r [] f g k same = refl
over_same r (n ∷ ns) f g k same =
    let here = ap (λ v. cond (n == r) v 0) (same k (omega arith) (omega arith)) in
    let there = over_same r ns f g (k + 1) (λ i low high. same i (omega (arith, low)) (omega (arith, high))) in
    omega (arith, here, there)

-- of one plan that has fired
abbrev unit : ℕ → ℕ → ℕ
unit j i = cond (j == i) 1 0

unit_other : (j i : ℕ) → ¬ (j ≡ i) → unit j i ≡ 0
unit_other j i apart = ap (λ b. cond b 1 0) (ne_eqb j i apart)

unit_same : (j : ℕ) → unit j j ≡ 1
unit_same j = ap (λ b. cond b 1 0) (eq-eqb j j refl)

over_past : (r : ℕ) (ns : List ℕ) (j k : ℕ) → j < k → over r ns (unit j) k ≡ 0
over_past r [] j k low = refl
over_past r (n ∷ ns) j k low =
    let here : unit j k ≡ 0 = unit_other j k (λ e. omega (arith, e, low)) in
    let there = over_past r ns j (k + 1) (omega (arith, low)) in
    let none = chosen_none (n == r) in
    let all = ap (λ v. cond (n == r) v 0) here in
    omega (arith, there, none, all)

over_one : (r : ℕ) (ns : List ℕ) (d k : ℕ) → d < length ns → over r ns (unit (k + d)) k ≡ unit (slice_index_or ns d 0) r
over_one r [] d k low = absurd (omega (arith, low))
over_one r (n ∷ ns) zero k low =
    let here : cond (n == r) (unit k k) 0 ≡ unit n r = ap (λ v. cond (n == r) v 0) (unit_same k) in
    let there : over r ns (unit k) (k + 1) ≡ 0 = over_past r ns k (k + 1) (omega arith) in
    let whole : over r (n ∷ ns) (unit k) k ≡ unit n r = omega (arith, here, there) in
    ap (λ j. over r (n ∷ ns) (unit j) k) (add-zero k) ∙ whole
over_one r (n ∷ ns) (suc d) k low =
    let other : unit (k + suc d) k ≡ 0 = unit_other (k + suc d) k (λ e. omega (arith, e)) in
    let here = ap (λ v. cond (n == r) v 0) other in
    let none = chosen_none (n == r) in
    let moved : k + suc d ≡ (k + 1) + d = omega arith in
    let there = ap (λ j. over r ns (unit j) (k + 1)) moved ∙ over_one r ns d (k + 1) (omega (arith, low)) in
    omega (arith, here, none, there)

-- how often plans of a rule fired is how often that rule did
fired_over : (r : ℕ) (ns fired : List ℕ) → AllByRecursion (λ i. i < length ns) fired
    → over r ns (λ i. count_by (λ j. j == i) fired) 0 ≡ count_by (λ j. j == r) (map (λ i. slice_index_or ns i 0) fired)
fired_over r ns [] all = over_none r ns 0
fired_over r ns (j ∷ js) all =
    let split : over r ns (λ i. count_by (λ m. m == i) (j ∷ js)) 0 ≡ over r ns (λ i. unit j i + count_by (λ m. m == i) js) 0 =
    over_same r ns (λ i. count_by (λ m. m == i) (j ∷ js)) (λ i. unit j i + count_by (λ m. m == i) js) 0
    (λ i low high. sum_by-cons (λ m. cond (m == i) 1 0) j js) in
    let parts : over r ns (λ i. unit j i + count_by (λ m. m == i) js) 0 ≡ over r ns (unit j) 0 + over r ns (λ i. count_by (λ m. m == i) js) 0 =
    over_plus r ns (unit j) (λ i. count_by (λ m. m == i) js) 0 in
    let one : over r ns (unit j) 0 ≡ unit (slice_index_or ns j 0) r = ap (λ i. over r ns (unit i) 0) (sym (zero-add j)) ∙ over_one r ns j 0 all.0 in
    let rest = fired_over r ns js all.1 in
    let first : ℕ = slice_index_or ns j 0 in
    let others : List ℕ = map (λ i. slice_index_or ns i 0) js in
    let told : count_by (λ m. m == r) (first ∷ others) ≡ unit first r + count_by (λ m. m == r) others = sum_by-cons (λ m. cond (m == r) 1 0) first others in
    split ∙ (parts ∙ (ap (λ v. v + over r ns (λ i. count_by (λ m. m == i) js) 0) one ∙ (ap (λ v. unit first r + v) rest ∙ sym told)))

from_over : (r : ℕ) (ns cs : List ℕ) (k : ℕ) → sum_from r ns cs k ≡ over r ns (λ i. slice_index_or cs i 0) k
from_over r [] cs k = refl
from_over r (n ∷ ns) cs k = let there = from_over r ns cs (k + 1) in omega (arith, there)

pub summed_told : (r : ℕ) (ns cs fired : List ℕ) → AllByRecursion (λ i. i < length ns) fired
    → ((i : ℕ) → i < length ns → slice_index_or cs i 0 ≡ count_by (λ j. j == i) fired)
    → sum_from r ns cs 0 ≡ count_by (λ j. j == r) (map (λ i. slice_index_or ns i 0) fired)
summed_told r ns cs fired all counts =
    from_over r ns cs 0 ∙ over_same r ns (λ i. slice_index_or cs i 0) (λ i. count_by (λ j. j == i) fired) 0 (λ i low high. counts i (omega (arith, high))) ∙ fired_over r ns fired all
