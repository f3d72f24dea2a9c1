-- Lemmas of dealings.
use Rattle.std.proofs.Common.{◌≡◌, inl, inr, ℕ, suc, ◌+◌, ◌<◌, ◌≤◌, ◌==◌, ◌&&◌, Bool, true, false, cond, List, [], ◌∷◌, map, replicate, refl, sym, ap, ◌∙◌, arith, subst, ⊎_elim}
use Rattle.std.specs.Prelude.{◌↔◌, nat_lt, Contains, IsTrue, IsPermutation, IsSortedBy, slice_index_or}
use Rattle.std.specs.List.{AllByRecursion}
use Rattle.std.proofs.lemmas.List.Elements.{recursion_from_All, All-contains_itself}
use Rattle.std.proofs.lemmas.List.Sorted.{All-permutation, sum_by-IsPermutation}
use Rattle.std.proofs.lemmas.List.Sums.{sum_by-cons}
use Rattle.std.specs.Cmp.{unsigned_Decides}
use Rattle.std.proofs.lemmas.Bool.{or_parts, and_cases, ltb-false, cases_lt}
use Rattle.ic_rules.specs.Rule.{Rule}
use Rattle.ic_round.specs.Works.{PlainWork}
use Rattle.ic_crew.specs.Dealing.{AreDealt, IsDealing, IsLeast, is_dealt_before, with_work}
use Rattle.ic_crew.specs.Matching.{times, work_eq}
use Rattle.ic_crew.specs.Sizes.{part_size, work_size}

not_before : (sizes : List ℕ) (i j : ℕ) → IsLeast sizes i → IsLeast sizes j → i < j → ⊥
not_before sizes i j one other first = omega (arith, other.first i first, one.least j other.within)

one_least : (sizes : List ℕ) (i j : ℕ) → IsLeast sizes i → IsLeast sizes j → i ≡ j
one_least sizes i j one other = elim (cases_lt i j) [
  | inl first ↦ absurd (not_before sizes i j one other first)
  | inr past ↦ elim (cases_lt j i) [
    | inl second ↦ absurd (not_before sizes j i other one second)
    | inr also ↦ omega (arith, past, also)
  ]
]

pub dealt_so : (rs : List Rule) (ws : List PlainWork) (before after other : List (List PlainWork)) → AreDealt rs before ws after → AreDealt rs before ws other
    → after ≡ other
dealt_so rs [] before after other one two = sym one ∙ two
dealt_so rs (w ∷ ws) before after other one two =
    let same : one.0 ≡ two.0 = one_least (map (part_size rs) before) one.0 two.0 one.1.0 two.1.0 in
    dealt_so rs ws (with_work two.0 w before) after other
    (subst (λ (i : ℕ). AreDealt rs (with_work i w before) ws after) same one.1.1) two.1.1

pub no_larger : (rs : List Rule) (v w : PlainWork) → is_dealt_before rs v w ≡ false → work_size rs v ≤ work_size rs w
no_larger rs v w not =
    let parts = or_parts (nat_lt (work_size rs w) (work_size rs v)) (work_size rs w == work_size rs v && nat_lt v.place w.place) not in
    ltb-false (work_size rs w) (work_size rs v) parts.0

pub no_earlier : (rs : List Rule) (v w : PlainWork) → is_dealt_before rs v w ≡ false → work_size rs w ≡ work_size rs v → w.place ≤ v.place
no_earlier rs v w not same =
    let parts = or_parts (nat_lt (work_size rs w) (work_size rs v)) (work_size rs w == work_size rs v && nat_lt v.place w.place) not in
    ⊎_elim (λ other. absurd (let e = sym other ∙ (unsigned_Decides (work_size rs w) (work_size rs v)).1 same in (let f = e in cc)))
    (λ past. ltb-false v.place w.place past)
    (and_cases (work_size rs w == work_size rs v) (nat_lt v.place w.place) parts.1)

-- ---- works at places of their own are put in one order

-- the second of two works isn't dealt before the first
abbrev Follows : List Rule → PlainWork → PlainWork → Type 0
Follows rs v w = (work_size rs w ≤ work_size rs v) × (work_size rs w ≡ work_size rs v → v.place ≤ w.place)

itself : (rs : List Rule) (v : PlainWork) → Follows rs v v
itself rs v = (omega arith, λ same. omega arith)

follows : (rs : List Rule) (v w : PlainWork) → is_dealt_before rs w v ≡ false → Follows rs v w
follows rs v w not = (no_larger rs w v not, λ same. no_earlier rs w v not (sym same))

through : (rs : List Rule) (u v w : PlainWork) → Follows rs u v → Follows rs v w → Follows rs u w
through rs u v w a b = (
  omega (arith, a.0, b.0),
  λ same.
      let one : work_size rs v ≡ work_size rs u = omega (arith, a.0, b.0, same) in
      let other : work_size rs w ≡ work_size rs v = omega (arith, a.0, b.0, same) in
      omega (arith, a.1 one, b.1 other),
)

all_through : (rs : List Rule) (u v : PlainWork) (ws : List PlainWork) → Follows rs u v → AllByRecursion (Follows rs v) ws → AllByRecursion (Follows rs u) ws
all_through rs u v [] first all = tt
all_through rs u v (w ∷ ws) first all = (through rs u v w first all.0, all_through rs u v ws first all.1)

at_next : (w : PlainWork) (ws : List PlainWork) (k : ℕ) (d : PlainWork) → slice_index_or (w ∷ ws) (k + 1) d ≡ slice_index_or ws k d
at_next w ws k d = let next : k + 1 ≡ suc k = omega arith in rw next refl

sorted_on : (rs : List Rule) (w : PlainWork) (ws : List PlainWork) → IsSortedBy (is_dealt_before rs) (w ∷ ws) → IsSortedBy (is_dealt_before rs) ws
sorted_on rs w ws sorted = λ k d low high. rw (at_next w ws (k + 1) d, at_next w ws k d) at (sorted (k + 1) d (omega arith) (omega (arith, high)))

later : (rs : List Rule) (v : PlainWork) (ws : List PlainWork) → IsSortedBy (is_dealt_before rs) (v ∷ ws) → AllByRecursion (Follows rs v) ws
later rs v [] sorted = tt
later rs v (w ∷ ws) sorted =
    let first : Follows rs v w = follows rs v w (sorted 0 v (omega arith) (omega arith)) in
    (first, all_through rs v w ws first (later rs w ws (sorted_on rs v (w ∷ ws) sorted)))

abbrev TestsWorks : Type 0
TestsWorks = (v w : PlainWork) → IsTrue (work_eq v w) ↔ (v ≡ w)

counted : (w v : PlainWork) (ws : List PlainWork) → times w (v ∷ ws) ≡ cond (work_eq w v) 1 0 + times w ws
counted w v ws = sum_by-cons (λ u. cond (work_eq w u) 1 0) v ws

counts_itself : TestsWorks → (w : PlainWork) (ws : List PlainWork) → times w (w ∷ ws) ≡ 1 + times w ws
counts_itself exact w ws = counted w w ws ∙ ap (λ b. cond b 1 0 + times w ws) ((exact w w).1 refl)

held_by : TestsWorks → (P : PlainWork → Type 0) (w v : PlainWork) (ws : List PlainWork) → P v → 0 < times w (v ∷ ws) → (0 < times w ws → P w)
    → (b : Bool) → work_eq w v ≡ b → P w
held_by exact P w v ws here some rest true e = subst P (sym ((exact w v).0 e)) here
held_by exact P w v ws here some rest false e =
    let none = counted w v ws ∙ ap (λ b. cond b 1 0 + times w ws) e in
    rest (omega (arith, some, none))

-- what is counted has what each has
held : TestsWorks → (P : PlainWork → Type 0) (w : PlainWork) (ws : List PlainWork) → AllByRecursion P ws → 0 < times w ws → P w
held exact P w [] all some = absurd (omega (arith, some))
held exact P w (v ∷ ws) all some = held_by exact P w v ws all.0 some (held exact P w ws all.1) (work_eq w v) refl

module _ (rs : List Rule) (exact : TestsWorks) (P : PlainWork → Type 0) (one : (v w : PlainWork) → P v → P w → v.place ≡ w.place → v ≡ w) where
  one_order : (xs ys : List PlainWork) → AllByRecursion P xs → AllByRecursion P ys → IsSortedBy (is_dealt_before rs) xs → IsSortedBy (is_dealt_before rs) ys
      → ((w : PlainWork) → times w xs ≡ times w ys) → xs ≡ ys
  one_order [] [] all also sorted sorted_too same = refl
  one_order [] (y ∷ ys) all also sorted sorted_too same = absurd (omega (arith, same y, counts_itself exact y ys))
  one_order (x ∷ xs) [] all also sorted sorted_too same = absurd (omega (arith, same x, counts_itself exact x xs))
  one_order (x ∷ xs) (y ∷ ys) all also sorted sorted_too same =
      let after : Follows rs y x =
      held exact (Follows rs y) x (y ∷ ys) (itself rs y, later rs y ys sorted_too) (omega (arith, same x, counts_itself exact x xs)) in
      let before : Follows rs x y =
      held exact (Follows rs x) y (x ∷ xs) (itself rs x, later rs x xs sorted) (omega (arith, same y, counts_itself exact y ys)) in
      let large : work_size rs x ≡ work_size rs y = omega (arith, after.0, before.0) in
      let place : x.place ≡ y.place = omega (arith, after.1 large, before.1 (sym large)) in
      let head : x ≡ y = one x y all.0 also.0 place in
      let tail : xs ≡ ys = one_order xs ys all.1 also.1 (sorted_on rs x xs sorted) (sorted_on rs y ys sorted_too)
      (λ w. omega (arith, same w, counted w x xs, counted w y ys, ap {B = ℕ} (λ v. cond (work_eq w v) 1 0) head)) in
      λ i. head i ∷ tail i

pub one_dealing : TestsWorks → (rs : List Rule) (n : ℕ) (ws : List PlainWork) (parts other : List (List PlainWork))
    → ((v w : PlainWork) → Contains ws v → Contains ws w → v.place ≡ w.place → v ≡ w)
    → IsDealing rs n ws parts → IsDealing rs n ws other → parts ≡ other
one_dealing exact rs n ws parts other one is also =
    let among : (order : List PlainWork) → IsPermutation ws order → AllByRecursion (Contains ws) order =
    λ order same. recursion_from_All (Contains ws) order (All-permutation (Contains ws) ws order same (All-contains_itself ws)) in
    let order : is.order ≡ also.order =
    one_order rs exact (Contains ws) one is.order also.order (among is.order is.same) (among also.order also.same) is.sorted also.sorted
    (λ w. sum_by-IsPermutation (λ u. cond (work_eq w u) 1 0) ws is.order is.same
    ∙ sym (sum_by-IsPermutation (λ u. cond (work_eq w u) 1 0) ws also.order also.same)) in
    dealt_so rs also.order (replicate n []) parts other (subst (λ (l : List PlainWork). AreDealt rs (replicate n []) l parts) order is.dealt) also.dealt
