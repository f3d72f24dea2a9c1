-- As many places as were ever in use.
use Rattle.std.proofs.Common.{◌≡◌, ◌⊎◌, ℕ, zero, suc, ◌<◌, ◌≤◌, inl, inr, List, [], ◌∷◌, Contains, cond, length, map, max, slice_index_or, refl, ◌∙◌, sym, ap, arith}
use Rattle.std.specs.List.{AllByRecursion}
use Rattle.std.proofs.Math.Nat.{max-eq_left, max-eq_right}
use Rattle.std.proofs.lemmas.Bool.Decides.{leb_tells}
use Rattle.std.proofs.lemmas.List.Sorted.{sum_by-IsPermutation}
use Rattle.ic_arena.specs.Piece.{Piece, equated, idle, waits}
use Rattle.ic_machine.specs.Plan.{Planned, Plans}
use Rattle.ic_machine.specs.Net.{Net, in_use, is_at, pieces, places_of}
use Rattle.ic_machine.specs.Runs.{Ran, Starts, Way, greatest}
use Rattle.ic_machine.specs.Steps.{Step, turns, puts, meets, joins, fires, Steps, no_step, one_more}
use Rattle.ic_machine.specs.lemmas.Balance.{no_front, no_back}
use Rattle.ic_machine.specs.lemmas.Separation.{fewer}

-- ---- steps that fire nothing take no place more

abbrev used : ℕ → Piece → ℕ
used kind p = cond (is_at kind p) 1 0

step_uses : (p : Plans) (is : List ℕ) (kind : ℕ) (xs ys : List Piece) → is ≡ [] → Step p is xs ys → in_use kind ys ≤ in_use kind xs
step_uses p is kind xs ys e (turns a b t) =
    fewer (used kind) a (equated t.left t.right ∷ []) b (equated t.right t.left ∷ []) t.rest t.given t.result (omega arith)
step_uses p is kind xs ys e (puts a b t) =
    fewer (used kind) a (equated t.named t.other ∷ idle t.named ∷ []) b (waits t.named t.other ∷ []) t.rest t.given t.result (omega arith)
step_uses p is kind xs ys e (meets a b t) =
    fewer (used kind) a (equated t.named t.other ∷ waits t.named t.waiting ∷ []) b (equated t.waiting t.other ∷ []) t.rest t.given t.result
    (omega arith)
step_uses p is kind xs ys e (joins a b t) =
    fewer (used kind) a (waits t.named t.between ∷ waits t.between t.waiting ∷ []) b (waits t.named t.waiting ∷ []) t.rest t.given t.result
    (omega arith)
step_uses p is kind xs ys e (fires i a b t) = cc

pub steps_use : (p : Plans) (is : List ℕ) (kind : ℕ) (xs ys : List Piece) → is ≡ [] → Steps p is xs ys → in_use kind ys ≤ in_use kind xs
steps_use p is kind xs ys e (no_step a b h) = let same = sum_by-IsPermutation (used kind) a b h in omega arith
steps_use p is kind xs ys e (one_more m n a b c t u) =
    let first : in_use kind b ≤ in_use kind a = steps_use p m kind a b (no_front m n e) t in
    let last : in_use kind c ≤ in_use kind b = step_uses p n kind b c (no_back m n e) u in
    omega arith

-- ---- the greatest of some numbers

pub first_within : (n : ℕ) (ns : List ℕ) → n ≤ greatest n ns
first_within n [] = omega arith
first_within n (k ∷ ns) =
    let later : max n k ≤ greatest (max n k) ns = first_within (max n k) ns in
    omega arith

pub each_within : (n : ℕ) (ns : List ℕ) → AllByRecursion (λ k. k ≤ greatest n ns) ns
each_within n [] = tt
each_within n (k ∷ ns) =
    let later : max n k ≤ greatest (max n k) ns = first_within (max n k) ns in
    (omega arith, each_within (max n k) ns)

-- it is the first, or that of one of these moments
pub greatest_is : (kind n : ℕ) (ms : List (List Piece)) → (greatest n (map (in_use kind) ms) ≡ n)
    ⊎ ((m : List Piece) × Contains ms m × (in_use kind m ≡ greatest n (map (in_use kind) ms)))
greatest_is kind n [] = inl refl
greatest_is kind n (m ∷ ms) = at (greatest_is kind (max n (in_use kind m)) ms)
  where
    g : ℕ
    g = greatest (max n (in_use kind m)) (map (in_use kind) ms)

    at : (g ≡ max n (in_use kind m)) ⊎ ((l : List Piece) × Contains ms l × (in_use kind l ≡ g))
        → (g ≡ n) ⊎ ((l : List Piece) × Contains (m ∷ ms) l × (in_use kind l ≡ g))
    at (inl e) = elim (leb_tells n (in_use kind m)) [
      | inl t ↦ inr (m, (0, omega arith, refl), sym (e ∙ max-eq_right t.1))
      | inr t ↦ inl (e ∙ max-eq_left (let lt : in_use kind m < n = t.1 in omega arith))
    ]
    at (inr later) = inr (later.0, (suc later.1.0, omega (arith, later.1.1), later.1.2), later.2)

-- ---- what is in use at the end of a way

way_uses : (p : Plans) (is : List ℕ) (kind bound : ℕ) (ms : List (List Piece)) (xs ys : List Piece) → Way p is ms xs ys
    → in_use kind xs ≤ bound → AllByRecursion (λ k. k ≤ bound) (map (in_use kind) ms) → in_use kind ys ≤ bound
way_uses p [] kind bound [] xs ys way low all = let less = steps_use p [] kind xs ys refl way in omega arith
way_uses p [] kind bound (m ∷ ms) xs ys way low all = absurd way
way_uses p (i ∷ is) kind bound [] xs ys way low all = absurd way
way_uses p (i ∷ is) kind bound (m ∷ ms) xs ys way low all = way_uses p is kind bound ms m ys way.1 all.0 all.1

at_moment : (kind bound : ℕ) (ms : List (List Piece)) (i : ℕ) (m : List Piece) → i < length ms → slice_index_or ms i m ≡ m
    → AllByRecursion (λ k. k ≤ bound) (map (in_use kind) ms) → in_use kind m ≤ bound
at_moment kind bound [] i m low is all = absurd (omega arith)
at_moment kind bound (l ∷ ms) zero m low is all = let same = ap (in_use kind) is in omega (arith, all.0)
at_moment kind bound (l ∷ ms) (suc i) m low is all = at_moment kind bound ms i m (omega arith) is all.1

-- ---- the laws

pub start_uses : (p : Plans) (given : ℕ) (plan : Planned) (operands : List ℕ) (n : Net) (kind : ℕ) → Starts p given plan operands n
    → in_use kind (pieces n) ≤ places_of kind n
start_uses p given plan operands n kind s =
    let less = steps_use p [] kind s.first (pieces n) refl s.steps in
    omega (arith, s.places kind)

pub run_uses : (p : Plans) (old new : Net) (kind : ℕ) → Ran p old new → in_use kind (pieces old) ≤ places_of kind old
    → in_use kind (pieces new) ≤ places_of kind new
run_uses p old new kind r low =
    let bound : ℕ = greatest (places_of kind old) (map (in_use kind) r.moments) in
    let most = first_within (places_of kind old) (map (in_use kind) r.moments) in
    let end = way_uses p r.fired kind bound r.moments (pieces old) (pieces new) r.way (omega arith) (each_within (places_of kind old) (map (in_use kind) r.moments)) in
    omega (arith, r.places kind)

pub run_at_moment : (p : Plans) (old new : Net) (kind : ℕ) (r : Ran p old new) (m : List Piece) → Contains r.moments m
    → in_use kind m ≤ places_of kind new
run_at_moment p old new kind r m there =
    let bound : ℕ = greatest (places_of kind old) (map (in_use kind) r.moments) in
    let low = at_moment kind bound r.moments there.0 m there.1 there.2 (each_within (places_of kind old) (map (in_use kind) r.moments)) in
    omega (arith, r.places kind)

pub run_grows : (p : Plans) (old new : Net) (kind : ℕ) → Ran p old new → places_of kind old ≤ places_of kind new
run_grows p old new kind r =
    let most = first_within (places_of kind old) (map (in_use kind) r.moments) in
    omega (arith, r.places kind)

pub run_needs : (p : Plans) (old new : Net) (kind : ℕ) (r : Ran p old new) → (places_of kind new ≡ places_of kind old)
    ⊎ ((m : List Piece) × Contains r.moments m × (in_use kind m ≡ places_of kind new))
run_needs p old new kind r = elim (greatest_is kind (places_of kind old) r.moments) [
  | inl e ↦ inl (r.places kind ∙ e)
  | inr found ↦ inr (found.0, found.1, found.2 ∙ sym (r.places kind))
]
