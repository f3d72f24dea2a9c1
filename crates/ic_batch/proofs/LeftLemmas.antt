-- How many rounds are left at most until no job goes on.
use Rattle.std.proofs.Common.{◌≡◌, ℕ, ◌+◌, ◌-◌, ◌<◌, ◌≤◌, List, [], ◌∷◌, Bool, true, false, Option, Some, refl, sym, ap, subst, ◌∙◌, arith}
use Rattle.std.specs.Prelude.{IsSome, if◌then◌else◌}
use Rattle.std.specs.List.{AllByRecursion}
use Rattle.std.proofs.lemmas.Bool.{ltb-true}
use Rattle.ic_jobs.specs.declared.state.State.TheVariants as state
use Rattle.ic_jobs.specs.Job.{JobParts, can_move, moved, in_state}
use Rattle.ic_jobs.specs.Table.{IsTable, is_named, job_named, with_changed}
use Rattle.ic_batch.specs.Way.{goes_on, after_event}
use Rattle.ic_batch.proofs.JobLemmas.{change, change_is, one_named, round_changes}
use Rattle.ic_batch.proofs.WayLemmas.{runs}
use Rattle.ic_batch.proofs.DueLemmas.{few, IsMade}

abbrev left : ℕ → JobParts → ℕ
left most j = if goes_on most j then most - j.rounds else 0

abbrev pub left_in : ℕ → List JobParts → ℕ
left_in most [] = 0
left_in most (j ∷ js) = left most j + left_in most js

less : (b : Bool) (m n : ℕ) → n < m → (if b then m - (n + 1) else 0) < m - n
less true m n below = omega (arith, below)
less false m n below = omega (arith, below)

event_less : (most : ℕ) (j : JobParts) (b : Bool) → j.rounds < most → left most (if b then moved j else in_state state.Halted j) < most - j.rounds
event_less most j true below = less (goes_on most (moved j)) most j.rounds below
event_less most j false below = omega (arith, below)

left_less : (most : ℕ) (j : JobParts) → goes_on most j ≡ true → left most (after_event j) < left most j
left_less most j goes =
    let below : j.rounds < most = ltb-true j.rounds most (few most j goes) in
    let now : left most j ≡ most - j.rounds = ap (λ (b : Bool). if b then most - j.rounds else 0) goes in
    let after = event_less most j (can_move j) below in
    omega (arith, now, after)

-- the job of the name, of which there is one, has fewer rounds left
module _ (most : ℕ) (name : List ℕ) (j : JobParts) (goes : goes_on most j ≡ true) where
  abbrev IsOne : List JobParts → Type 0
  IsOne t = AllByRecursion (λ y. is_named name y ≡ true → y ≡ j) t

  fewer : (x : JobParts) → x ≡ j → left most (change j x) < left most x
  fewer x same =
      subst (λ (y : JobParts). left most (change j y) < left most y) (sym same) (subst (λ (y : JobParts). left most y < left most j) (sym (change_is j)) (left_less most j goes))

  no_more : (t : List JobParts) → IsOne t → left_in most (with_changed name (change j) t) ≤ left_in most t
  no_more [] one = omega arith
  no_more (x ∷ xs) one = by (is_named name x) one.0 (no_more xs one.1)
    where
      by : (b : Bool) → (b ≡ true → x ≡ j) → left_in most (with_changed name (change j) xs) ≤ left_in most xs
          → left most (if b then change j x else x) + left_in most (with_changed name (change j) xs) ≤ left most x + left_in most xs
      by true same rest = omega (arith, fewer x (same refl), rest)
      by false same rest = omega (arith, rest)

  left_changed : (t : List JobParts) → IsOne t → IsSome (job_named name t) → left_in most (with_changed name (change j) t) < left_in most t
  left_changed [] one there = cc
  left_changed (x ∷ xs) one there = by (is_named name x) one.0 there (left_changed xs one.1)
    where
      by : (b : Bool) → (b ≡ true → x ≡ j) → IsSome (if b then Some x else job_named name xs)
          → (IsSome (job_named name xs) → left_in most (with_changed name (change j) xs) < left_in most xs)
          → left most (if b then change j x else x) + left_in most (with_changed name (change j) xs) < left most x + left_in most xs
      by true same there later = omega (arith, fewer x (same refl), no_more xs one.1)
      by false same there later = omega (arith, later there)

-- a round leaves fewer
pub fewer_left : (most : ℕ) (t u : List JobParts) → IsTable t → IsMade most t u → left_in most u < left_in most t
fewer_left most t u is_table made =
    let same : u ≡ with_changed made.name (change made.job) t = made.table ∙ round_changes t made.name made.job made.there (runs most made.job made.goes) in
    subst (λ (x : List JobParts). left_in most x < left_in most t) (sym same)
    (left_changed most made.name made.job made.goes t (one_named made.name t made.job is_table.distinct made.there) (subst (λ (o : Option JobParts). IsSome o) (sym made.there) refl))
