-- Lemmas: plans by which pairs fired are plans that there are.
use Rattle.std.proofs.Common.{ℕ, ◌<◌, List, [], ◌∷◌, ◌++◌, length}
use Rattle.std.specs.List.{AllByRecursion}
use Rattle.std.proofs.lemmas.Option.{slice_get_within}
use Rattle.ic_arena.specs.Piece.{Piece}
use Rattle.ic_machine.specs.Net.{pieces}
use Rattle.ic_machine.specs.Plan.{Plans}
use Rattle.ic_machine.specs.Steps.{Step, Steps, no_step, one_more, turns, puts, meets, joins, fires}
use Rattle.ic_machine.specs.lemmas.RunsOn.{ran_steps}
use Rattle.ic_workers.specs.Parts.{Part}
use Rattle.ic_workers.specs.inner.HandsOn.{HaveWorked}
use Rattle.ic_workers.proofs.Lists.{all_of_both}
use Rattle.ic_workers.proofs.Working.{all_fired}

-- there are plans of these numbers
abbrev pub AreKnown : Plans → List ℕ → Type 0
AreKnown p fired = AllByRecursion (λ i. i < length p.plans) fired

known_step : (p : Plans) (xs ys : List Piece) (fired : List ℕ) → Step p fired xs ys → AreKnown p fired
known_step p xs ys fired (turns a b is) = tt
known_step p xs ys fired (puts a b is) = tt
known_step p xs ys fired (meets a b is) = tt
known_step p xs ys fired (joins a b is) = tt
known_step p xs ys fired (fires i a b is) = (slice_get_within p.plans i is.plan is.has_plan, tt)

pub known_both : (p : Plans) (is js : List ℕ) → AreKnown p is → AreKnown p js → AreKnown p (is ++ js)
known_both p is js = all_of_both (λ i. i < length p.plans) is js

pub known_plans : (p : Plans) (xs ys : List Piece) (fired : List ℕ) → Steps p fired xs ys → AreKnown p fired
known_plans p xs ys fired (no_step a b is) = tt
known_plans p xs ys fired (one_more is js a b c one more) = known_both p is js (known_plans p a b is one) (known_step p b c js more)

pub known_all : (p : Plans) (qs rs : List Part) → (ran : HaveWorked p qs rs) → AreKnown p (all_fired p qs rs ran)
known_all p [] [] ran = tt
known_all p [] (r ∷ rs) ran = absurd ran
known_all p (q ∷ qs) [] ran = absurd ran
known_all p (q ∷ qs) (r ∷ rs) ran =
    known_both p ran.0.ran.fired (all_fired p qs rs ran.1)
    (known_plans p (pieces q.net) (pieces r.net) ran.0.ran.fired (ran_steps p q.net r.net ran.0.ran)) (known_all p qs rs ran.1)
