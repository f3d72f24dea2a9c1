-- Which faults come with jobs, and over a broken book.
use Rattle.std.proofs.Common.{◌≡◌, ◌≢◌, ◌⊎◌, inl, inr, ℕ, zero, suc, ◌<◌, List, [], ◌∷◌, Bool, true, false, ◌&&◌, Some, Result, Ok, Err, refl, sym, ap, subst, ◌∙◌}
use Rattle.std.specs.Prelude.{IfErr, IsErrOf, slice_get}
use Rattle.std.specs.Result.{IsErrAnd}
use Rattle.std.specs.List.{AllByRecursion}
use Rattle.std.proofs.lemmas.Bool.{and_parts, ltb-true}
use Rattle.ic_book.specs.declared.fault.BookFault.TheVariants as of_book
use Rattle.ic_jobs.specs.State.{is_running}
use Rattle.ic_jobs.specs.Job.{JobParts, can_move}
use Rattle.ic_pool.specs.declared.fault.PoolFault.{PoolFault}
use Rattle.ic_serving.specs.declared.fault.ServeFault.{ServeFault}
use Rattle.ic_serving.specs.declared.fault.ServeFault.TheVariants.{Book as by_book, Memory, Pool, Write}
use Rattle.ic_serving.specs.Faults.{ComesBroken, ComesInLine, ComesUnmade, ComesWithoutRound}
use Rattle.ic_batch.specs.Faults.{ComesOverBroken, ComesWith}
use Rattle.ic_batch.specs.Way.{goes_on, has_round}
use Rattle.ic_batch.proofs.WayLemmas.{runs}
use Rattle.ic_batch.proofs.DueLemmas.{few}

-- ---- a fault that is handed on

pub err_comes : {T : Type 0} (r : Result T ServeFault) (e : ServeFault) (P : ServeFault → Type 0) → IsErrAnd r (λ x. x ≡ e) → P e → IfErr r P
err_comes (Ok v) e P is comes = absurd is
err_comes (Err x) e P is comes = let same : x ≡ e = is in subst P (sym same) comes

-- ---- over a broken book

pub not_true : (b : Bool) → ¬ (b ≡ true) → b ≡ false
not_true true other = absurd (other refl)
not_true false other = refl

same_of : {T E : Type 0} (a b : E) → IsErrOf {T = T} (Err a) b → a ≡ b
same_of a b is = cc

pub told_broken : {T : Type 0} (e : ServeFault) → IsErrOf {T = T} (Err e) (by_book of_book.Broken) → ComesOverBroken e
told_broken e told = inl (same_of e (by_book of_book.Broken) told)

pub over_broken : (e : ServeFault) → ComesInLine e → ComesBroken e → ComesOverBroken e
over_broken (by_book f) line broken = inl (ap (λ x. by_book x) broken)
over_broken Memory line broken = inr refl
over_broken (Pool f) line broken = absurd broken
over_broken e line broken = absurd line

-- ---- with any jobs

in_line : (e : ServeFault) → ComesWithoutRound e → ComesInLine e
in_line (by_book f) comes = comes
in_line Memory comes = tt
in_line e comes = absurd comes

unmade : (e : ServeFault) → ComesWithoutRound e → ComesUnmade e
unmade (by_book f) comes = comes
unmade Memory comes = tt
unmade e comes = absurd comes

pub comes_anyhow : (most : ℕ) (js : List JobParts) (e : ServeFault) → ComesWithoutRound e → ComesWith most js e
comes_anyhow most js e comes = record { in_line = in_line e comes; ended = λ over. comes; unmade = λ none. unmade e comes }

pub of_keep : (e : ServeFault) → (e ≢ by_book of_book.Broken → e ≢ by_book of_book.Worn → e ≡ by_book of_book.Device) → ComesWithoutRound e
of_keep (by_book of_book.Broken) others = tt
of_keep (by_book of_book.Worn) others = tt
of_keep (by_book of_book.Device) others = tt
of_keep e others = (let bad = others (λ s. cc) (λ s. cc) in cc)

-- a job that goes on and has no round to be made can't make one
pub cannot : (most : ℕ) (j : JobParts) → goes_on most j ≡ true → has_round most j ≡ false → can_move j ≡ false
cannot most j goes none = ap (λ (b : Bool). b && can_move j) (sym goes) ∙ none

-- ---- one of some jobs

-- there is a job that passes, or there is none
abbrev Passes : (JobParts → Bool) → List JobParts → Type 0
Passes p js = (place : ℕ) × (j : JobParts) × (slice_get js place ≡ Some j) × (p j ≡ true)

passes_or_not : (p : JobParts → Bool) (js : List JobParts) → Passes p js ⊎ AllByRecursion (λ j. p j ≡ false) js
passes_or_not p [] = inr tt
passes_or_not p (j ∷ js) = by (p j) refl (passes_or_not p js)
  where
    by : (b : Bool) → p j ≡ b → Passes p js ⊎ AllByRecursion (λ k. p k ≡ false) js → Passes p (j ∷ js) ⊎ AllByRecursion (λ k. p k ≡ false) (j ∷ js)
    by true is rest = inl (zero, j, refl, is)
    by false is (inl found) = inl (suc found.0, found.1, found.2, found.3)
    by false is (inr none) = inr (is, none)

passes : (p : JobParts → Bool) (js : List JobParts) → ¬ AllByRecursion (λ j. p j ≡ false) js → Passes p js
passes p js some = elim (passes_or_not p js) [ inl found ↦ found | inr none ↦ absurd (some none) ]

-- ---- a fault of the pool

-- with jobs one of which goes on
pub goes_with : (most : ℕ) (js : List JobParts) (fault : PoolFault) → (Pool fault ≡ Write) ⊎ ComesWith most js (Pool fault)
    → (place : ℕ) × (j : JobParts) × (slice_get js place ≡ Some j) × (is_running j.state ≡ true) × (j.rounds < most)
goes_with most js fault (inl same) = cc
goes_with most js fault (inr comes) =
    let found = passes (λ j. goes_on most j) js (λ over. comes.ended over) in
    (found.0, found.1, found.2, runs most found.1 found.3, ltb-true found.1.rounds most (few most found.1 found.3))

-- and of which one has a round to be made
pub moves_with : (most : ℕ) (js : List JobParts) (fault : PoolFault) → (Pool fault ≡ Write) ⊎ ComesWith most js (Pool fault) → ¬ ComesUnmade (Pool fault)
    → (place : ℕ) × (j : JobParts) × (slice_get js place ≡ Some j) × (is_running j.state ≡ true) × (j.rounds < most) × (can_move j ≡ true)
moves_with most js fault (inl same) other = cc
moves_with most js fault (inr comes) other =
    let found = passes (λ j. has_round most j) js (λ none. other (comes.unmade none)) in
    let both = and_parts (goes_on most found.1) (can_move found.1) found.3 in
    (found.0, found.1, found.2, runs most found.1 both.0, ltb-true found.1.rounds most (few most found.1 both.0), both.1)
