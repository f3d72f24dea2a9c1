-- Which refusal of a flight comes where.
use Rattle.std.proofs.Common.{◌≡◌, ◌≤◌, ◌<◌, ◌↔◌, ◌⊎◌, inl, inr, ℕ, Bool, true, false, not, ◌&&◌, ◌||◌, Result, Ok, Err, IsTrue, nat_le, nat_eq, cond, refl, sym, ◌∙◌, arith}
use Rattle.std.proofs.lemmas.Grind.{common_steps}
use Rattle.std.specs.Cmp.{unsigned_Decides}
use Rattle.std.proofs.Math.Bool.{or-true}
use Rattle.ic_round.specs.Rounds.{is_small, names_suffice}
use Rattle.ic_flights.specs.Flight.{FlightParts, is_blocked}
use Rattle.ic_flights.specs.Played.{PlayedParts, round_of}
use Rattle.ic_pool.specs.Played.{played}
use Rattle.ic_pool.specs.PoolFault.{Answers, is_of_flight, is_of_workers}
use Rattle.ic_pool.specs.Workers.{ByWorkers, played_by}
use Rattle.ic_flights.specs.declared.limits.TheConstants.{MAX_ROUNDS}
use Rattle.ic_pool.specs.declared.fault.PoolFault.{PoolFault}
use Rattle.ic_pool.specs.declared.fault.PoolFault.TheVariants.{NoWorkers, Overgrown, NamesOut, NoThread, Memory, Lost, Stranger, RoundsOut}

-- the answer by its three tests
abbrev pub answer : Bool → Bool → Bool → PlayedParts → Result PlayedParts PoolFault
answer out small named p = cond out (Err RoundsOut) (cond small (cond named (Ok p) (Err NamesOut)) (Err Overgrown))

pub out_where : (out small named : Bool) (p : PlayedParts) → (answer out small named p ≡ Err RoundsOut) ↔ (out ≡ true)
out_where true small named p = (λ e. refl, λ e. refl)
out_where false true true p = (λ e. cc, λ e. cc)
out_where false true false p = (λ e. cc, λ e. cc)
out_where false false named p = (λ e. cc, λ e. cc)

pub overgrown_where : (out small named : Bool) (p : PlayedParts) → (answer out small named p ≡ Err Overgrown) ↔ ((out ≡ false) × (small ≡ false))
overgrown_where true small named p = (λ e. cc, λ h. let g = h.0 in cc)
overgrown_where false true true p = (λ e. cc, λ h. let g = h.1 in cc)
overgrown_where false true false p = (λ e. cc, λ h. let g = h.1 in cc)
overgrown_where false false named p = (λ e. (refl, refl), λ h. refl)

pub names_out_where : (out small named : Bool) (p : PlayedParts) → (answer out small named p ≡ Err NamesOut) ↔ ((out ≡ false) × ((small ≡ true) × (named ≡ false)))
names_out_where true small named p = (λ e. cc, λ h. let g = h.0 in cc)
names_out_where false true true p = (λ e. cc, λ h. let g = h.1.1 in cc)
names_out_where false true false p = (λ e. (refl, (refl, refl)), λ h. refl)
names_out_where false false named p = (λ e. cc, λ h. let g = h.1.0 in cc)

pub ok_is : (out small named : Bool) (p q : PlayedParts) → answer out small named p ≡ Ok q → p ≡ q
ok_is true small named p q e = cc
ok_is false true true p q e = cc
ok_is false true false p q e = cc
ok_is false false named p q e = cc

-- ---- the tests in numbers

pub equal_where : (m n : ℕ) → (nat_eq m n ≡ true) ↔ (m ≡ n)
equal_where m n = unsigned_Decides m n

unequal_at : (m n : ℕ) (b : Bool) → nat_eq m n ≡ b → (b ≡ false) ↔ ¬ (m ≡ n)
unequal_at m n true e = (λ h. cc, λ no. absurd (no ((unsigned_Decides m n).0 e)))
unequal_at m n false e = (λ h same. let g = sym e ∙ (unsigned_Decides m n).1 same in cc, λ no. refl)

pub unequal_where : (m n : ℕ) → (nat_eq m n ≡ false) ↔ ¬ (m ≡ n)
unequal_where m n = unequal_at m n (nat_eq m n) refl

pub small_where : (m n : ℕ) → (nat_le m n ≡ true) ↔ (m ≤ n)
small_where m n = (λ e. grind (arith, common_steps, e), λ h. grind (arith, common_steps, h))

large_at : (m n : ℕ) (b : Bool) → nat_le m n ≡ b → (b ≡ false) ↔ (n < m)
large_at m n true e = (λ h. cc, λ h. let k = (small_where m n).0 e in absurd (omega arith))
large_at m n false e = (λ h. beyond, λ h. refl)
  where
    beyond : n < m
    beyond = grind (arith, common_steps, e)

pub large_where : (m n : ℕ) → (nat_le m n ≡ false) ↔ (n < m)
large_where m n = large_at m n (nat_le m n) refl

-- ---- a refusal of the flight itself

refused_where : (out small named : Bool) (p : PlayedParts) (fault : PoolFault) → answer out small named p ≡ Err fault → (not (small && named) || out) ≡ true
refused_where true small named p fault e = or-true (not (small && named))
refused_where false true true p fault e = cc
refused_where false true false p fault e = refl
refused_where false false named p fault e = refl

refused : (f : FlightParts) (fault : PoolFault) → Err fault ≡ played f → IsTrue (is_blocked f)
refused f fault e =
    refused_where (nat_eq f.rounds MAX_ROUNDS) (is_small f.rules.rules f.config) (names_suffice f.rules.rules f.config) (round_of f) fault (sym e)

pub refused_alone : (f : FlightParts) (fault : PoolFault) → Answers (Err fault) (played f) → IsTrue (is_of_flight fault) → IsTrue (is_blocked f)
refused_alone f Overgrown is of = refused f Overgrown is
refused_alone f NamesOut is of = refused f NamesOut is
refused_alone f RoundsOut is of = refused f RoundsOut is
refused_alone f _ is of = let never : false ≡ true = of in cc

-- with no workers another refusal comes
unless_none : (none : Bool) (fault : PoolFault) (r : Result PlayedParts PoolFault) → is_of_flight fault ≡ true → Err fault ≡ cond none (Err NoWorkers) r → Err fault ≡ r
unless_none true fault r of e = let same : fault ≡ NoWorkers = cc in let never : false ≡ true = sym (λ i. is_of_flight (same i)) ∙ of in cc
unless_none false fault r of e = e

by_refused : (workers : ℕ) (f : FlightParts) (fault : PoolFault) → is_of_flight fault ≡ true → Err fault ≡ played_by workers f → IsTrue (is_blocked f)
by_refused workers f fault of e = refused f fault (unless_none (nat_eq workers 0) fault (played f) of e)

pub refused_by : (workers : ℕ) (f : FlightParts) (fault : PoolFault) → ByWorkers {T = PlayedParts} (Err fault) (played_by workers f) → IsTrue (is_of_flight fault)
    → IsTrue (is_blocked f)
refused_by workers f Overgrown is of = by_refused workers f Overgrown of is
refused_by workers f NamesOut is of = by_refused workers f NamesOut of is
refused_by workers f RoundsOut is of = by_refused workers f RoundsOut of is
refused_by workers f _ is of = let never : false ≡ true = of in cc

-- ---- any other refusal of some workers

no_workers_of : (out small named : Bool) (p : PlayedParts) → Err NoWorkers ≡ answer out small named p → ⊥
no_workers_of true small named p e = cc
no_workers_of false true true p e = cc
no_workers_of false true false p e = cc
no_workers_of false false named p e = cc

some_workers : (none : Bool) (r : Result PlayedParts PoolFault) → none ≡ false → Err NoWorkers ≡ cond none (Err NoWorkers) r → Err NoWorkers ≡ r
some_workers true r e is = cc
some_workers false r e is = is

pub other_refusals : (workers : ℕ) (f : FlightParts) (fault : PoolFault) → 0 < workers → ByWorkers {T = PlayedParts} (Err fault) (played_by workers f)
    → is_of_flight fault ≡ false → (fault ≡ Memory) ⊎ IsTrue (is_of_workers fault)
other_refusals workers f NoWorkers some is apart =
    let there : nat_eq workers 0 ≡ false = (unequal_where workers 0).1 (λ e. absurd (omega (arith, e, some))) in
    absurd (no_workers_of (nat_eq f.rounds MAX_ROUNDS) (is_small f.rules.rules f.config) (names_suffice f.rules.rules f.config) (round_of f)
    (some_workers (nat_eq workers 0) (played f) there is))
other_refusals workers f NoThread some is apart = inr refl
other_refusals workers f Memory some is apart = inl refl
other_refusals workers f Lost some is apart = inr refl
other_refusals workers f Stranger some is apart = inr refl
other_refusals workers f _ some is apart = let never : true ≡ false = apart in cc
