-- Crews of standing workers.
use Rattle.std.specs.Prelude.{◌≡◌, ℕ, ◌≤◌, ◌<◌, Bool, true, false, Result, Ok, Err, IsTrue, is_ok, min, nat_eq, if◌then◌else◌, refl}
use Rattle.std.specs.Coded.{Coded, code_by, coded×, coded_ℕ, coded_bool}
use Rattle.ic_pool.specs.PoolFault.{asks_memory}
use Rattle.ic_pool.specs.declared.limits.TheConstants.{MAX_THREADS}
use Rattle.ic_pool.specs.declared.fault.PoolFault.{PoolFault}
use Rattle.ic_pool.specs.declared.fault.PoolFault.TheVariants.{NoWorkers, Overgrown, NamesOut, NoThread, Memory, Lost, Stranger, RoundsOut}

-- how many workers a crew has, and whether it is spent
pub record CrewParts : Type 0 where
  pub workers : ℕ
  pub spent : Bool

-- What each crew keeps.
pub record IsCrew (c : CrewParts) : Type 0 where
  pub some : 0 < c.workers
  pub few : c.workers ≤ MAX_THREADS

-- a new crew for so many workers
abbrev pub new_crew : ℕ → CrewParts
new_crew workers = record { workers = min workers MAX_THREADS; spent = false }

-- why no crew is made
abbrev pub crew_refusal : ℕ → PoolFault
crew_refusal workers = if nat_eq workers 0 then NoWorkers else Memory

-- a refusal after which answers may still come, so that the crew can't be used again
abbrev pub is_spending : PoolFault → Bool
is_spending NoWorkers = false
is_spending Overgrown = false
is_spending NamesOut = false
is_spending NoThread = false
is_spending Memory = true
is_spending Lost = true
is_spending Stranger = true
is_spending RoundsOut = false

abbrev pub is_spent_by : {T : Type 0} → Result T PoolFault → Bool
is_spent_by (Ok value) = false
is_spent_by (Err fault) = is_spending fault

-- The result of a crew is this answer, unless a growth was refused. Where there is a round to answer,
-- a result may be lost or strange.
abbrev pub ByCrew : {T : Type 0} → Result T PoolFault → Result T PoolFault → Type 0
ByCrew (Ok value) answer = Ok value ≡ answer
ByCrew (Err NoWorkers) answer = Err NoWorkers ≡ answer
ByCrew (Err Overgrown) answer = Err Overgrown ≡ answer
ByCrew (Err NamesOut) answer = Err NamesOut ≡ answer
ByCrew (Err NoThread) answer = Err NoThread ≡ answer
ByCrew (Err Memory) answer = IsTrue (asks_memory answer)
ByCrew (Err Lost) answer = IsTrue (is_ok answer)
ByCrew (Err Stranger) answer = IsTrue (is_ok answer)
ByCrew (Err RoundsOut) answer = Err RoundsOut ≡ answer

-- a crew is stored as the tuple of its fields
abbrev pub coded_crew : Coded CrewParts
coded_crew =
    code_by (ℕ × Bool) (coded× coded_ℕ coded_bool) (λ c. (c.workers, c.spent))
    (λ p. record { workers = p.0; spent = p.1 }) (λ _. refl)
