-- The refusals of a flight, and what the call that plays it in one thread answers.
use Rattle.std.specs.Prelude.{◌≡◌, ℕ, List, [], ◌∷◌, Bool, true, false, not, Result, Ok, Err, IsTrue}
use Rattle.ic_flights.specs.Played.{PlayedParts}
use Rattle.ic_round.specs.declared.round_fault.RoundFault.{RoundFault}
use Rattle.ic_round.specs.declared.round_fault.RoundFault.TheVariants as of_round
use Rattle.ic_pool.specs.declared.fault.PoolFault.{PoolFault}
use Rattle.ic_pool.specs.declared.fault.PoolFault.TheVariants.{NoWorkers, Overgrown, NamesOut, NoThread, Memory, Lost, Stranger, RoundsOut}

-- a refusal that is told before any memory is asked for
abbrev pub is_told_first : PoolFault → Bool
is_told_first NoWorkers = true
is_told_first Overgrown = false
is_told_first NamesOut = false
is_told_first NoThread = false
is_told_first Memory = false
is_told_first Lost = false
is_told_first Stranger = false
is_told_first RoundsOut = true

-- memory is asked for before this is answered
abbrev pub asks_memory : {T : Type 0} → Result T PoolFault → Bool
asks_memory (Ok value) = true
asks_memory (Err fault) = not (is_told_first fault)

-- a refusal of the flight itself, of which no round can be made
abbrev pub is_of_flight : PoolFault → Bool
is_of_flight NoWorkers = false
is_of_flight Overgrown = true
is_of_flight NamesOut = true
is_of_flight NoThread = false
is_of_flight Memory = false
is_of_flight Lost = false
is_of_flight Stranger = false
is_of_flight RoundsOut = true

-- a refusal that comes of the workers
abbrev pub is_of_workers : PoolFault → Bool
is_of_workers NoWorkers = false
is_of_workers Overgrown = false
is_of_workers NamesOut = false
is_of_workers NoThread = true
is_of_workers Memory = false
is_of_workers Lost = true
is_of_workers Stranger = true
is_of_workers RoundsOut = false

-- The result is a refusal that comes of the workers.
abbrev pub OfWorkers : {T : Type 0} → Result T PoolFault → Type 0
OfWorkers (Ok value) = ⊥
OfWorkers (Err fault) = IsTrue (is_of_workers fault)

-- The result is this answer, unless a growth was refused.
abbrev pub Answers : Result PlayedParts PoolFault → Result PlayedParts PoolFault → Type 0
Answers (Ok p) answer = Ok p ≡ answer
Answers (Err NoWorkers) answer = Err NoWorkers ≡ answer
Answers (Err Overgrown) answer = Err Overgrown ≡ answer
Answers (Err NamesOut) answer = Err NamesOut ≡ answer
Answers (Err NoThread) answer = Err NoThread ≡ answer
Answers (Err Memory) answer = IsTrue (asks_memory answer)
Answers (Err Lost) answer = Err Lost ≡ answer
Answers (Err Stranger) answer = Err Stranger ≡ answer
Answers (Err RoundsOut) answer = Err RoundsOut ≡ answer

-- a refusal of a round as one of a flight
abbrev pub pool_fault : RoundFault → PoolFault
pool_fault of_round.Overgrown = Overgrown
pool_fault of_round.NamesOut = NamesOut
pool_fault of_round.Memory = Memory

-- the lasting number of a refusal
abbrev pub fault_number : PoolFault → ℕ
fault_number NoWorkers = 1
fault_number Overgrown = 2
fault_number NamesOut = 3
fault_number NoThread = 4
fault_number Memory = 5
fault_number Lost = 6
fault_number Stranger = 7
fault_number RoundsOut = 8

-- all refusals, in the order of their lasting numbers
abbrev pub all_faults : List PoolFault
all_faults = NoWorkers ∷ Overgrown ∷ NamesOut ∷ NoThread ∷ Memory ∷ Lost ∷ Stranger ∷ RoundsOut ∷ []
