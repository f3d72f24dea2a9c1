-- What one thread refuses, and what is refused where no round can be made.
use Rattle.std.proofs.Common.{◌≡◌, ◌⊎◌, inl, inr, Bool, true, false, refl}
use Rattle.std.specs.Prelude.{Ok, Err, IsTrue, nat_eq, if◌then◌else◌}
use Rattle.ic_round.specs.Rounds.{is_small, names_suffice}
use Rattle.ic_flights.specs.Flight.{FlightParts, is_blocked}
use Rattle.ic_flights.specs.Played.{PlayedParts, round_of}
use Rattle.ic_flights.specs.declared.limits.TheConstants.{MAX_ROUNDS}
use Rattle.ic_pool.specs.Played.{played}
use Rattle.ic_pool.specs.PoolFault.{Answers, OfWorkers, is_of_workers}
use Rattle.ic_pool.specs.declared.fault.PoolFault.{PoolFault}
use Rattle.ic_pool.specs.declared.fault.PoolFault.TheVariants.{NoWorkers, Overgrown, NamesOut, NoThread, Memory, Lost, Stranger, RoundsOut}

-- a flight isn't refused for other threads
not_played : (a b c : Bool) (p : PlayedParts) (fault : PoolFault) → is_of_workers fault ≡ true
    → Err fault ≡ (if a then Err RoundsOut else (if b then (if c then Ok p else Err NamesOut) else Err Overgrown)) → ⊥
not_played true b c p fault is same =
    let one : fault ≡ RoundsOut = cc in
    let bad : false ≡ true = rw one at is in cc
not_played false true true p fault is same = cc
not_played false true false p fault is same =
    let one : fault ≡ NamesOut = cc in
    let bad : false ≡ true = rw one at is in cc
not_played false false c p fault is same =
    let one : fault ≡ Overgrown = cc in
    let bad : false ≡ true = rw one at is in cc

never : (f : FlightParts) (fault : PoolFault) → is_of_workers fault ≡ true → Err fault ≡ played f → ⊥
never f fault is same =
    not_played (nat_eq f.rounds MAX_ROUNDS) (is_small f.rules.rules f.config) (names_suffice f.rules.rules f.config) (round_of f) fault is same

pub one_thread_refuses : (f : FlightParts) (fault : PoolFault) → Answers (Err fault) (played f) → is_of_workers fault ≡ false
one_thread_refuses f NoWorkers answers = refl
one_thread_refuses f Overgrown answers = refl
one_thread_refuses f NamesOut answers = refl
one_thread_refuses f NoThread answers = absurd (never f NoThread refl answers)
one_thread_refuses f Memory answers = refl
one_thread_refuses f Lost answers = absurd (never f Lost refl answers)
one_thread_refuses f Stranger answers = absurd (never f Stranger refl answers)
one_thread_refuses f RoundsOut answers = refl

-- nor is a flight of which no round can be made
pub blocked_refuses : (f : FlightParts) (fault : PoolFault) → (fault ≡ Memory) ⊎ IsTrue (is_of_workers fault)
    → Answers (Err fault) (played f) ⊎ ((is_blocked f ≡ false) × OfWorkers {T = PlayedParts} (Err fault)) → IsTrue (is_blocked f) → fault ≡ Memory
blocked_refuses f fault (inl memory) answers blocked = memory
blocked_refuses f fault (inr theirs) (inl answers) blocked = let other : is_of_workers fault ≡ false = one_thread_refuses f fault answers in cc
blocked_refuses f fault (inr theirs) (inr free) blocked = let other : is_blocked f ≡ false = free.0 in cc
