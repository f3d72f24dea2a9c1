use Rattle.std.proofs.Common.{◌≡◌, ◌⊎◌, ◌↔◌, inl, inr, ℕ, ◌<◌, false, Result, Err, refl, arith}
use Rattle.ic_flights.specs.Flight.{FlightParts, is_blocked}
use Rattle.ic_flights.specs.Played.{PlayedParts}
use Rattle.ic_pool.specs.Played.{played}
use Rattle.ic_pool.specs.PoolFault.{Answers, OfWorkers}
use Rattle.ic_pool.specs.Workers.{ByWorkers, played_by}
use Rattle.ic_pool.specs.declared.fault.PoolFault.{PoolFault}
use Rattle.ic_pool.specs.declared.fault.PoolFault.TheVariants.{Lost, Stranger}
use Rattle.ic_crew.specs.Crews.{ByCrew}
use Rattle.ic_crew.proofs.laws.crews_answer_so.Goals as goal

abbrev Answer : Type 0
Answer = Result PlayedParts PoolFault

-- what is known of workers that are started for a round
abbrev OfAny : Type 0
OfAny = (workers : ℕ) (f : FlightParts) (r : Answer) → 0 < workers
    → ByWorkers r (played_by workers f) ↔ (Answers r (played f) ⊎ ((is_blocked f ≡ false) × OfWorkers r))

abbrev Widened : FlightParts → Answer → Type 0
Widened f r = Answers r (played f) ⊎ ((is_blocked f ≡ false) × ((r ≡ Err Lost) ⊎ (r ≡ Err Stranger)))

to : OfAny → (f : FlightParts) (r : Answer) → ByCrew r (played f) → Widened f r
to law f (Err Lost) h = elim ((law 1 f (Err Lost) (omega arith)).0 h) [ inl a ↦ inl a | inr m ↦ inr (m.0, inl refl) ]
to law f (Err Stranger) h = elim ((law 1 f (Err Stranger) (omega arith)).0 h) [ inl a ↦ inl a | inr m ↦ inr (m.0, inr refl) ]
to law f _ h = inl h

from : OfAny → (f : FlightParts) (r : Answer) → Widened f r → ByCrew r (played f)
from law f (Err Lost) h = (law 1 f (Err Lost) (omega arith)).1 (elim h [ inl a ↦ inl a | inr m ↦ inr (m.0, refl) ])
from law f (Err Stranger) h = (law 1 f (Err Stranger) (omega arith)).1 (elim h [ inl a ↦ inl a | inr m ↦ inr (m.0, refl) ])
from law f _ h = elim h [ inl a ↦ a | inr m ↦ elim m.1 [ inl e ↦ absurd (cc) | inr e ↦ absurd (cc) ] ]

pub returns : goal.returns
returns c = λ f r. (to c.workers_answer_so.ensures.some f r, from c.workers_answer_so.ensures.some f r)
