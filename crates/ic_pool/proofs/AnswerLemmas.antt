-- What may be answered in place of a round or of its first refusal.
use Rattle.std.proofs.Common.{◌≡◌, ◌↔◌, ◌⊎◌, inl, inr, ℕ, ◌<◌, Bool, true, false, not, ◌&&◌, ◌||◌, Result, Ok, Err, IsTrue, is_ok, nat_eq, refl, sym, ap, subst, ◌∙◌, arith}
use Rattle.ic_flights.specs.Flight.{FlightParts, is_blocked}
use Rattle.ic_flights.specs.Played.{PlayedParts, round_of}
use Rattle.ic_pool.specs.Played.{played}
use Rattle.ic_pool.specs.PoolFault.{Answers, OfWorkers, asks_memory, is_of_workers}
use Rattle.ic_pool.specs.Workers.{ByWorkers, played_by}
use Rattle.ic_round.specs.Rounds.{is_small, names_suffice}
use Rattle.ic_flights.specs.declared.limits.TheConstants.{MAX_ROUNDS}
use Rattle.ic_pool.specs.declared.fault.PoolFault.{PoolFault}
use Rattle.ic_pool.specs.declared.fault.PoolFault.TheVariants.{NoWorkers, Overgrown, NamesOut, NoThread, Memory, Lost, Stranger, RoundsOut}
use Rattle.ic_pool.proofs.Refusals.{answer, unequal_where}

abbrev Answer : Type 0
Answer = Result PlayedParts PoolFault

-- ---- what one thread answers

asked_where : (out small named : Bool) (p : PlayedParts) → IsTrue (asks_memory (answer out small named p)) ↔ (out ≡ false)
asked_where true small named p = (λ e. cc, λ e. cc)
asked_where false true true p = (λ e. refl, λ e. refl)
asked_where false true false p = (λ e. refl, λ e. refl)
asked_where false false named p = (λ e. refl, λ e. refl)

pub asked : (f : FlightParts) → IsTrue (asks_memory (played f)) ↔ ¬ (f.rounds ≡ MAX_ROUNDS)
asked f =
    let tests = asked_where (nat_eq f.rounds MAX_ROUNDS) (is_small f.rules.rules f.config) (names_suffice f.rules.rules f.config) (round_of f) in
    let left = unequal_where f.rounds MAX_ROUNDS in
    (λ e. left.0 (tests.0 e), λ h. tests.1 (left.1 h))

or_memory : (r a : Answer) → Answers r a → (r ≡ a) ⊎ ((r ≡ Err Memory) × IsTrue (asks_memory a))
or_memory (Err Memory) a h = inr (refl, h)
or_memory _ a h = inl h

answered_at : (out small named : Bool) (p : PlayedParts) → Answers (answer out small named p) (answer out small named p)
answered_at true small named p = refl
answered_at false true true p = refl
answered_at false true false p = refl
answered_at false false named p = refl

answered : (f : FlightParts) → Answers (played f) (played f)
answered f = answered_at (nat_eq f.rounds MAX_ROUNDS) (is_small f.rules.rules f.config) (names_suffice f.rules.rules f.config) (round_of f)

alone_from : (f : FlightParts) (r : Answer) → (r ≡ played f) ⊎ ((r ≡ Err Memory) × ¬ (f.rounds ≡ MAX_ROUNDS)) → Answers r (played f)
alone_from f r h = elim h [
  | inl e ↦ subst (λ (x : Answer). Answers x (played f)) (sym e) (answered f)
  | inr m ↦ subst (λ (x : Answer). Answers x (played f)) (sym m.0) ((asked f).1 m.1)
]

alone_to : (f : FlightParts) (r : Answer) → Answers r (played f) → (r ≡ played f) ⊎ ((r ≡ Err Memory) × ¬ (f.rounds ≡ MAX_ROUNDS))
alone_to f r h = elim (or_memory r (played f) h) [
  | inl e ↦ inl e
  | inr m ↦ inr (m.0, (asked f).0 m.1)
]

pub alone_exact : (f : FlightParts) (r : Answer) → Answers r (played f) ↔ ((r ≡ played f) ⊎ ((r ≡ Err Memory) × ¬ (f.rounds ≡ MAX_ROUNDS)))
alone_exact f r = (alone_to f r, alone_from f r)

-- ---- what workers answer

-- an answer that doesn't come of the workers
abbrev Told : Answer → Type 0
Told a = (q : PoolFault) → Err q ≡ a → is_of_workers q ≡ false

told_at : (out small named : Bool) (p : PlayedParts) → Told (answer out small named p)
told_at true small named p q e = let same : RoundsOut ≡ q = cc in ap is_of_workers (sym same)
told_at false true true p q e = cc
told_at false true false p q e = let same : NamesOut ≡ q = cc in ap is_of_workers (sym same)
told_at false false named p q e = let same : Overgrown ≡ q = cc in ap is_of_workers (sym same)

told : (f : FlightParts) → Told (played f)
told f = told_at (nat_eq f.rounds MAX_ROUNDS) (is_small f.rules.rules f.config) (names_suffice f.rules.rules f.config) (round_of f)

abbrev Widens : Answer → Answer → Type 0
Widens r a = ByWorkers r a ↔ (Answers r a ⊎ ((is_ok a ≡ true) × OfWorkers r))

not_both : (q : PoolFault) (a : Answer) → Told a → is_of_workers q ≡ true → ¬ (Err q ≡ a)
not_both q a apart is e = let both : false ≡ true = sym (apart q e) ∙ is in cc

of_them : (a : Answer) (q : PoolFault) → Told a → is_of_workers q ≡ true → (Err q ≡ a) ⊎ ((is_ok a ≡ true) × IsTrue (is_of_workers q)) → is_ok a ≡ true
of_them a q apart is h = elim h [ inl e ↦ absurd (not_both q a apart is e) | inr m ↦ m.0 ]

of_us : {A B : Type 0} → A ⊎ (B × (false ≡ true)) → A
of_us h = elim h [ inl x ↦ x | inr m ↦ absurd (let e : false ≡ true = m.1 in cc) ]

of_ok : {A B : Type 0} → A ⊎ (B × ⊥) → A
of_ok h = elim h [ inl x ↦ x | inr m ↦ absurd m.1 ]

widens : (r a : Answer) → Told a → Widens r a
widens (Ok p) a apart = (λ h. inl h, of_ok)
widens (Err NoThread) a apart = (λ h. inr (h, refl), of_them a NoThread apart refl)
widens (Err Lost) a apart = (λ h. inr (h, refl), of_them a Lost apart refl)
widens (Err Stranger) a apart = (λ h. inr (h, refl), of_them a Stranger apart refl)
widens _ a apart = (λ h. inl h, of_us)

ok_at : (out small named : Bool) (p : PlayedParts) → (is_ok (answer out small named p) ≡ true) ↔ ((not (small && named) || out) ≡ false)
ok_at true true false p = (λ e. cc, λ e. cc)
ok_at true false named p = (λ e. cc, λ e. cc)
ok_at false true true p = (λ e. refl, λ e. refl)
ok_at false true false p = (λ e. cc, λ e. cc)
ok_at _ _ _ p = (λ e. cc, λ e. cc)

ok_where : (f : FlightParts) → (is_ok (played f) ≡ true) ↔ (is_blocked f ≡ false)
ok_where f = ok_at (nat_eq f.rounds MAX_ROUNDS) (is_small f.rules.rules f.config) (names_suffice f.rules.rules f.config) (round_of f)

widened : (f : FlightParts) (r : Answer) → ByWorkers r (played f) ↔ (Answers r (played f) ⊎ ((is_blocked f ≡ false) × OfWorkers r))
widened f r =
    let w = widens r (played f) (told f) in
    let ok = ok_where f in (
      λ h. elim (w.0 h) [ inl a ↦ inl a | inr m ↦ inr (ok.0 m.0, m.1) ],
      λ h. elim h [ inl a ↦ w.1 (inl a) | inr m ↦ w.1 (inr (ok.1 m.0, m.1)) ],
    )

pub some_workers : (workers : ℕ) (f : FlightParts) (r : Answer) → 0 < workers
    → ByWorkers r (played_by workers f) ↔ (Answers r (played f) ⊎ ((is_blocked f ≡ false) × OfWorkers r))
some_workers workers f r some =
    let apart : nat_eq workers 0 ≡ false = (unequal_where workers 0).1 (λ e. absurd (omega (arith, e, some))) in rw apart (widened f r)

refused_to : (r : Answer) → ByWorkers r (Err NoWorkers) → r ≡ Err NoWorkers
refused_to (Err NoThread) h = let e : false ≡ true = h in cc
refused_to (Err Memory) h = let e : false ≡ true = h in cc
refused_to (Err Lost) h = let e : false ≡ true = h in cc
refused_to (Err Stranger) h = let e : false ≡ true = h in cc
refused_to _ h = h

pub no_workers : (f : FlightParts) (r : Answer) → ByWorkers r (played_by 0 f) ↔ (r ≡ Err NoWorkers)
no_workers f r = (refused_to r, λ e. subst (λ (x : Answer). ByWorkers x (Err NoWorkers)) (sym e) refl)
