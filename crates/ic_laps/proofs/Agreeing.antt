-- A round of the flight that it agrees with is the flight's.
use Rattle.std.specs.Prelude.{◌≡◌, ◌==◌, refl}
use Rattle.std.specs.Cmp.{unsigned_Decides}
use Rattle.std.specs.Str.{bytes_eq}
use Rattle.std.proofs.Common.{ℕ, ◌<◌, Bool, true, false, ◌&&◌, Result, Ok, Err, IsTrue, nat_eq, if◌then◌else◌, ap, subst, ◌∙◌, arith}
use Rattle.std.proofs.lemmas.Bool.{and_parts, and_from}
use Rattle.std.proofs.lemmas.Slice.Eq.{bytes_eq-Decides}
use Rattle.ic_term.specs.Configuration.{configuration_eq}
use Rattle.ic_term.specs.lemmas.ConfigurationEq.{configuration_eq-Decides}
use Rattle.ic_rules.specs.RuleSet.{rules_eq}
use Rattle.ic_rules.specs.lemmas.RuleLaws.{rules_eq-Decides}
use Rattle.ic_round.specs.Rounds.{round, fits, is_small, names_suffice}
use Rattle.ic_flights.specs.Flight.{FlightParts}
use Rattle.ic_flights.specs.Played.{PlayedParts, IsPlayed, round_of}
use Rattle.ic_flights.specs.declared.limits.TheConstants.{MAX_ROUNDS}
use Rattle.ic_pool.specs.Played.{played}
use Rattle.ic_pool.specs.declared.fault.PoolFault.{PoolFault}
use Rattle.ic_pool.specs.declared.fault.PoolFault.TheVariants.{Overgrown, NamesOut, RoundsOut}
use Rattle.ic_laps.specs.inner.Agreeing.{agrees}

pub agreeing : (p : PlayedParts) (f : FlightParts) → IsPlayed p → agrees p f ≡ true → p ≡ round_of f
agreeing p f is e =
    let last = and_parts _ (rules_eq p.rules f.rules) e in
    let third = and_parts _ (configuration_eq p.before f.config) last.0 in
    let first = and_parts (p.rounds == f.rounds) (bytes_eq p.name f.name) third.0 in
    let rounds = (unsigned_Decides p.rounds f.rounds).0 first.0 in
    let name = (bytes_eq-Decides p.name f.name).0 first.1 in
    let before = (configuration_eq-Decides p.before f.config).0 third.1 in
    let rules = (rules_eq-Decides p.rules f.rules).0 last.1 in
    let after : p.after ≡ round f.rules.rules f.config = is.made ∙ λ i. round (rules i).rules (before i) in
    λ i. record { name = name i; rules = rules i; before = before i; after = after i; rounds = rounds i }

pub agreed : (p : PlayedParts) (f : FlightParts) → p ≡ round_of f → agrees p f ≡ true
agreed p f e =
    and_from _ _ (and_from _ _ (and_from _ _ ((unsigned_Decides p.rounds f.rounds).1 (ap (λ q. q.rounds) e)) ((bytes_eq-Decides p.name f.name).1 (ap (λ q. q.name) e)))
    ((configuration_eq-Decides p.before f.config).1 (ap (λ q. q.before) e)))
    ((rules_eq-Decides p.rules f.rules).1 (ap (λ q. q.rules) e))

below_is_unequal : (m n : ℕ) (b : Bool) → nat_eq m n ≡ b → m < n → b ≡ false
below_is_unequal m n true e below = let same : m ≡ n = (unsigned_Decides m n).0 e in absurd (omega (arith, same, below))
below_is_unequal m n false e below = refl

-- the answer by its three tests
abbrev answer : Bool → Bool → Bool → PlayedParts → Result PlayedParts PoolFault
answer out small named p = if out then Err RoundsOut else (if small then (if named then Ok p else Err NamesOut) else Err Overgrown)

abbrev made : PlayedParts → Result PlayedParts PoolFault
made p = Ok p

answer_at : (out small named : Bool) (p : PlayedParts) → out ≡ false → small ≡ true → named ≡ true → made p ≡ answer out small named p
answer_at false true true p o a b = refl
answer_at true small named p o a b = cc
answer_at false false named p o a b = cc
answer_at false true false p o a b = cc

pub answered : (p : PlayedParts) (f : FlightParts) → IsPlayed p → p ≡ round_of f → made p ≡ played f
answered p f is same =
    let rounds : p.rounds ≡ f.rounds = ap (λ (q : PlayedParts). q.rounds) same in
    let fit : IsTrue (fits f.rules.rules f.config) = subst (λ (q : PlayedParts). IsTrue (fits q.rules.rules q.before)) same is.fitting in
    let left = below_is_unequal f.rounds MAX_ROUNDS (nat_eq f.rounds MAX_ROUNDS) refl (omega (arith, rounds, is.counted)) in
    let both = and_parts (is_small f.rules.rules f.config) (names_suffice f.rules.rules f.config) fit in
    ap made same ∙ answer_at (nat_eq f.rounds MAX_ROUNDS) (is_small f.rules.rules f.config) (names_suffice f.rules.rules f.config) (round_of f) left both.0 both.1
