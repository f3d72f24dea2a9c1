-- How many calls to the disk a run makes.
use Rattle.std.proofs.Common.{◌≡◌, ℕ, zero, suc, ◌+◌, ◌*◌, ◌<◌, ◌≤◌, ◌/◌, ◌%◌, List, [], Option, None, Some, length, refl, arith}
use Rattle.std.proofs.lemmas.Nat.{div-add-mod', le-div}
use Rattle.std.specs.Option.{option_map_or}
use Rattle.ic_flights.specs.Flight.{FlightParts}
use Rattle.ic_jobs.specs.declared.event.Event.{Event}
use Rattle.ic_jobs.specs.declared.event.Event.TheVariants.{Round}
use Rattle.ic_jobs.specs.Job.{JobParts}
use Rattle.ic_jobs.specs.History.{table_after}
use Rattle.ic_jobs.specs.Landing.{due}
use Rattle.ic_lines.specs.Turns.{round_and, turns}
use Rattle.ic_book.specs.Weight.{weigh}
use Rattle.ic_book.specs.lemmas.Weights.{weigh_first}

front_below : (a b c n : ℕ) → a + b ≡ c → c ≤ n → a ≤ n
front_below a b c n is few = omega (arith, is, few)

six_parts : (a b old new : ℕ) → a ≤ b → new ≤ old + 6 * (a + 1) → new ≤ old + 6 * (b + 1)
six_parts a b old new few calls = omega (arith, few, calls)

pub few_of_run : (n k every old new : ℕ) → 1 ≤ every → n ≤ k → new ≤ old + 6 * (n / every + 1) → new ≤ old + 6 * (k / every + 1)
few_of_run n k every old new some few calls =
    six_parts (n / every) (k / every) old new
    (le-div (n / every) k every some (front_below (n / every * every) (n % every) n k (div-add-mod' n every) few)) calls

pub has_room : (limit log n k weight : ℕ) → weight ≡ n → n ≤ k → log + k < limit → log + weight < limit
has_room limit log n k weight each few room = omega (arith, each, few, room)

first_weighs : (after : ℕ → List JobParts → List Event) (t : List JobParts) (o : Option FlightParts)
    → ((f : FlightParts) → weigh (after (f.place + 1) (table_after t (Round f.name))) ≡ length (after (f.place + 1) (table_after t (Round f.name))))
    → weigh (option_map_or (round_and after t) o []) ≡ length (option_map_or (round_and after t) o [])
first_weighs after t None others = refl
first_weighs after t (Some f) others =
    let one = weigh_first (Round f.name) (after (f.place + 1) (table_after t (Round f.name))) in
    let rest = others f in
    omega (arith, one, rest)

-- each round of a run weighs one
pub turns_weigh : (k place : ℕ) (t : List JobParts) → weigh (turns k place t) ≡ length (turns k place t)
turns_weigh zero place t = refl
turns_weigh (suc k) place t = first_weighs (turns k) t (due t place) (λ f. turns_weigh k (f.place + 1) (table_after t (Round f.name)))
