use Rattle.std.proofs.Common.{◌≡◌, ◌++◌, ◌∷◌, [], List, Some, sym, subst, ◌∙◌}
use Rattle.std.specs.Prelude.{OnOk}
use Rattle.ic_flights.specs.Flight.{FlightParts}
use Rattle.ic_jobs.specs.declared.event.Event.TheVariants.{Round}
use Rattle.ic_jobs.specs.declared.reply.Reply.{Reply}
use Rattle.ic_jobs.specs.Landing.{due}
use Rattle.ic_book.specs.Book.{log_of, table_of}
use Rattle.ic_book.specs.Entries.{round_entry}
use Rattle.ic_book.specs.lemmas.Chains.{by_nothing}
use Rattle.ic_serving.specs.Booked.{Advances}
use Rattle.ic_serving.proofs.rounds.round_outside.Goals as goal

pub returns-in_err-flight-clause-done : goal.returns-in_err-flight-clause-done
returns-in_err-flight-clause-done g c = by_nothing c.args.book.now c.facts.ensures.step

pub returns-in_default-clause-done : goal.returns-in_default-clause-done
returns-in_default-clause-done g c = by_nothing c.args.book.now c.facts.ensures.step

pub returns-clause-advances : goal.returns-clause-advances
returns-clause-advances g c = λ flight is.
    let here : due (table_of c.args.book.now) c.args.after ≡ Some c.in-Some.flight = sym c.in_ok-flight.ensures.due ∙ c.in-Some.is in
    let same : c.in-Some.flight ≡ flight = cc in
    subst (λ (f : FlightParts). OnOk c.land_or_halt.result (Advances (Round f.name) c.args.book.now c.land_or_halt.new.book)) same c.land_or_halt.ensures.advances

pub returns-clause-added : goal.returns-clause-added
returns-clause-added g c = λ flight is.
    let here : due (table_of c.args.book.now) c.args.after ≡ Some c.in-Some.flight = sym c.in_ok-flight.ensures.due ∙ c.in-Some.is in
    let same : c.in-Some.flight ≡ flight = cc in
    subst (λ (f : FlightParts). OnOk c.land_or_halt.result ((reply : Reply) × (log_of c.land_or_halt.new.book ≡ log_of c.args.book.now ++ round_entry f.name reply ∷ []))) same c.land_or_halt.ensures.added

pub returns-clause-blocked : goal.returns-clause-blocked
returns-clause-blocked g c = λ flight is blocked.
    let here : due (table_of c.args.book.now) c.args.after ≡ Some c.in-Some.flight = sym c.in_ok-flight.ensures.due ∙ c.in-Some.is in
    let same : flight ≡ c.in-Some.flight = cc in
    c.land_or_halt.ensures.blocked (rw (sym same) blocked)
