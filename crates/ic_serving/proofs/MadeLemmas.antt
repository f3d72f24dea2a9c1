-- Which faults come in a run: one of workers only at a round that can be made.
use Rattle.std.proofs.Common.{◌≡◌, ◌⊎◌, inl, inr, ℕ, ◌+◌, ◌-◌, ◌<◌, List, ◌++◌, Bool, true, false, Option, None, Some, refl, sym, ap, subst, ◌∙◌}
use Rattle.std.specs.Prelude.{IsTrue}
use Rattle.ic_flights.specs.Flight.{FlightParts, is_blocked}
use Rattle.ic_jobs.specs.declared.event.Event.{Event}
use Rattle.ic_jobs.specs.declared.event.Event.TheVariants.{Round}
use Rattle.ic_jobs.specs.declared.reply.Reply.TheVariants.{Moved}
use Rattle.ic_jobs.specs.Job.{JobParts}
use Rattle.ic_jobs.specs.Table.{IsTable}
use Rattle.ic_jobs.specs.History.{reply_to, table_after}
use Rattle.ic_jobs.specs.Landing.{due, Awaits}
use Rattle.ic_lines.specs.Turns.{turns}
use Rattle.ic_book.specs.declared.fault.BookFault.TheVariants as of_book
use Rattle.ic_serving.specs.declared.fault.ServeFault.{ServeFault}
use Rattle.ic_serving.specs.declared.fault.ServeFault.TheVariants.{Book as by_book}
use Rattle.ic_serving.specs.Faults.{ComesUnmade}
use Rattle.ic_serving.specs.Parts.{IsBeforeRound}
use Rattle.ic_serving.specs.lemmas.Making.{due_moves}
use Rattle.ic_serving.proofs.RefusalLemmas.{not_unmade, of_due}
use Rattle.ic_serving.proofs.RunLemmas.{InRun, turns_step}

-- what is due is awaited
abbrev pub DueLaw : Type 0
DueLaw = (t : List JobParts) (after : ℕ) (f : FlightParts) → IsTable t → due t after ≡ Some f → Awaits t f.name f.rules f.config f.rounds

-- the round that is due is the next of the run
before_due : DueLaw → (t kept : List JobParts) (count made place : ℕ) (u w v : List JobParts) (f : FlightParts) → InRun t kept count made place u w → made < count
    → IsTable u → v ≡ u → due u place ≡ Some f → is_blocked f ≡ false → IsBeforeRound t (turns count 0 t) v
before_due law t kept count made place u w v f r less sound same is free = record {
  before = r.events;
  event = Round f.name;
  after = turns (count - (made + 1)) (f.place + 1) (table_after u (Round f.name));
  parted = r.parted ∙ ap (λ xs. r.events ++ xs) (turns_step count made place u (table_after u (Round f.name)) f less is refl);
  leaves = same ∙ r.leaves;
  made = subst (λ (x : List JobParts). reply_to x (Round f.name) ≡ Some Moved) (sym same) (due_moves u f sound (law u place f sound is) free);
}

-- where it is blocked, or nothing is due, no fault of workers comes
unmade_by : (t : List JobParts) (es : List Event) (v : List JobParts) (fault : ServeFault) (f : FlightParts) (b : Bool) → is_blocked f ≡ b
    → (IsTrue (is_blocked f) → ComesUnmade fault) → (is_blocked f ≡ false → IsBeforeRound t es v) → ComesUnmade fault ⊎ IsBeforeRound t es v
unmade_by t es v fault f true is blocked free = inl (blocked is)
unmade_by t es v fault f false is blocked free = inr (free is)

unmade_at : (t : List JobParts) (es : List Event) (place : ℕ) (u v : List JobParts) (fault : ServeFault) (o : Option FlightParts) → due u place ≡ o
    → (due u place ≡ None → (fault ≡ by_book of_book.Broken) ⊎ (fault ≡ by_book of_book.Memory))
    → ((f : FlightParts) → due u place ≡ Some f → IsTrue (is_blocked f) → ComesUnmade fault)
    → ((f : FlightParts) → due u place ≡ Some f → is_blocked f ≡ false → IsBeforeRound t es v) → ComesUnmade fault ⊎ IsBeforeRound t es v
unmade_at t es place u v fault None is nothing blocked free = inl (not_unmade fault (of_due fault (nothing is)))
unmade_at t es place u v fault (Some f) is nothing blocked free = unmade_by t es v fault f (is_blocked f) refl (blocked f is) (free f is)

pub run_unmade : DueLaw → (t kept : List JobParts) (count made place : ℕ) (u w v : List JobParts) (fault : ServeFault) → InRun t kept count made place u w → made < count
    → IsTable u → v ≡ u → (due u place ≡ None → (fault ≡ by_book of_book.Broken) ⊎ (fault ≡ by_book of_book.Memory))
    → ((f : FlightParts) → due u place ≡ Some f → IsTrue (is_blocked f) → ComesUnmade fault) → ComesUnmade fault ⊎ IsBeforeRound t (turns count 0 t) v
run_unmade law t kept count made place u w v fault r less sound same nothing blocked = unmade_at t (turns count 0 t) place u v fault (due u place) refl nothing blocked
    (λ f is free. before_due law t kept count made place u w v f r less sound same is free)
