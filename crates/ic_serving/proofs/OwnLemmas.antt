-- Rounds in the lists of their jobs, and the rounds after a try that made none.
use Rattle.std.proofs.Common.{◌≡◌, ◌⊎◌, inl, inr, ⊎_elim, ℕ, ◌+◌, ◌-◌, ◌≤◌, List, ◌∷◌, [], ◌++◌, Option, None, Some, Result, Ok, Err, length, refl, sym, ap, subst, ◌∙◌}
use Rattle.std.specs.Prelude.{OnOk, OnErr}
use Rattle.std.specs.Option.{option_map}
use Rattle.ic_disk.specs.declared.disk.Disk.{Ghosts}
use Rattle.ic_flights.specs.Flight.{FlightParts}
use Rattle.ic_jobs.specs.declared.event.Entry.{Entry}
use Rattle.ic_jobs.specs.declared.event.Event.{Event}
use Rattle.ic_jobs.specs.declared.event.Event.TheVariants.{Round}
use Rattle.ic_jobs.specs.declared.reply.Reply.{Reply}
use Rattle.ic_jobs.specs.Job.{JobParts}
use Rattle.ic_jobs.specs.History.{table_after}
use Rattle.ic_slots.specs.declared.keeper.Keeper.{Keeper}
use Rattle.ic_slots.specs.Keeper as keeper_parts
use Rattle.ic_book.specs.declared.book.Book.{Book}
use Rattle.ic_book.specs.Book.{start_of, log_of, table_of, kept_of, keeper_of, IsUnchanged}
use Rattle.ic_book.specs.Entries.{round_entry}
use Rattle.ic_book.specs.Left.{table_kept}
use Rattle.ic_serving.specs.declared.fault.ServeFault.{ServeFault}
use Rattle.ic_serving.specs.Booked.{last_kept, unkept_of, Advances}
use Rattle.ic_serving.specs.Faults.{CountsServe, StaysReady}
use Rattle.ic_serving.specs.Moments.{FaultLeaves}

-- ---- what is due, by its name

pub named_due : (o : Option FlightParts) (name : List ℕ) → option_map (λ (f : FlightParts). f.name) o ≡ Some name
    → (f : FlightParts) × ((o ≡ Some f) × (f.name ≡ name))
named_due None name e = cc
named_due (Some f) name e = (f, (refl, (let same : f.name ≡ name = cc in same)))

pub placed_due : (o : Option FlightParts) (place : ℕ) (name : List ℕ) → option_map {U = ℕ × List ℕ} (λ (f : FlightParts). (f.place, f.name)) o ≡ Some (place, name)
    → (f : FlightParts) × ((o ≡ Some f) × ((f.place ≡ place) × (f.name ≡ name)))
placed_due None place name e = cc
placed_due (Some f) place name e =
    let same : (f.place, f.name) ≡ (place, name) = cc in (f, (refl, (ap (λ (p : ℕ × List ℕ). p.0) same, ap (λ (p : ℕ × List ℕ). p.1) same)))

-- ---- by the answer

pub on_ok_then : {T E : Type 0} (r : Result T E) (P Q : Type 0) → (P → Q) → OnOk r P → OnOk r Q
on_ok_then (Ok v) P Q f p = f p
on_ok_then (Err e) P Q f p = tt

pub on_err_then : {T E : Type 0} (r : Result T E) (P Q : Type 0) → (P → Q) → OnErr r P → OnErr r Q
on_err_then (Ok v) P Q f p = tt
on_err_then (Err e) P Q f p = f p

-- ---- after a try that has changed nothing

module _ {D : Type 0} {ghosts : Ghosts D} (old mid new : Book D ghosts) (same : IsUnchanged old mid) where
  last_same : last_kept mid ≡ last_kept old
  last_same = λ i. table_kept (same.same_start i) (same.same_log i) (same.same_kept i)

  pub advances_after : (e : Event) → Advances e mid new → Advances e old new
  advances_after e is = record {
    table = is.table ∙ ap (λ (t : List JobParts). table_after t e) same.same_table;
    kept = ⊎_elim
        (λ (a : last_kept new ≡ last_kept mid). inl (a ∙ last_same))
        (λ (a : last_kept new ≡ table_of mid). inr (a ∙ same.same_table)) is.kept;
  }

  pub added_after : (name : List ℕ) → (reply : Reply) × (log_of new ≡ log_of mid ++ round_entry name reply ∷ [])
      → (reply : Reply) × (log_of new ≡ log_of old ++ round_entry name reply ∷ [])
  added_after name is = (is.0, is.1 ∙ ap (λ (es : List Entry). es ++ round_entry name is.0 ∷ []) same.same_log)

  pub unchanged_after : IsUnchanged mid new → IsUnchanged old new
  unchanged_after is = record {
    same_start = is.same_start ∙ same.same_start;
    same_log = is.same_log ∙ same.same_log;
    same_table = is.same_table ∙ same.same_table;
    same_kept = is.same_kept ∙ same.same_kept;
    same_keeper = is.same_keeper ∙ same.same_keeper;
  }

  unkept_same : unkept_of mid ≡ unkept_of old
  unkept_same = λ i. length (same.same_log i) - same.same_kept i

  pub one_after : unkept_of new ≤ unkept_of mid + 1 → unkept_of new ≤ unkept_of old + 1
  one_after is = subst (λ (n : ℕ). unkept_of new ≤ n + 1) unkept_same is

  -- what a call says of the keeper that it found
  pub fault_after : {T : Type 0} (may : ServeFault → Type 0) (r : Result T ServeFault) → FaultLeaves may r mid new → FaultLeaves may r old new
  fault_after may r is = record {
    causes = is.causes;
    counted = subst (λ (k : Keeper D ghosts). CountsServe r (ghosts.failures (keeper_parts.disk_of k)) (ghosts.failures (keeper_parts.disk_of (keeper_of new)))) same.same_keeper is.counted;
    ready = λ whole. is.ready (ap (λ (k : Keeper D ghosts). keeper_parts.is_broken k) same.same_keeper ∙ whole);
    breaks = λ whole. is.breaks (ap (λ (k : Keeper D ghosts). keeper_parts.is_broken k) same.same_keeper ∙ whole);
  }
