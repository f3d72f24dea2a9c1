-- A round of a job that goes on, over a book.
use Rattle.std.proofs.Common.{◌≡◌, ℕ, List, [], ◌∷◌, true, false, Option, None, Some, sym, subst, ◌∙◌, true≢false}
use Rattle.std.specs.Prelude.{IfNone, IfSome, IsTrue, slice_get}
use Rattle.ic_disk.specs.declared.disk.Disk.{Ghosts}
use Rattle.ic_flights.specs.Flight.{FlightParts, is_blocked}
use Rattle.ic_jobs.specs.Job.{JobParts}
use Rattle.ic_jobs.specs.Table.{IsTable, with_changed}
use Rattle.ic_jobs.specs.Landing.{due}
use Rattle.ic_book.specs.declared.book.Book.{Book}
use Rattle.ic_book.specs.Book.{table_of}
use Rattle.ic_jobs.specs.declared.event.Event.TheVariants.{Round}
use Rattle.ic_serving.specs.Grown.{GoesOn, HasSpare}
use Rattle.ic_serving.specs.Booked.{MakesRound}
use Rattle.ic_serving.specs.Moments.{Leaves, IsKeptOrNow}
use Rattle.ic_serving.specs.declared.fault.ServeFault.{ServeFault}
use Rattle.ic_serving.specs.Faults.{ComesInLine, ComesUnmade}
use Rattle.ic_batch.specs.Faults.{ComesWith}
use Rattle.ic_batch.specs.Way.{goes_on, has_round, AreWays}
use Rattle.ic_batch.specs.inner.Staying.{Leads}
use Rattle.ic_batch.proofs.DueLemmas.{DueLaws, IsMade, at_place, if_blocked, made, made_over}
use Rattle.ic_batch.proofs.ComeLemmas.{cannot}
use Rattle.ic_batch.proofs.JobLemmas.{change, one_named, round_changes}
use Rattle.ic_batch.proofs.LeadLemmas.{leads_on}
use Rattle.ic_batch.proofs.WayLemmas.{runs, ways_more}
use Rattle.ic_serving.specs.declared.limits.TheConstants.{PAGE_WEIGHT}

-- the job at a place goes on
abbrev pub GoesAt : ℕ → List JobParts → ℕ → Type 0
GoesAt most t place = (job : JobParts) × (slice_get t place ≡ Some job) × (goes_on most job ≡ true)

-- jobs on their ways are so after a round
ways_made : (most : ℕ) (from t u : List JobParts) → IsTable t → IsMade most t u → AreWays most from t → AreWays most from u
ways_made most from t u is_table is ways =
    let same : u ≡ with_changed is.name (change is.job) t = is.table ∙ round_changes t is.name is.job is.there (runs most is.job is.goes) in
    subst (AreWays most from) (sym same) (ways_more most is.name is.job from t is.goes (one_named is.name t is.job is_table.distinct is.there) ways)

-- what a round makes of a book to which others have led
pub record OneRound {D : Type 0} {ghosts : Ghosts D} (most : ℕ) (old mid new : Book D ghosts) : Type 0 where
  pub made : IsMade most (table_of mid) (table_of new)
  pub leads : Leads (AreWays most (table_of old)) old new
  pub event : List ℕ
  pub page : HasSpare PAGE_WEIGHT mid → GoesOn (Round event ∷ []) mid new

pub one_round : {D : Type 0} {ghosts : Ghosts D} (laws : DueLaws) (most : ℕ) (old mid new : Book D ghosts) (t : List JobParts) → t ≡ table_of mid → IsTable t
    → (place : ℕ) → GoesAt most t place → (r : Option ℕ) → IfNone r (due (table_of mid) place ≡ None) → IfSome r (λ here. MakesRound PAGE_WEIGHT place here mid new)
    → Leaves mid new (IsKeptOrNow mid) → Leads (AreWays most (table_of old)) old mid → OneRound most old mid new
one_round laws most old mid new t same table place goes r idle makes crash so_far =
    let is_table = subst IsTable same table in
    let at = subst (λ (u : List JobParts). GoesAt most u place) same goes in
    let m = made_over laws most mid new is_table place at r idle makes in
    let is = made laws most (table_of mid) is_table place at.0 at.1 at.2 (table_of new) m.1.flight m.1.is_due m.1.advances.table in
    record {
      made = is;
      leads = leads_on (AreWays most (table_of old)) old mid new so_far
          (ways_made most (table_of old) (table_of mid) (table_of new) is_table is so_far.table) m.1.advances.kept crash;
      event = m.1.flight.name;
      page = m.1.page;
    }

-- which faults come at a round that leaves the jobs as they are
pub round_comes : (laws : DueLaws) (most : ℕ) (t u left : List JobParts) → u ≡ t → left ≡ t → IsTable u → (place : ℕ) → GoesAt most u place → (fault : ServeFault)
    → ComesInLine fault → ((f : FlightParts) → due t place ≡ Some f → IsTrue (is_blocked f) → ComesUnmade fault) → ComesWith most left fault
round_comes laws most t u left same stays table place goes fault causes blocked =
    let is_table = subst IsTable same table in
    let at = subst (λ (v : List JobParts). GoesAt most v place) same goes in
    subst (λ (v : List JobParts). ComesWith most v fault) (sym stays) (record {
      in_line = causes;
      ended = λ over. absurd (true≢false (sym at.2 ∙ at_place (λ j. goes_on most j ≡ false) t place at.0 over at.1));
      unmade = λ none.
          let now = at_place (λ j. has_round most j ≡ false) t place at.0 none at.1 in
          if_blocked laws most t is_table place at.0 at.1 at.2 (cannot most at.0 at.2 now) (ComesUnmade fault) blocked;
    })
