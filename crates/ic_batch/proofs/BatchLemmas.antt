-- What a batch brings, by how it ends.
use Rattle.std.proofs.Common.{◌≡◌, ◌≢◌, inl, inr, ℕ, List, [], Option, None, Some, Result, Ok, Err, refl, sym, subst, append-nil}
use Rattle.std.specs.Prelude.{IfErr, OnOk, OnErr, false}
use Rattle.std.specs.List.{AllByRecursion, IsDistinct}
use Rattle.std.specs.Str.{bytes_eq}
use Rattle.std.specs.Io.KnownBytes.{Appends, Keeps}
use Rattle.ic_disk.specs.declared.disk.Disk.{Ghosts}
use Rattle.ic_output.specs.Output.{AppendsFront}
use Rattle.ic_jobs.specs.Job.{JobParts}
use Rattle.ic_book.specs.declared.book.Book.{Book}
use Rattle.ic_book.specs.Book.{table_of}
use Rattle.ic_serving.specs.Booked.{last_kept, IsAllKept}
use Rattle.ic_serving.specs.Moments.{Leaves}
use Rattle.ic_serving.specs.Faults.{ComesInLine}
use Rattle.ic_serving.specs.declared.fault.ServeFault.{ServeFault}
use Rattle.ic_serving.specs.declared.fault.ServeFault.TheVariants.{Write}
use Rattle.ic_serving.specs.lemmas.Leaving.{leaves_more}
use Rattle.ic_batch.specs.declared.fault.BatchFault.{BatchFault}
use Rattle.ic_batch.specs.declared.fault.BatchFault.TheVariants.{Taken, Serve}
use Rattle.ic_batch.specs.declared.jobs.NewJob.{NewJob}
use Rattle.ic_batch.specs.Faults.{IsTaken}
use Rattle.ic_batch.specs.Jobs.{names}
use Rattle.ic_batch.specs.Way.{all_of, fetched_all, goes_on, missing, AreOnWay, AreWays, HaveEnded, IsKeptOr, IsTextOf, IsUnderWay}
use Rattle.ic_batch.specs.Batch.{Brings, IsBatch, IsOnWay}
use Rattle.ic_batch.specs.inner.Staying.{AreBegun, Leads}
use Rattle.ic_batch.proofs.LeadLemmas.{leads_more, leads_then}
use Rattle.ic_batch.proofs.KeepLemmas.{keeps_on_way, text_at_end}
use Rattle.ic_batch.proofs.WayLemmas.{ways_end, ways_same}

keeps_same : (c : Option (List ℕ)) → Keeps c c
keeps_same None = tt
keeps_same (Some bytes) = refl

-- a fault of a call over a book isn't the writer's
pub not_writing : (fault : ServeFault) → ComesInLine fault → Serve fault ≢ Serve Write
not_writing Write comes = absurd comes
not_writing fault comes = λ e. cc

-- another fault than the writer's
pub not_write : (jobs : List NewJob) (t : List JobParts) (fault : BatchFault) → IsTaken jobs t fault → fault ≢ Serve Write
not_write jobs t (Taken name is) taken = λ e. cc
not_write jobs t fault taken = absurd taken

-- ---- tables

pub under_begun : (most : ℕ) (jobs : List NewJob) (t u : List JobParts) → AreBegun jobs t u → IsUnderWay most jobs t u
under_begun most jobs t u begun = record {
  front = begun.front;
  rest = begun.rest;
  parted = begun.parted;
  ways = subst (λ (from : List JobParts). AreWays most from u) begun.table (ways_same most u);
}

pub under_none : (most : ℕ) (jobs : List NewJob) (t : List JobParts) → IsUnderWay most jobs t t
under_none most jobs t = under_begun most jobs t t (record { front = []; rest = missing t jobs; parted = refl; table = sym (append-nil t) })

-- all are there, and on their ways
pub under_all : (most : ℕ) (jobs : List NewJob) (t u v : List JobParts) → u ≡ all_of jobs t → AreWays most u v → IsUnderWay most jobs t v
under_all most jobs t u v all ways = record {
  front = missing t jobs;
  rest = [];
  parted = sym (append-nil (missing t jobs));
  ways = subst (λ (from : List JobParts). AreWays most from v) all ways;
}

pub all_ended : (most : ℕ) (jobs : List NewJob) (t u v : List JobParts) → u ≡ all_of jobs t → AreWays most u v → AllByRecursion (λ j. goes_on most j ≡ false) v → HaveEnded most jobs t v
all_ended most jobs t u v all ways over = ways_end most (all_of jobs t) v (subst (λ (from : List JobParts). AreWays most from v) all ways) over

-- submits and rounds of a book
pub leads_under : {D : Type 0} {ghosts : Ghosts D} (most : ℕ) (jobs : List NewJob) (old mid new : Book D ghosts) → Leads (AreBegun jobs (table_of old)) old mid
    → table_of mid ≡ all_of jobs (table_of old) → Leads (AreWays most (table_of mid)) mid new → Leads (IsUnderWay most jobs (table_of old)) old new
leads_under most jobs old mid new begun all rounds =
    let such = IsUnderWay most jobs (table_of old) in
    leads_then such (AreWays most (table_of mid)) old mid new
    (leads_more (AreBegun jobs (table_of old)) such old mid begun (λ u is. under_begun most jobs (table_of old) u is)) rounds
    (λ u ways. under_all most jobs (table_of old) (table_of mid) u all ways)

-- nothing was done
pub leads_none : {D : Type 0} {ghosts : Ghosts D} (most : ℕ) (jobs : List NewJob) (book : Book D ghosts) → Leaves book book (IsKeptOr (last_kept book) (IsUnderWay most jobs (table_of book)))
    → Leads (IsUnderWay most jobs (table_of book)) book book
leads_none most jobs book crash = record { table = under_none most jobs (table_of book); kept = inl refl; crash = crash }

-- ---- how it ends

module _ {D : Type 0} {ghosts : Ghosts D} (most : ℕ) (jobs : List NewJob) where
  -- a fault ended it, and nothing was written
  pub brings_less : {T : Type 0} (r : Result T BatchFault) (old new : Book D ghosts) (bytes : Option (List ℕ)) → OnOk r ⊥ → IfErr r (λ fault. fault ≢ Serve Write)
      → Leads (IsUnderWay most jobs (table_of old)) old new → Brings r most jobs old new bytes bytes
  brings_less (Ok value) old new bytes ended other leads = absurd ended
  brings_less (Err fault) old new bytes ended other leads = record {
    table = leads.table;
    last = leads.kept;
    crash = leads.crash;
    ended = tt;
    kept = tt;
    written = tt;
    ended_at_cut = λ is. absurd (other (let e : fault ≡ Serve Write = cc in e));
    kept_at_cut = λ is. absurd (other (let e : fault ≡ Serve Write = cc in e));
    cut = λ is. absurd (other (let e : fault ≡ Serve Write = cc in e));
    silent = λ not. keeps_same bytes;
  }

  -- the text was written, or a front of it
  pub brings_all : {T : Type 0} (r : Result T BatchFault) (old new : Book D ghosts) (before after : Option (List ℕ)) (text : List ℕ) → text ≡ fetched_all jobs (table_of new)
      → HaveEnded most jobs (table_of old) (table_of new) → IsAllKept new → OnOk r (Appends before after text) → OnErr r (AppendsFront before after [] text)
      → IfErr r (λ fault. fault ≡ Serve Write) → Leads (IsUnderWay most jobs (table_of old)) old new → Brings r most jobs old new before after
  brings_all (Ok value) old new before after text is ended all written cut refused leads = record {
    table = leads.table;
    last = leads.kept;
    crash = leads.crash;
    ended = ended;
    kept = all;
    written = subst (λ (l : List ℕ). Appends before after l) is written;
    ended_at_cut = λ e. cc;
    kept_at_cut = λ e. cc;
    cut = λ e. cc;
    silent = tt;
  }
  brings_all (Err fault) old new before after text is ended all written cut refused leads = record {
    table = leads.table;
    last = leads.kept;
    crash = leads.crash;
    ended = tt;
    kept = tt;
    written = tt;
    ended_at_cut = λ e. ended;
    kept_at_cut = λ e. all;
    cut = λ e. subst (λ (l : List ℕ). AppendsFront before after [] l) is cut;
    silent = λ not. absurd (not refused);
  }

on_ok : {T : Type 0} (r : Result T BatchFault) (P Q : Type 0) → (P → Q) → OnOk r P → OnOk r Q
on_ok (Ok value) P Q so is = so is
on_ok (Err fault) P Q so is = tt

-- where jobs were on their way
module _ {T : Type 0} {D : Type 0} {ghosts : Ghosts D} (r : Result T BatchFault) (most : ℕ) (jobs : List NewJob) (old new : Book D ghosts) (before after : Option (List ℕ))
    (distinct : IsDistinct bytes_eq (names jobs)) (on : IsOnWay most jobs old) (brings : Brings r most jobs old new before after) where
  still : (u : List JobParts) → IsUnderWay most jobs (table_of old) u → AreOnWay most jobs u
  still u under = keeps_on_way most jobs (table_of old) u under distinct on.table

  either : (u : List JobParts) → IsKeptOr (last_kept old) (IsUnderWay most jobs (table_of old)) u → AreOnWay most jobs u
  either u (inl same) = subst (AreOnWay most jobs) (sym same) on.kept
  either u (inr under) = still u under

  text : HaveEnded most jobs (table_of old) (table_of new) → IsTextOf most jobs (fetched_all jobs (table_of new))
  text ended = text_at_end most jobs (table_of old) (table_of new) ended (still (table_of new) brings.table)

  pub is_batch : IsBatch r most jobs old new
  is_batch = record {
    on_way = record { table = still (table_of new) brings.table; kept = either (last_kept new) brings.last };
    crash = leaves_more old new (IsKeptOr (last_kept old) (IsUnderWay most jobs (table_of old))) (AreOnWay most jobs) brings.crash either;
    text = on_ok r (HaveEnded most jobs (table_of old) (table_of new)) (IsTextOf most jobs (fetched_all jobs (table_of new))) text brings.ended;
    text_at_cut = λ is. text (brings.ended_at_cut is);
  }
