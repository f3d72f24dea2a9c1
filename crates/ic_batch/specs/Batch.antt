-- What a batch over a book leaves and writes (this project's choice).
use Rattle.std.specs.Prelude.{◌≡◌, ◌≢◌, ℕ, List, [], Option, Result, Err, IfErr, OnOk}
use Rattle.std.specs.Io.KnownBytes.{Appends, Keeps}
use Rattle.ic_disk.specs.declared.disk.Disk.{Ghosts}
use Rattle.ic_output.specs.Output.{AppendsFront}
use Rattle.ic_book.specs.declared.book.Book.{Book}
use Rattle.ic_book.specs.Book.{table_of}
use Rattle.ic_serving.specs.Booked.{last_kept, IsAllKept}
use Rattle.ic_serving.specs.Moments.{Leaves}
use Rattle.ic_serving.specs.declared.fault.ServeFault.TheVariants.{Write}
use Rattle.ic_batch.specs.declared.fault.BatchFault.{BatchFault}
use Rattle.ic_batch.specs.declared.fault.BatchFault.TheVariants.{Serve}
use Rattle.ic_batch.specs.declared.jobs.NewJob.{NewJob}
use Rattle.ic_batch.specs.Way.{fetched_all, AreOnWay, HaveEnded, IsKeptOr, IsTextOf, IsUnderWay}

-- What a batch makes of any book. Its jobs go on from where they are, and those that are missing begin
-- after them. So it is at each moment: a crash leaves such a table, or the one that was kept before.
--
-- At Ok each job has come to its end, all is kept, and what is written is just the answers to fetches
-- of the jobs that were to be there. At a fault of the writer it is the same, except that only a front
-- of this is written. At any other fault nothing is written.
pub record Brings {T : Type 0} {D : Type 0} {ghosts : Ghosts D} (result : Result T BatchFault) (most : ℕ)
    (jobs : List NewJob) (old new : Book D ghosts) (before after : Option (List ℕ)) : Type 0 where
  pub table : IsUnderWay most jobs (table_of old) (table_of new)
  pub last : IsKeptOr (last_kept old) (IsUnderWay most jobs (table_of old)) (last_kept new)
  pub crash : Leaves old new (IsKeptOr (last_kept old) (IsUnderWay most jobs (table_of old)))
  pub ended : OnOk result (HaveEnded most jobs (table_of old) (table_of new))
  pub kept : OnOk result (IsAllKept new)
  pub written : OnOk result (Appends before after (fetched_all jobs (table_of new)))
  pub ended_at_cut : result ≡ Err (Serve Write) → HaveEnded most jobs (table_of old) (table_of new)
  pub kept_at_cut : result ≡ Err (Serve Write) → IsAllKept new
  pub cut : result ≡ Err (Serve Write)
      → AppendsFront before after [] (fetched_all jobs (table_of new))
  pub silent : IfErr result (λ fault. fault ≢ Serve Write → Keeps before after)

-- a book's table and the one that was kept last have jobs on their way
pub record IsOnWay {D : Type 0} {ghosts : Ghosts D} (most : ℕ) (jobs : List NewJob)
    (book : Book D ghosts) : Type 0 where
  pub table : AreOnWay most jobs (table_of book)
  pub kept : AreOnWay most jobs (last_kept book)

-- What it makes of a book with jobs on their way. They are on their way after it, however it ends, and
-- in each table that a crash at any moment leaves. At Ok what is written is the text of the jobs.
pub record IsBatch {T : Type 0} {D : Type 0} {ghosts : Ghosts D} (result : Result T BatchFault) (most : ℕ)
    (jobs : List NewJob) (old new : Book D ghosts) : Type 0 where
  pub on_way : IsOnWay most jobs new
  pub crash : Leaves old new (AreOnWay most jobs)
  pub text : OnOk result (IsTextOf most jobs (fetched_all jobs (table_of new)))
  pub text_at_cut : result ≡ Err (Serve Write) → IsTextOf most jobs (fetched_all jobs (table_of new))
