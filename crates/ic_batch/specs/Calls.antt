-- How many calls to the disk a batch makes (this project's choice).
use Rattle.std.specs.Prelude.{ℕ, ◌+◌, ◌-◌, ◌*◌, ◌/◌, ◌<◌, ◌≤◌, min, ◌&&◌, List, [], ◌∷◌, length, if◌then◌else◌}
use Rattle.ic_disk.specs.declared.disk.Disk.{Ghosts}
use Rattle.ic_jobs.specs.declared.state.State.TheVariants.{Halted}
use Rattle.ic_jobs.specs.State.{is_running, state_eq}
use Rattle.ic_jobs.specs.Job.{JobParts}
use Rattle.ic_book.specs.declared.book.Book.{Book}
use Rattle.ic_book.specs.declared.limits.TheConstants.{SYSTEM_WEIGHT}
use Rattle.ic_book.specs.Weight.{weight_of}
use Rattle.ic_serving.specs.declared.limits.TheConstants.{PAGE_WEIGHT}
use Rattle.ic_book.specs.Book.{disk_of, log_of, table_of}
use Rattle.ic_batch.specs.declared.jobs.NewJob.{NewJob}
use Rattle.ic_batch.specs.Way.{all_of}

-- how many rounds took one job to another, and its halt with them
abbrev pub events_of : (from j : JobParts) → ℕ
events_of from j =
    (j.rounds - from.rounds) + (if is_running from.state && state_eq j.state Halted then 1 else 0)

-- the same of these jobs and those, one by one
abbrev pub events_in : (from t : List JobParts) → ℕ
events_in [] t = 0
events_in (x ∷ xs) [] = 0
events_in (x ∷ xs) (y ∷ ys) = events_of x y + events_in xs ys

-- how many jobs have come to a table
abbrev pub come_to : (old t : List JobParts) → ℕ
come_to old t = length t - length old

-- Where the page has room for the submits, the rounds and the halts that were made, at most six calls to
-- the disk are made for all submits, six for each `every` rounds and halts, and six at the end.
abbrev pub CallsFew : {D : Type 0} {ghosts : Ghosts D} → List NewJob → (every : ℕ)
    → (old new : Book D ghosts) → Type 0
CallsFew {D} {ghosts} jobs every old new =
    weight_of (log_of old) + (SYSTEM_WEIGHT * come_to (table_of old) (table_of new)
    + events_in (all_of jobs (table_of old)) (table_of new)) < PAGE_WEIGHT
    → ghosts.clock (disk_of new) ≤ ghosts.clock (disk_of old)
    + 6 * (min (come_to (table_of old) (table_of new)) 1
    + events_in (all_of jobs (table_of old)) (table_of new) / every + 1)
