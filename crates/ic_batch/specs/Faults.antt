-- What the faults of a batch say (this project's choice).
use Rattle.std.specs.Prelude.{◌≡◌, ◌≢◌, ◌⊎◌, ◌+◌, ◌<◌, ◌≤◌, ℕ, List, [], ◌∷◌, ◌++◌, Some, Ok, Err, IfSome, Bool, true, false, not, length, map}
use Rattle.std.specs.List.{count_by, list_any, AllByRecursion, IsDistinct}
use Rattle.std.specs.Str.{bytes_eq}
use Rattle.ic_text.specs.declared.fault.TextFault.TheVariants.{Syntax}
use Rattle.ic_jobs.specs.declared.command.Command.{Command}
use Rattle.ic_jobs.specs.declared.limits.TheConstants.{MAX_JOBS}
use Rattle.ic_jobs.specs.declared.reply.Reply.TheVariants as reply
use Rattle.ic_jobs.specs.Events.{after_command}
use Rattle.ic_jobs.specs.Job.{JobParts}
use Rattle.ic_jobs.specs.Memory.{is_submit}
use Rattle.ic_jobs.specs.Table.{job_named}
use Rattle.ic_text.specs.Token.{is_blank}
use Rattle.ic_lines.specs.Lines.{lines}
use Rattle.ic_lines.specs.Script.{ReadsScript}
use Rattle.ic_disk.specs.declared.disk.Disk.{Ghosts}
use Rattle.ic_book.specs.declared.book.Book.{Book}
use Rattle.ic_book.specs.Book.{disk_of, is_broken, number_of, table_of, IsUnchanged}
use Rattle.ic_book.specs.declared.fault.BookFault.TheVariants as of_book
use Rattle.ic_serving.specs.Faults.{ComesInLine, ComesUnmade, ComesWithoutRound, CountsServe, StaysReady}
use Rattle.ic_serving.specs.declared.fault.ServeFault.{ServeFault}
use Rattle.ic_serving.specs.declared.fault.ServeFault.TheVariants.{Write, Book as by_book, Memory as NoMemory}
use Rattle.ic_batch.specs.declared.fault.BatchFault.{BatchFault}
use Rattle.ic_batch.specs.declared.fault.BatchFault.TheVariants.{Taken, Full, Serve}
use Rattle.ic_batch.specs.declared.fault.Difference.{Difference}
use Rattle.ic_batch.specs.declared.fault.Difference.TheVariants as difference
use Rattle.ic_batch.specs.declared.fault.JobsCause.{JobsCause}
use Rattle.ic_batch.specs.declared.fault.JobsCause.TheVariants as cause
use Rattle.ic_batch.specs.declared.fault.JobsFault.{JobsFault}
use Rattle.ic_batch.specs.declared.fault.JobsFault.TheVariants.{Line, Read, Memory}
use Rattle.ic_batch.specs.declared.jobs.NewJob.{NewJob}
use Rattle.ic_batch.specs.Jobs.{begun_by, names, submit_of}
use Rattle.ic_batch.specs.Way.{goes_on, has_round, missing}

-- ---- of lines

-- Why a command is refused after these jobs: it is no submit, or a table of these jobs refuses it.
abbrev pub IsRefused : List NewJob → Command → JobsCause → Type 0
IsRefused jobs command (cause.Text fault) = (fault ≡ Syntax) × (is_submit command ≡ false)
IsRefused jobs command (cause.Refused why) = (is_submit command ≡ true)
    × ((after_command (map begun_by jobs) command).reply ≡ reply.Refused why)

-- a line has a byte that isn't blank
abbrev pub has_text : List ℕ → Bool
has_text line = list_any (λ b. not (is_blank b)) line

-- The line of this number isn't blank, and so many of those before it aren't.
pub record IsLineAfter (text : List ℕ) (many number : ℕ) : Type 0 where
  pub before : List (List ℕ)
  pub this : List ℕ
  pub after : List (List ℕ)
  pub parted : lines text ≡ before ++ this ∷ after
  pub numbered : number ≡ length before + 1
  pub counted : count_by has_text before ≡ many
  pub some : has_text this ≡ true

-- The lines can be read, and the command after those of these jobs is refused. It is that of the line with this number.
pub record StopsAt (text : List ℕ) (number : ℕ) (is : JobsCause) : Type 0 where
  pub jobs : List NewJob
  pub command : Command
  pub after : List Command
  pub read : ReadsScript text (Ok (map submit_of jobs ++ command ∷ after))
  pub distinct : IsDistinct bytes_eq (names jobs)
  pub few : length jobs ≤ MAX_JOBS
  pub refused : IsRefused jobs command is
  pub line : IsLineAfter text (length jobs) number

-- A line can't be read: this is the first one, and its fault.
abbrev pub IsUnread : List ℕ → (line : ℕ) → JobsCause → Type 0
IsUnread text line (cause.Text fault) = ReadsScript text (Err (record { line = line; fault = fault }))
IsUnread text line (cause.Refused why) = ⊥

-- what a fault says of lines
abbrev pub SaysOfLines : List ℕ → JobsFault → Type 0
SaysOfLines text (Line line is) = IsUnread text line is ⊎ StopsAt text line is
SaysOfLines text Read = ⊥
SaysOfLines text Memory = Unit {0}

-- the lasting numbers of the faults of lines
abbrev pub jobs_fault_number : JobsFault → ℕ
jobs_fault_number (Line line is) = 1
jobs_fault_number Read = 2
jobs_fault_number Memory = 3

-- all of them, in the order of their lasting numbers
abbrev pub all_jobs_faults : ℕ → JobsCause → List JobsFault
all_jobs_faults line is = Line line is ∷ Read ∷ Memory ∷ []

-- ---- of a book

-- the first thing in which a job differs from one that is to be there
abbrev pub Differs : NewJob → JobParts → Difference → Type 0
Differs new j difference.Rules = j.rules ≢ new.system.rules
Differs new j difference.Budget = (j.rules ≡ new.system.rules) × (j.budget ≢ new.budget)
Differs new j difference.Start = (j.rules ≡ new.system.rules) × (j.budget ≡ new.budget)
    × (j.rounds ≡ 0) × (j.config ≢ new.system.config)

-- a job differs in nothing from one that is to be there
abbrev pub IsSame : NewJob → JobParts → Type 0
IsSame new j = (is : Difference) → ¬ Differs new j is

-- where a table has jobs of these names, they are the same
abbrev pub AreSame : List NewJob → List JobParts → Type 0
AreSame jobs t = AllByRecursion (λ new. IfSome (job_named new.name t) (IsSame new)) jobs

-- a table has another job of the name of one of these, and this is the first one
pub record HasAnother (jobs : List NewJob) (t : List JobParts) (name : List ℕ)
    (is : Difference) : Type 0 where
  pub before : List NewJob
  pub new : NewJob
  pub after : List NewJob
  pub among : jobs ≡ before ++ new ∷ after
  pub first : AreSame before t
  pub named : new.name ≡ name
  pub job : JobParts
  pub there : job_named name t ≡ Some job
  pub differs : Differs new job is

-- there is no room for those that are missing
abbrev pub HasNoRoom : List NewJob → List JobParts → Type 0
HasNoRoom jobs t = MAX_JOBS < length t + length (missing t jobs)

-- Which faults of calls and rounds come where these jobs are left: none of the pool where none of them
-- goes on, and of the pool only that memory ran out where no round of them is to be made.
pub record ComesWith (most : ℕ) (js : List JobParts) (fault : ServeFault) : Type 0 where
  pub in_line : ComesInLine fault
  pub ended : AllByRecursion (λ j. goes_on most j ≡ false) js → ComesWithoutRound fault
  pub unmade : AllByRecursion (λ j. has_round most j ≡ false) js → ComesUnmade fault

-- which come over a broken book: that it is broken, and that memory ran out
abbrev pub ComesOverBroken : ServeFault → Type 0
ComesOverBroken fault = (fault ≡ by_book of_book.Broken) ⊎ (fault ≡ NoMemory)

-- A call to the book, a round, a growth or the writer failed, by a fault that comes with the jobs that
-- are left. Each failure of the disk is counted, and breaks the book.
pub record Fails {D : Type 0} {ghosts : Ghosts D} (most : ℕ) (fault : ServeFault)
    (old new : Book D ghosts) : Type 0 where
  pub comes : (fault ≡ Write) ⊎ ComesWith most (table_of new) fault
  pub broken : is_broken old ≡ true → ComesOverBroken fault
  pub counted : CountsServe {T = Unit {0}} (Err fault) (ghosts.failures (disk_of old)) (ghosts.failures (disk_of new))
  pub breaks : is_broken old ≡ false → StaysReady fault (is_broken new) (number_of new)

-- What a fault says. Nothing is done where another job has one of the names, and else where there is no
-- room. No other fault comes in these cases.
abbrev pub Says : {D : Type 0} {ghosts : Ghosts D} → (most : ℕ) → List NewJob
    → (old new : Book D ghosts) → BatchFault → Type 0
Says most jobs old new (Taken name is) = HasAnother jobs (table_of old) name is × IsUnchanged old new
Says most jobs old new Full = AreSame jobs (table_of old) × HasNoRoom jobs (table_of old)
    × IsUnchanged old new
Says most jobs old new (Serve fault) = AreSame jobs (table_of old)
    × ¬ HasNoRoom jobs (table_of old) × Fails most fault old new

-- What holds where there was no fault: no other job had one of the names, no failure of the disk is
-- counted, and the book wasn't broken and isn't.
pub record Succeeds {D : Type 0} {ghosts : Ghosts D} (jobs : List NewJob) (old new : Book D ghosts)
    : Type 0 where
  pub same : AreSame jobs (table_of old)
  pub counted : ghosts.failures (disk_of new) ≡ ghosts.failures (disk_of old)
  pub unbroken : is_broken old ≡ false
  pub whole : is_broken new ≡ false

-- a fault says that a table has another job
abbrev pub IsTaken : List NewJob → List JobParts → BatchFault → Type 0
IsTaken jobs t (Taken name is) = HasAnother jobs t name is
IsTaken jobs t Full = ⊥
IsTaken jobs t (Serve fault) = ⊥

-- the lasting numbers of the faults
abbrev pub batch_fault_number : BatchFault → ℕ
batch_fault_number (Taken name is) = 1
batch_fault_number Full = 2
batch_fault_number (Serve fault) = 3

-- all faults, in the order of their lasting numbers
abbrev pub all_batch_faults : List ℕ → Difference → ServeFault → List BatchFault
all_batch_faults name is of_serving = Taken name is ∷ Full ∷ Serve of_serving ∷ []
