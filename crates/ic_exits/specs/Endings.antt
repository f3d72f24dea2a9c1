-- What the program makes of its failures, by cases over all of them (this project's choice).
use Rattle.std.specs.Prelude.{ℕ, List, [], ◌∷◌, ◌++◌, Option, None, Some, Result, Ok, Err, codes, string_bytes, if◌then◌else◌}
use Rattle.std.specs.Fmt.{decimal}
use Rattle.ic_disk.specs.declared.disk.DiskFault.{DiskFault}
use Rattle.ic_causes.specs.declared.cause.Cause.{Cause}
use Rattle.ic_causes.specs.Locks.{is_locked}
use Rattle.ic_jobs.specs.declared.reply.Reply.TheVariants.{Refused as refused}
use Rattle.ic_commands.specs.ReplyText.{reply_text}
use Rattle.ic_text.specs.Text.{fault_text}
use Rattle.ic_batch.specs.declared.fault.JobsCause.{JobsCause}
use Rattle.ic_batch.specs.declared.fault.JobsCause.TheVariants as line
use Rattle.ic_batch.specs.declared.fault.JobsFault.{JobsFault}
use Rattle.ic_batch.specs.declared.fault.JobsFault.TheVariants as jobs
use Rattle.ic_batch.specs.declared.fault.BatchFault.{BatchFault}
use Rattle.ic_batch.specs.declared.fault.BatchFault.TheVariants as batch
use Rattle.ic_round.specs.declared.round_fault.RoundFault.{RoundFault}
use Rattle.ic_round.specs.declared.round_fault.RoundFault.TheVariants as round
use Rattle.ic_frames.specs.declared.faults.OpenCause.{OpenCause}
use Rattle.ic_frames.specs.declared.faults.OpenCause.TheVariants as opening
use Rattle.ic_frames.specs.declared.faults.KeepFault.{KeepFault}
use Rattle.ic_frames.specs.declared.faults.KeepFault.TheVariants as keep
use Rattle.ic_keeping.specs.declared.fault.KeepingFault.{KeepingFault}
use Rattle.ic_keeping.specs.declared.fault.KeepingFault.TheVariants as keeping
use Rattle.ic_slots.specs.declared.fault.CreateFault.{CreateFault}
use Rattle.ic_slots.specs.declared.fault.CreateFault.TheVariants as creating
use Rattle.ic_streams.specs.declared.fault.StreamFault.{StreamFault}
use Rattle.ic_streams.specs.declared.fault.StreamFault.TheVariants as stream
use Rattle.ic_serving.specs.declared.fault.ServeFault.{ServeFault}
use Rattle.ic_serving.specs.declared.fault.ServeFault.TheVariants as serve
use Rattle.ic_lines.specs.declared.script.ScriptFault.{ScriptFault}
use Rattle.ic_scripts.specs.Telling.{book_word}
use Rattle.ic_scripts.specs.declared.fault.ScriptsFault.{ScriptsFault}
use Rattle.ic_scripts.specs.declared.fault.ScriptsFault.TheVariants as scripts
use Rattle.ic_dump.specs.declared.fault.DumpFault.{DumpFault}
use Rattle.ic_dump.specs.declared.fault.DumpFault.TheVariants as dump
use Rattle.ic_dump.specs.declared.fault.DiskDumpFault.{DiskDumpFault}
use Rattle.ic_dump.specs.declared.fault.DiskDumpFault.TheVariants as disk_dump
use Rattle.ic_inspect.specs.declared.fault.InspectFault.{InspectFault}
use Rattle.ic_inspect.specs.declared.fault.InspectFault.TheVariants as inspect
use Rattle.ic_args.specs.declared.words.WordsFault.TheVariants as words
use Rattle.ic_exits.specs.declared.failure.Failure.{Failure}
use Rattle.ic_exits.specs.declared.failure.Failure.TheVariants.{Words, Stream, Disk, Locked, Create, NotEmpty, Open, Serve, Attend, Dump, Inspect, Jobs, Batch, Faults, NotDone}
use Rattle.ic_exits.specs.declared.failure.Failure.TheVariants.{Overgrown, TableFull, OutOfMemory, Kept, OtherOrder, Halted}
use Rattle.ic_exits.specs.declared.failure.Reached.{Reached}
use Rattle.ic_in_place.specs.declared.running.End.{End}
use Rattle.ic_in_place.specs.declared.running.End.TheVariants as end

-- the exit status of `attend`: 1 for a refused script, 3 for a disk that isn't opened, 4 for all
-- else
abbrev pub scripts_status : ScriptsFault → ℕ
scripts_status (scripts.Script place refusal) = 1
scripts_status (scripts.Open cause) = 3
scripts_status scripts.Read = 4
scripts_status scripts.NoThread = 4
scripts_status scripts.Torn = 4
scripts_status (scripts.Book fault) = 4
scripts_status (scripts.Pool fault) = 4
scripts_status scripts.Memory = 4
scripts_status scripts.Write = 4

-- the exit status of `dump`: 1 for a job that isn't there or whose line is too long, 4 for all else
abbrev pub dump_status : DumpFault → ℕ
dump_status (dump.NoJob name) = 1
dump_status (dump.TooLong name) = 1
dump_status dump.Memory = 4
dump_status dump.Write = 4

-- the exit status of `inspect`: 3 for a file that can't be read, or was written meanwhile, 4 for all
-- else
abbrev pub inspect_status : InspectFault → ℕ
inspect_status inspect.Read = 3
inspect_status inspect.Changed = 3
inspect_status inspect.Memory = 4
inspect_status inspect.Write = 4

-- the exit status of `batch` for its lines: 1 for a line that gives no job, 4 for all else
abbrev pub jobs_status : JobsFault → ℕ
jobs_status (jobs.Line line cause) = 1
jobs_status jobs.Read = 4
jobs_status jobs.Memory = 4

-- the exit status of `batch` for jobs: 1 where the disk has others, 4 for all else
abbrev pub batch_status : BatchFault → ℕ
batch_status (batch.Taken name difference) = 1
batch_status batch.Full = 1
batch_status (batch.Serve fault) = 4

-- the exit status of a reduction that is kept: 3 for files that it isn't kept in, 1 for a net that is too
-- large, 4 for all else
abbrev pub kept_status : KeepingFault → ℕ
kept_status keeping.NotEmpty = 3
kept_status keeping.Device = 3
kept_status (keeping.Open cause) = 3
kept_status keeping.Unsound = 3
kept_status keeping.Limit = 1
kept_status keeping.Memory = 4
kept_status (keeping.Keep fault) = 4

-- the exit status: 1 for a refused text, round or job and for a net that is too large, 2 for refused
-- words, 3 for a disk, 5 for rounds or interactions that didn't suffice, 6 for a disk that another
-- server has, 7 for jobs that were halted, 4 for all else
abbrev pub status_of : Failure → ℕ
status_of (Words (words.Words text)) = 2
status_of (Words words.Memory) = 4
status_of (Stream stream.Read) = 4
status_of (Stream (stream.Text fault)) = 1
status_of (Stream (stream.Round fault)) = 1
status_of (Stream stream.Memory) = 4
status_of (Stream stream.Write) = 4
status_of (Disk fault) = 3
status_of (Create fault) = 3
status_of NotEmpty = 3
status_of (Open cause) = 3
status_of (Serve fault) = 4
status_of (Attend fault) = scripts_status fault
status_of (Dump fault) = dump_status fault
status_of (Inspect fault) = inspect_status fault
status_of (Jobs fault) = jobs_status fault
status_of (Batch fault) = batch_status fault
status_of Locked = 6
status_of (Halted lines) = 7
status_of Faults = 1
status_of NotDone = 5
status_of (Overgrown reached nodes) = 1
status_of (TableFull reached) = 1
status_of (OutOfMemory reached) = 4
status_of (Kept fault) = kept_status fault
status_of (OtherOrder by_rounds) = 3

-- why a round isn't made
abbrev pub round_word : RoundFault → List ℕ
round_word round.Overgrown = codes "overgrown"
round_word round.NamesOut = codes "names out"
round_word round.Memory = codes "memory"

-- why a stream isn't answered
abbrev pub stream_word : StreamFault → List ℕ
stream_word stream.Read = codes "read"
stream_word (stream.Text fault) = fault_text fault
stream_word (stream.Round fault) = round_word fault
stream_word stream.Memory = codes "memory"
stream_word stream.Write = codes "write"

-- why no disk is made
abbrev pub create_word : CreateFault → List ℕ
create_word creating.Device = codes "device"
create_word creating.Memory = codes "memory"

-- why a disk isn't opened
abbrev pub open_word : OpenCause → List ℕ
open_word opening.Device = codes "device"
open_word opening.NoSlot = codes "no slot"
open_word opening.TwoAlike = codes "two alike"
open_word opening.Damaged = codes "damaged"
open_word opening.Memory = codes "memory"

-- why a serving ended
abbrev pub serve_word : ServeFault → List ℕ
serve_word serve.Read = codes "read"
serve_word serve.Write = codes "write"
serve_word serve.TooManyLines = codes "too many lines"
serve_word (serve.Book fault) = book_word fault
serve_word (serve.Pool fault) = codes "pool"
serve_word serve.LongLine = codes "long line"
serve_word serve.Memory = codes "memory"

-- why the script of a place is refused: at which line, and for what
abbrev pub script_words : ℕ → ScriptFault → List ℕ
script_words place refusal =
    codes "script " ++ decimal place ++ codes " line " ++ decimal refusal.line ++ codes ": "
    ++ fault_text refusal.fault

-- why scripts aren't attended to, or not in full
abbrev pub scripts_word : ScriptsFault → List ℕ
scripts_word scripts.Read = codes "read"
scripts_word (scripts.Script place refusal) = script_words place refusal
scripts_word (scripts.Open cause) = open_word cause
scripts_word scripts.NoThread = codes "no thread"
scripts_word scripts.Torn = codes "torn"
scripts_word (scripts.Book fault) = book_word fault
scripts_word (scripts.Pool fault) = codes "pool"
scripts_word scripts.Memory = codes "memory"
scripts_word scripts.Write = codes "write"

-- why jobs aren't dumped, with the name of the job
abbrev pub dump_word : DumpFault → List ℕ
dump_word (dump.NoJob name) = codes "no job " ++ name
dump_word (dump.TooLong name) = codes "too long " ++ name
dump_word dump.Memory = codes "memory"
dump_word dump.Write = codes "write"

-- why it isn't told what a file holds
abbrev pub inspect_word : InspectFault → List ℕ
inspect_word inspect.Read = codes "device"
inspect_word inspect.Changed = codes "changed while read"
inspect_word inspect.Memory = codes "memory"
inspect_word inspect.Write = codes "write"

-- why a line gives no job: what is wrong with it, or the refusal that answers it on a new disk
abbrev pub cause_text : JobsCause → List ℕ
cause_text (line.Text fault) = fault_text fault
cause_text (line.Refused refusal) = reply_text (refused refusal)

-- which line it is, and why it gives none
abbrev pub line_words : ℕ → JobsCause → List ℕ
line_words number cause = codes "line " ++ decimal number ++ codes ": " ++ cause_text cause

-- why lines give no jobs
abbrev pub jobs_word : JobsFault → List ℕ
jobs_word (jobs.Line number cause) = line_words number cause
jobs_word jobs.Read = codes "read"
jobs_word jobs.Memory = codes "memory"

-- why jobs aren't brought to their ends
abbrev pub batch_word : BatchFault → List ℕ
batch_word (batch.Taken name difference) = codes "taken " ++ name
batch_word batch.Full = codes "full"
batch_word (batch.Serve fault) = serve_word fault

-- why a state isn't kept
abbrev pub keep_word : KeepFault → List ℕ
keep_word keep.Broken = codes "broken"
keep_word keep.Worn = codes "worn"
keep_word keep.Device = codes "device"

-- why a reduction that is kept doesn't go on
abbrev pub kept_word : KeepingFault → List ℕ
kept_word keeping.NotEmpty = codes "not empty"
kept_word keeping.Device = codes "device"
kept_word (keeping.Open cause) = open_word cause
kept_word keeping.Unsound = codes "damaged"
kept_word keeping.Limit = codes "limit"
kept_word keeping.Memory = codes "memory"
kept_word (keeping.Keep fault) = keep_word fault

-- a word as a line
abbrev pub told : List ℕ → List ℕ
told word = codes "icserve: " ++ word ++ 10 ∷ []

-- the line on standard error; refused words have a text of their own, and each halted job has a line
abbrev pub failure_line : Failure → List ℕ
failure_line (Words (words.Words text)) = string_bytes text
failure_line (Words words.Memory) = told (codes "memory")
failure_line (Stream fault) = told (stream_word fault)
failure_line (Disk fault) = told (codes "device")
failure_line Locked = told (codes "locked")
failure_line (Create fault) = told (create_word fault)
failure_line NotEmpty = told (codes "not empty")
failure_line (Open cause) = told (open_word cause)
failure_line (Serve fault) = told (serve_word fault)
failure_line (Attend fault) = told (scripts_word fault)
failure_line (Dump fault) = told (dump_word fault)
failure_line (Inspect fault) = told (inspect_word fault)
failure_line (Jobs fault) = told (jobs_word fault)
failure_line (Batch fault) = told (batch_word fault)
failure_line (Halted lines) = lines.items
failure_line Faults = told (codes "faults")
failure_line NotDone = told (codes "not done")
failure_line (Overgrown reached nodes) = told (codes "overgrown")
failure_line (TableFull reached) = told (codes "table full")
failure_line (OutOfMemory reached) = told (codes "memory")
failure_line (Kept fault) = told (kept_word fault)
failure_line (OtherOrder by_rounds) = told (codes "other order")

-- the line that tells a stuck pair
abbrev pub stuck_line : List ℕ → List ℕ
stuck_line pair = told (codes "stuck " ++ pair)

-- why a disk isn't opened or locked, by the last call to its file that has failed
abbrev pub opening_failure : DiskFault → Option Cause → Failure
opening_failure fault None = Disk fault
opening_failure fault (Some cause) = if is_locked cause.reason then Locked else Disk fault

-- why the jobs of a disk aren't dumped
abbrev pub failure_of_dump : DiskDumpFault → Failure
failure_of_dump (disk_dump.Open cause) = Open cause
failure_of_dump (disk_dump.Dump fault) = Dump fault

-- how the program ends where a net was reduced in place, by why that ended, how far it came and how
-- many names and agents its net may have
abbrev pub reduce_ending : End → Reached → ℕ → Result (Unit {0}) Failure
reduce_ending end.Quiet reached nodes = Ok tt
reduce_ending end.Steps reached nodes = Err NotDone
reduce_ending end.Nodes reached nodes = Err (Overgrown reached nodes)
reduce_ending end.Limit reached nodes = Err (TableFull reached)
reduce_ending end.Memory reached nodes = Err (OutOfMemory reached)
