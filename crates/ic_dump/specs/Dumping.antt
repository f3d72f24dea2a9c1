-- What a dump of a table or of a disk writes, and what its faults say (this project's choice).
use Rattle.std.specs.Prelude.{ℕ, List, Contains, ◌≡◌, [], ◌∷◌, ◌++◌, Bool, true, not, is_some, Option, None, Some, Result, Ok, Err, filter, find, IsTrue}
use Rattle.ic_jobs.specs.Job.{JobParts}
use Rattle.ic_jobs.specs.Table.{job_names, is_named, job_named, IsTable}
use Rattle.std.specs.List.{flat_map, list_any}
use Rattle.std.specs.Io.KnownBytes.{Appends}
use Rattle.ic_output.specs.Output.{AppendsFront}
use Rattle.ic_dump.specs.declared.fault.DumpFault.{DumpFault}
use Rattle.ic_dump.specs.declared.fault.DumpFault.TheVariants.{NoJob, TooLong, Memory, Write}
use Rattle.ic_dump.specs.Telling.{job_line, is_too_long}
use Rattle.ic_frames.specs.declared.faults.OpenCause.{OpenCause}
use Rattle.ic_slots.specs.Held.{IsHeld, the_table}
use Rattle.ic_slots.specs.Opening.{Says}
use Rattle.ic_dump.specs.declared.fault.DiskDumpFault.{DiskDumpFault}
use Rattle.ic_dump.specs.declared.fault.DiskDumpFault.TheVariants.{Open, Dump}

-- each of these names is that of a job
abbrev pub AreHad : List JobParts → List (List ℕ) → Type 0
AreHad t names = (name : List ℕ) → Contains names name → Contains (job_names t) name

-- a job is asked for: it has one of the names, or no name is given
abbrev pub is_chosen : List (List ℕ) → JobParts → Bool
is_chosen [] j = true
is_chosen (name ∷ names) j = list_any (λ n. is_named n j) (name ∷ names)

-- the jobs that are asked for, in the order of the table
abbrev pub chosen : List (List ℕ) → List JobParts → List JobParts
chosen names t = filter (is_chosen names) t

-- the first name that no job has
abbrev pub first_missing : List (List ℕ) → List JobParts → Option (List ℕ)
first_missing names t = find (λ name. not (is_some (job_named name t))) names

-- the lines of jobs in order, each with its line feed
abbrev pub lines_of : List JobParts → List ℕ
lines_of js = flat_map (λ j. job_line j ++ 10 ∷ []) js

-- an answer, or the refusal of the job whose line is too long
abbrev pub unless_long : Option JobParts → Result (List ℕ) DumpFault → Result (List ℕ) DumpFault
unless_long None answer = answer
unless_long (Some j) answer = Err (TooLong j.name)

-- an answer, or the refusal of the name that no job has
abbrev pub unless_missing : Option (List ℕ) → Result (List ℕ) DumpFault
    → Result (List ℕ) DumpFault
unless_missing None answer = answer
unless_missing (Some name) answer = Err (NoJob name)

-- The lines of the jobs that are asked for, or the first refusal: a name that no job has, a job whose
-- line is too long.
abbrev pub dumped : List (List ℕ) → List JobParts → Result (List ℕ) DumpFault
dumped names t =
    unless_missing (first_missing names t)
    (unless_long (find is_too_long (chosen names t)) (Ok (lines_of (chosen names t))))

-- the lines of a dump are appended to what was written
abbrev pub WritesDump : List (List ℕ) → List JobParts → Option (List ℕ) → Option (List ℕ) → Type 0
WritesDump names t old new =
    (lines : List ℕ) × (dumped names t ≡ Ok lines) × Appends old new lines

-- the writer fails at the lines of a dump: a front of them is appended to what was written
abbrev pub WritesDumpPart : List (List ℕ) → List JobParts → Option (List ℕ) → Option (List ℕ)
    → Type 0
WritesDumpPart names t old new =
    (lines : List ℕ) × (dumped names t ≡ Ok lines) × AppendsFront old new [] lines

-- what a fault says of a dump: its refusal, or that there are lines, or nothing
abbrev pub FaultOf : List (List ℕ) → List JobParts → DumpFault → Type 0
FaultOf names t (NoJob name) = dumped names t ≡ Err (NoJob name)
FaultOf names t (TooLong name) = dumped names t ≡ Err (TooLong name)
FaultOf names t Memory = Unit {0}
FaultOf names t Write = (lines : List ℕ) × (dumped names t ≡ Ok lines)

-- the lasting numbers of the faults
abbrev pub dump_fault_number : DumpFault → ℕ
dump_fault_number (NoJob name) = 1
dump_fault_number (TooLong name) = 2
dump_fault_number Memory = 3
dump_fault_number Write = 4

-- all faults, in the order of their lasting numbers
abbrev pub all_dump_faults : List ℕ → List DumpFault
all_dump_faults name = NoJob name ∷ TooLong name ∷ Memory ∷ Write ∷ []

-- a table that is found on a disk of which reads give this file: the one that the file holds, where the
-- disk keeps the model
abbrev pub IsFound : Bool → (file : List ℕ) → List JobParts → Type 0
IsFound keeps file t = IsTable t × (IsTrue keeps → IsHeld (the_table t) file)

-- the dump of the table that is found is appended to what was written
abbrev pub WritesFound : List (List ℕ) → Bool → (file : List ℕ) → (old new : Option (List ℕ))
    → Type 0
WritesFound names keeps file old new =
    (t : List JobParts) × IsFound keeps file t × WritesDump names t old new

-- a front of it is, where the writer fails
abbrev pub WritesFoundPart : List (List ℕ) → Bool → (file : List ℕ) → (old new : Option (List ℕ))
    → Type 0
WritesFoundPart names keeps file old new =
    (t : List JobParts) × IsFound keeps file t × WritesDumpPart names t old new

-- what a fault says: what the file holds in the place of a table, or that a table is found of which
-- this is the fault
abbrev pub SaysOf : List (List ℕ) → Bool → (file : List ℕ) → DiskDumpFault → Type 0
SaysOf names keeps file (Open cause) = IsTrue keeps → Says cause file
SaysOf names keeps file (Dump fault) =
    (t : List JobParts) × IsFound keeps file t × FaultOf names t fault

-- what came of the opening
abbrev pub opening_of : {T : Type 0} → Result T DiskDumpFault → Result (Unit {0}) OpenCause
opening_of (Ok value) = Ok tt
opening_of (Err (Open cause)) = Err cause
opening_of (Err (Dump fault)) = Ok tt
