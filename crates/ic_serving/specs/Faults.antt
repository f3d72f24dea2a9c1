-- Which faults a serving has, what they are made of, and what they say of the book.
use Rattle.ic_lines.specs.declared.buffer.LineFault.{LineFault}
use Rattle.ic_lines.specs.declared.buffer.LineFault.TheVariants as line
use Rattle.std.specs.Prelude.{◌≡◌, ◌⊎◌, ◌-◌, ◌^◌, ℕ, Bool, true, false, List, [], ◌∷◌, Result, Ok, Err}
use Rattle.ic_book.specs.Refusals.{CountsBook}
use Rattle.ic_book.specs.declared.fault.BookFault.{BookFault}
use Rattle.ic_book.specs.declared.fault.BookFault.TheVariants as book
use Rattle.ic_commands.specs.declared.line.Line.TheVariants.{Blank, Command, Run}
use Rattle.ic_jobs.specs.Job.{JobParts}
use Rattle.ic_lines.specs.Answers.{Reading}
use Rattle.ic_lines.specs.Turns.{turns}
use Rattle.ic_pool.specs.declared.fault.PoolFault.{PoolFault}
use Rattle.ic_pool.specs.declared.fault.PoolFault.TheVariants as pool
use Rattle.ic_pool.specs.PoolFault.{is_of_workers}
use Rattle.ic_serving.specs.declared.fault.ServeFault.{ServeFault}
use Rattle.ic_serving.specs.declared.fault.ServeFault.TheVariants.{Read, Write, TooManyLines, Book, Pool, LongLine, Memory}
use Rattle.ic_serving.specs.Parts.{IsBeforeRound}

-- the lasting numbers of the faults
abbrev pub serve_fault_number : ServeFault → ℕ
serve_fault_number Read = 1
serve_fault_number Write = 2
serve_fault_number TooManyLines = 3
serve_fault_number (Book fault) = 4
serve_fault_number (Pool fault) = 5
serve_fault_number LongLine = 6
serve_fault_number Memory = 7

-- all faults, in the order of their lasting numbers
abbrev pub all_serve_faults : BookFault → PoolFault → List ServeFault
all_serve_faults of_book of_pool = Read ∷ Write ∷ TooManyLines ∷ Book of_book ∷ Pool of_pool
    ∷ LongLine ∷ Memory ∷ []

-- why no line was taken
abbrev pub fault_of_line : LineFault → ServeFault
fault_of_line line.Read = Read
fault_of_line line.Write = Write
fault_of_line line.LongLine = LongLine
fault_of_line line.Memory = Memory

-- Which faults a serving may have: its log has room, it has workers, and a round that can't be made
-- is a halt.
abbrev pub MayCome : ServeFault → Type 0
MayCome Read = Unit {0}
MayCome Write = Unit {0}
MayCome TooManyLines = Unit {0}
MayCome (Book book.Broken) = Unit {0}
MayCome (Book book.LogFull) = ⊥
MayCome (Book book.Worn) = Unit {0}
MayCome (Book book.Memory) = Unit {0}
MayCome (Book book.Device) = Unit {0}
MayCome (Pool pool.NoWorkers) = ⊥
MayCome (Pool pool.Overgrown) = ⊥
MayCome (Pool pool.NamesOut) = ⊥
MayCome (Pool pool.NoThread) = Unit {0}
MayCome (Pool pool.Memory) = Unit {0}
MayCome (Pool pool.Lost) = Unit {0}
MayCome (Pool pool.Stranger) = Unit {0}
MayCome (Pool pool.RoundsOut) = ⊥
MayCome LongLine = Unit {0}
MayCome Memory = Unit {0}

-- which of them come while a line is answered: none of the reader, the writer and the lines
abbrev pub ComesInLine : ServeFault → Type 0
ComesInLine Read = ⊥
ComesInLine Write = ⊥
ComesInLine TooManyLines = ⊥
ComesInLine (Book fault) = MayCome (Book fault)
ComesInLine (Pool fault) = MayCome (Pool fault)
ComesInLine LongLine = ⊥
ComesInLine Memory = Unit {0}

-- and of these, which come where no round and no halt is to be made: none of the pool
abbrev pub ComesWithoutRound : ServeFault → Type 0
ComesWithoutRound Read = ⊥
ComesWithoutRound Write = ⊥
ComesWithoutRound TooManyLines = ⊥
ComesWithoutRound (Book fault) = MayCome (Book fault)
ComesWithoutRound (Pool fault) = ⊥
ComesWithoutRound LongLine = ⊥
ComesWithoutRound Memory = Unit {0}

-- which of them come where a round can't be made, and its job is halted: of the pool only that
-- memory ran out
abbrev pub ComesUnmade : ServeFault → Type 0
ComesUnmade Read = ⊥
ComesUnmade Write = ⊥
ComesUnmade TooManyLines = ⊥
ComesUnmade (Book fault) = MayCome (Book fault)
ComesUnmade (Pool fault) = fault ≡ pool.Memory
ComesUnmade LongLine = ⊥
ComesUnmade Memory = Unit {0}

-- Which of them come for what a line asks, and leave this table. Where it asks for nothing, only
-- that memory ran out. One of the pool comes only at a run that has a round or a halt to make.
-- Unless memory ran out, it comes at a round that can be made: this table is the one before it.
abbrev pub ComesFor : (t : List JobParts) → Reading → (left : List JobParts) → ServeFault → Type 0
ComesFor t (Ok Blank) left fault = fault ≡ Memory
ComesFor t (Ok (Command command)) left fault = ComesWithoutRound fault
ComesFor t (Ok (Run count)) left fault = ComesInLine fault
    × (turns count 0 t ≡ [] → ComesWithoutRound fault)
    × (ComesUnmade fault ⊎ IsBeforeRound t (turns count 0 t) left)
ComesFor t (Err refusal) left fault = fault ≡ Memory

-- which of them come over a book that is broken: of the book `Broken` alone, and none of the pool
abbrev pub ComesBroken : ServeFault → Type 0
ComesBroken Read = Unit {0}
ComesBroken Write = Unit {0}
ComesBroken TooManyLines = Unit {0}
ComesBroken (Book fault) = fault ≡ book.Broken
ComesBroken (Pool fault) = ⊥
ComesBroken LongLine = Unit {0}
ComesBroken Memory = Unit {0}

-- Which of them come where the thread that serves makes each round that no other made ahead: none of
-- other threads and what they hand over.
abbrev pub ComesAlone : ServeFault → Type 0
ComesAlone Read = Unit {0}
ComesAlone Write = Unit {0}
ComesAlone TooManyLines = Unit {0}
ComesAlone (Book fault) = Unit {0}
ComesAlone (Pool fault) = is_of_workers fault ≡ false
ComesAlone LongLine = Unit {0}
ComesAlone Memory = Unit {0}

-- What a fault says of a book that wasn't broken, and of the number of its newest slot: only `Device`
-- breaks it, `Broken` isn't told of it, and at `Worn` the numbers are used up.
abbrev pub StaysReady : ServeFault → (broken : Bool) (number : ℕ) → Type 0
StaysReady Read broken number = broken ≡ false
StaysReady Write broken number = broken ≡ false
StaysReady TooManyLines broken number = broken ≡ false
StaysReady (Book book.Broken) broken number = ⊥
StaysReady (Book book.LogFull) broken number = broken ≡ false
StaysReady (Book book.Worn) broken number = (broken ≡ false) × (number ≡ 2 ^ 64 - 1)
StaysReady (Book book.Memory) broken number = broken ≡ false
StaysReady (Book book.Device) broken number = broken ≡ true
StaysReady (Pool fault) broken number = broken ≡ false
StaysReady LongLine broken number = broken ≡ false
StaysReady Memory broken number = broken ≡ false

-- one more failure of the disk is counted where the book tells of one, and none otherwise
abbrev pub CountsServe : {T : Type 0} → Result T ServeFault → (old new : ℕ) → Type 0
CountsServe (Ok value) old new = new ≡ old
CountsServe (Err Read) old new = new ≡ old
CountsServe (Err Write) old new = new ≡ old
CountsServe (Err TooManyLines) old new = new ≡ old
CountsServe (Err (Book fault)) old new = CountsBook {T = Unit {0}} (Err fault) old new
CountsServe (Err (Pool fault)) old new = new ≡ old
CountsServe (Err LongLine) old new = new ≡ old
CountsServe (Err Memory) old new = new ≡ old
