-- What an end by a refusal says of the book that is left, and of the workers.
use Rattle.std.specs.Prelude.{◌≡◌, ℕ, ◌-◌, ◌^◌, true, length, IfSome}
use Rattle.std.specs.List.{All}
use Rattle.ic_disk.specs.declared.disk.Disk.{Ghosts}
use Rattle.ic_pool.specs.declared.fault.PoolFault.{PoolFault}
use Rattle.ic_pool.specs.declared.fault.PoolFault.TheVariants as of_pool
use Rattle.ic_book.specs.declared.book.Book.{Book}
use Rattle.ic_book.specs.declared.fault.BookFault.{BookFault}
use Rattle.ic_book.specs.declared.fault.BookFault.TheVariants.{Broken, LogFull, Worn, Memory, Device}
use Rattle.ic_book.specs.declared.limits.TheConstants.{MAX_ENTRIES}
use Rattle.ic_book.specs.Book.{log_of, is_broken, number_of}
use Rattle.ic_attend.specs.declared.attended.Attended.{Attended}
use Rattle.ic_attend.specs.declared.attended.RunnerEnd.{RunnerEnd}
use Rattle.ic_attend.specs.declared.attended.RunnerEnd.TheVariants.{Idle, Turns, Book as by_book, Pool as by_pool}

-- What a client's refusal says of the book: a call to the disk has failed, the history is full, or
-- the numbers of the slots are used up. Where memory ran out, the refusal says nothing of it.
abbrev pub CommandTells : {D : Type 0} {ghosts : Ghosts D} → Book D ghosts → BookFault → Type 0
CommandTells book Broken = is_broken book ≡ true
CommandTells book LogFull = length (log_of book) ≡ MAX_ENTRIES
CommandTells book Worn = number_of book ≡ 2 ^ 64 - 1
CommandTells book Memory = Unit {0}
CommandTells book Device = is_broken book ≡ true

-- What a runner's refusal says of it. A runner keeps nothing, so two refusals never come.
abbrev pub RoundTells : {D : Type 0} {ghosts : Ghosts D} → Book D ghosts → BookFault → Type 0
RoundTells book Broken = is_broken book ≡ true
RoundTells book LogFull = length (log_of book) ≡ MAX_ENTRIES
RoundTells book Worn = ⊥
RoundTells book Memory = Unit {0}
RoundTells book Device = ⊥

-- What the refusal of a round says of the workers. A job that can't make a round is halted, so its
-- refusals never come; and workers stand before a round is asked of them, so none lacks a thread.
abbrev pub PlayTells : (workers : ℕ) → PoolFault → Type 0
PlayTells workers of_pool.NoWorkers = workers ≡ 0
PlayTells workers of_pool.Overgrown = ⊥
PlayTells workers of_pool.NamesOut = ⊥
PlayTells workers of_pool.NoThread = ⊥
PlayTells workers of_pool.Memory = Unit {0}
PlayTells workers of_pool.Lost = Unit {0}
PlayTells workers of_pool.Stranger = Unit {0}
PlayTells workers of_pool.RoundsOut = ⊥

-- How a runner may end, whatever the book is. It keeps nothing, so two refusals by the book never
-- come. One that has used up its turns took no more rounds than it had turns.
abbrev pub EndMayBe : (turns workers : ℕ) → RunnerEnd → Type 0
EndMayBe turns workers Idle = Unit {0}
EndMayBe turns workers (Turns taken) = taken ≡ turns
EndMayBe turns workers (by_book Broken) = Unit {0}
EndMayBe turns workers (by_book LogFull) = Unit {0}
EndMayBe turns workers (by_book Worn) = ⊥
EndMayBe turns workers (by_book Memory) = Unit {0}
EndMayBe turns workers (by_book Device) = ⊥
EndMayBe turns workers (by_pool fault) = PlayTells workers fault

-- what a runner's end says, if it is a refusal
abbrev pub EndTells : {D : Type 0} {ghosts : Ghosts D}
    → (workers : ℕ) → Book D ghosts → RunnerEnd → Type 0
EndTells workers book Idle = Unit {0}
EndTells workers book (Turns taken) = Unit {0}
EndTells workers book (by_book fault) = RoundTells book fault
EndTells workers book (by_pool fault) = PlayTells workers fault

-- Each end by a refusal is borne out by the book that is left, or by the number of workers.
pub record EndsTell {D : Type 0} {ghosts : Ghosts D} (workers : ℕ) (a : Attended D ghosts)
    : Type 0 where
  pub clients : All (λ run. IfSome run.end (CommandTells a.book)) a.answers.items
  pub runners : All (EndTells workers a.book) a.ends.items
