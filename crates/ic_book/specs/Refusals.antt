-- Which refusals a book's calls have, and that a fault of the disk is told exactly where a failure
-- was counted.
use Rattle.std.specs.Prelude.{◌≡◌, ℕ, List, [], ◌∷◌, Result, Ok, Err}
use Rattle.ic_disk.specs.Time.{OneMore}
use Rattle.ic_book.specs.declared.fault.BookFault.{BookFault}
use Rattle.ic_book.specs.declared.fault.BookFault.TheVariants.{Broken, LogFull, Worn, Memory, Device}

-- all refusals, in the order of their lasting numbers
abbrev pub all_book_faults : List BookFault
all_book_faults = Broken ∷ LogFull ∷ Worn ∷ Memory ∷ Device ∷ []

-- the lasting numbers of the refusals
abbrev pub fault_number : BookFault → ℕ
fault_number Broken = 1
fault_number LogFull = 2
fault_number Worn = 3
fault_number Memory = 4
fault_number Device = 5

-- at `Device` one more failure is counted, and at any other answer none
abbrev pub CountsBook : {T : Type 0} → Result T BookFault → ℕ → ℕ → Type 0
CountsBook (Ok value) old new = new ≡ old
CountsBook (Err Device) old new = OneMore old new
CountsBook (Err Broken) old new = new ≡ old
CountsBook (Err LogFull) old new = new ≡ old
CountsBook (Err Worn) old new = new ≡ old
CountsBook (Err Memory) old new = new ≡ old
