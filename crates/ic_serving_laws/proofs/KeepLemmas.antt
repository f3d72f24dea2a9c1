-- What is so of a keep where no fault is told.
use Rattle.std.proofs.Common.{◌≡◌, ℕ, List, [], ◌∷◌, ◌++◌, false, Result, Ok, Err}
use Rattle.std.specs.Prelude.{OnOk}
use Rattle.std.specs.List.{filter_map}
use Rattle.ic_book.specs.declared.book.Book.{Book}
use Rattle.ic_disk.specs.declared.disk.Disk.{Ghosts}
use Rattle.ic_book.specs.declared.fault.BookFault.{BookFault}
use Rattle.ic_book.specs.Book.{is_broken}
use Rattle.ic_book.specs.Refusals.{CountsBook}
use Rattle.ic_attend.specs.declared.attended.ClientRun.{ClientRun}
use Rattle.ic_attend.specs.declared.attended.RunnerEnd.{RunnerEnd}
use Rattle.ic_scripts.specs.Telling.{client_fault, faults_of, keep_faults, runner_fault}
use Rattle.ic_scripts.specs.Attending.{KeepTells}

nothing_after : {A : Type 0} (xs ys : List A) → xs ++ ys ≡ [] → ys ≡ []
nothing_after [] ys is = is
nothing_after (x ∷ xs) ys is = absurd (let never : x ∷ (xs ++ ys) ≡ [] = is in cc)

pub no_keep_fault : (runs : List ClientRun) (ends : List RunnerEnd) (kept : Result (Unit {0}) BookFault) → faults_of runs ends kept ≡ [] → keep_faults kept ≡ []
no_keep_fault runs ends kept is = nothing_after (filter_map client_fault runs ++ filter_map runner_fault ends) (keep_faults kept) is

pub when_held : {P : Type 0} (kept : Result (Unit {0}) BookFault) → keep_faults kept ≡ [] → OnOk kept P → P
when_held (Ok done) none held = held
when_held (Err fault) none held = absurd (let never : keep_faults {T = Unit {0}} (Err fault) ≡ [] = none in cc)

pub when_kept : {D : Type 0} {ghosts : Ghosts D} (book : Book D ghosts) (kept : Result (Unit {0}) BookFault) (before now : ℕ) → keep_faults kept ≡ [] → KeepTells book kept
    → CountsBook kept before now → (is_broken book ≡ false) × (now ≡ before)
when_kept book (Ok done) before now none tells counts = (tells, counts)
when_kept book (Err fault) before now none tells counts = absurd (let never : keep_faults {T = Unit {0}} (Err fault) ≡ [] = none in cc)
