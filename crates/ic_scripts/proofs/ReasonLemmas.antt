-- Why scripts have no history, and what a keep says of a book.
use Rattle.std.proofs.Common.{◌≡◌, ◌≢◌, ◌∙◌, ℕ, ◌<◌, ◌≤◌, List, Option, None, Some, true, false, length, take, refl, sym, ap, subst, arith, take_all}
use Rattle.std.specs.Prelude.{Result, Ok, Err, IsErrOf, IfErr, IsTrue, OnOk}
use Rattle.std.specs.Io.KnownBytes.{Keeps}
use Rattle.std.proofs.lemmas.Bool.{false_from_ne_true}
use Rattle.ic_disk.specs.declared.disk.Disk.{Ghosts}
use Rattle.ic_disk.specs.Images.{Within}
use Rattle.ic_jobs.specs.declared.command.Command.{Command}
use Rattle.ic_jobs.specs.declared.event.Entry.{Entry}
use Rattle.ic_jobs.specs.History.{replay}
use Rattle.ic_jobs.specs.Job.{JobParts}
use Rattle.ic_slots.specs.Held.{IsHeld, the_table}
use Rattle.ic_slots.specs.Keeper as keeper
use Rattle.ic_book.specs.declared.book.Book.{Book}
use Rattle.ic_book.specs.declared.fault.BookFault.{BookFault}
use Rattle.ic_book.specs.declared.fault.BookFault.TheVariants.{Broken, LogFull, Worn, Memory, Device}
use Rattle.ic_book.specs.Book.{disk_of, start_of, log_of, table_of, kept_of, is_broken}
use Rattle.ic_book.specs.Calls.{BreaksOrStays, KeepsAll, TellsWorn}
use Rattle.ic_book.specs.Kept.{IsHistory, IsOnDisk}
use Rattle.ic_book.specs.Left.{table_kept}
use Rattle.ic_book.specs.Moves.{closes, keep_move}
use Rattle.ic_book.specs.Server.{Closes, Step, down, up}
use Rattle.ic_attend.specs.declared.fault.AttendFault.{AttendFault}
use Rattle.ic_attend.specs.declared.fault.AttendFault.TheVariants as attending
use Rattle.ic_attend.specs.Faults.{IfUnopened, IfUnbegun, IfStopped, IfTorn, IsUnopened, IsAsOpened, IsStopped, IsTorn}
use Rattle.ic_scripts.specs.Attending.{HasTable, IsKeptAndClosed, KeepTells, SaysWhy}
use Rattle.ic_scripts.specs.inner.Without.{disk_left, fault_of_attendance}

pub keeps_same : (c : Option (List ℕ)) → Keeps c c
keeps_same None = tt
keeps_same (Some xs) = refl

-- a fault without its history says what `attend` said of it
pub says_why : {D : Type 0} {ghosts : Ghosts D} (disk : D) (scripts : List (List Command)) (runners turns workers : ℕ) (left : D) (fault : AttendFault D ghosts)
    → left ≡ disk_left fault
    → IfUnopened (Err fault) (IsUnopened ghosts disk) → IfUnbegun (Err fault) (IsAsOpened disk)
    → IfStopped (Err fault) (IsStopped ghosts disk scripts runners turns workers) → IfTorn (Err fault) (IsTorn ghosts disk scripts runners turns workers)
    → SaysWhy ghosts disk scripts runners turns workers left (fault_of_attendance fault)
says_why disk scripts runners turns workers left (attending.Open fault) is unopened unbegun stopped torn = (fault, refl, unopened, is)
says_why disk scripts runners turns workers left (attending.NoThread a) is unopened unbegun stopped torn = (a, stopped, is)
says_why disk scripts runners turns workers left (attending.Memory book) is unopened unbegun stopped torn = (book, unbegun, is)
says_why disk scripts runners turns workers left (attending.Torn a) is unopened unbegun stopped torn = (a, torn, is)

-- what a keep says of the book before it
pub keep_tells : {D : Type 0} {ghosts : Ghosts D} (r : Result (Unit {0}) BookFault) (old new : Book D ghosts) → BreaksOrStays r old new → TellsWorn r old
    → IfErr r (λ fault. fault ≢ Broken → fault ≢ Worn → fault ≡ Device) → KeepsAll r old new → kept_of old ≤ length (log_of old) → KeepTells old r
keep_tells (Ok done) old new fault worn others all within = false_from_ne_true (is_broken old) (λ broken. let bad : IsErrOf {T = Unit {0}} (Ok done) Broken = fault.broken.1 broken in cc)
keep_tells (Err Broken) old new fault worn others all within = fault.broken.0 refl
keep_tells (Err LogFull) old new fault worn others all within = let bad : LogFull ≡ Device = others (λ e. cc) (λ e. cc) in cc
keep_tells (Err Worn) old new fault worn others all within =
    let is = worn.0 refl in (record { unbroken = is.0; unkept = is.1 }, is.2)
keep_tells (Err Memory) old new fault worn others all within = let bad : Memory ≡ Device = others (λ e. cc) (λ e. cc) in cc
keep_tells (Err Device) old new fault worn others all within =
    let unbroken : is_broken old ≡ false = false_from_ne_true (is_broken old) (λ broken. let bad : IsErrOf {T = Unit {0}} (Err Device) Broken = fault.broken.1 broken in cc) in
    let apart : kept_of old ≡ length (log_of old) → ⊥ = λ whole.
    let same : is_broken new ≡ is_broken old = ap keeper.is_broken (all.idle whole) in
    let bad : true ≡ false = sym (fault.breaks refl) ∙ same ∙ unbroken in cc in
    let unkept : kept_of old < length (log_of old) = less _ _ within apart in
    (record { unbroken = unbroken; unkept = unkept }, λ used. let bad : IsErrOf {T = Unit {0}} (Err Device) Worn = worn.1 (unbroken, unkept, used) in cc)
  where
    less : (a b : ℕ) → a ≤ b → (a ≡ b → ⊥) → a < b
    less a b small apart = omega (arith, small, apart)

-- ---- a book that is kept and closed

-- where all was kept, the disk that a closed book leaves has its table, and a crash leaves it
pub kept_closed : {T D : Type 0} {ghosts : Ghosts D} (result : Result T BookFault) (old new : Book D ghosts) (disk : D)
    → KeepsAll result old new → OnOk result (kept_of new ≡ length (log_of new))
    → IsHistory (start_of new) (log_of new) (table_of new) (kept_of new) (is_broken new)
    → (IsTrue (ghosts.keeps (disk_of new))
    → IsOnDisk (ghosts.content (disk_of new)) (ghosts.image (disk_of new)) (start_of new) (log_of new) (kept_of new) (is_broken new))
    → Closes new disk → OnOk result (IsTrue (ghosts.keeps disk) → HasTable ghosts (table_of old) disk)
kept_closed (Err fault) old new disk all kept history on_disk close = tt
kept_closed {D = D} {ghosts = g} (Ok done) old new disk all kept history on_disk close = λ keeps.
    let is = on_disk (subst (λ (d : D). IsTrue (g.keeps d)) close.same keeps) in
    let table : table_kept (start_of new) (log_of new) (kept_of new) ≡ table_of old =
    ap (λ (k : ℕ). replay (start_of new) (take k (log_of new))) kept
    ∙ ap (λ (es : List Entry). replay (start_of new) es) (take_all (length (log_of new)) (log_of new) (omega arith))
    ∙ history.replayed ∙ all.table in
    record {
      held = subst (λ (d : D). IsHeld (the_table (table_of old)) (g.content d)) (sym close.same)
          (subst (λ (t : List JobParts). IsHeld (the_table t) (g.content (disk_of new))) table (is.held all.ready));
      images = subst (λ (d : D). Within (g.image d) (IsHeld (the_table (table_of old)))) (sym close.same)
          (subst (λ (t : List JobParts). Within (g.image (disk_of new)) (IsHeld (the_table t))) table (is.holds all.ready));
    }

-- a keep and a closing are two moves, and a keep that makes no call leaves the keeper as it was
pub kept_and_closed : {T D : Type 0} {ghosts : Ghosts D} (result : Result T BookFault) (old new : Book D ghosts) (disk : D)
    → Step (keep_move result) (up old) (up new) → BreaksOrStays result old new → Step closes (up new) (down disk) → IsKeptAndClosed old result disk
kept_and_closed result old new disk kept fault close = record {
  run = (up new, (up old, refl, kept), close);
  untouched = λ failed other. close.same ∙ ap keeper.disk_of (fault.refused failed other).same_keeper;
}
