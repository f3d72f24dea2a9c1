-- What a keep leaves that is the last call of a book.
use Rattle.std.proofs.Common.{◌≡◌, ◌≢◌, ℕ, ◌≤◌, List, ◌++◌, length, refl, sym, subst, append-nil, arith, take_all, ⊎_elim}
use Rattle.std.specs.Prelude.{Result, Ok, Err, IsErr}
use Rattle.ic_disk.specs.declared.disk.Disk.{Ghosts}
use Rattle.ic_disk.specs.Time.{LeavesOnly}
use Rattle.ic_jobs.specs.declared.event.Entry.{Entry}
use Rattle.ic_jobs.specs.History.{replay}
use Rattle.ic_slots.specs.Held.{HoldsTable}
use Rattle.ic_book.specs.declared.book.Book.{Book}
use Rattle.ic_book.specs.declared.fault.BookFault.{BookFault}
use Rattle.ic_book.specs.declared.fault.BookFault.TheVariants.{Device}
use Rattle.ic_book.specs.Book.{disk_of, kept_of, log_of, start_of}
use Rattle.ic_book.specs.ByCalls.{IsOnMadeDisk}
use Rattle.ic_book.specs.Left.{HoldsKeptOrAll}
use Rattle.ic_book.specs.Moves.{brings, closes, keep_move, stops}
use Rattle.ic_book.specs.Server.{IsCall, IsFound, Server, Step, down, up}
use Rattle.ic_scripts.specs.Attending.{IsKeptAndClosed}
use Rattle.ic_serving_laws.specs.Attending.{HoldsFrontOf}

-- a file that holds the table of the kept entries or of all holds that of a front
pub a_front : {D : Type 0} {ghosts : Ghosts D} (book : Book D ghosts) (file : List ℕ) → kept_of book ≤ length (log_of book)
    → HoldsKeptOrAll (start_of book) (log_of book) (kept_of book) file → HoldsFrontOf book file
a_front book file within holds =
    let log = log_of book in
    ⊎_elim
    (λ first. (kept_of book, omega arith, within, first))
    (λ all. (
      length log,
      within,
      omega arith,
      subst (λ (es : List Entry). HoldsTable (replay (start_of book) es) file) (sym (take_all (length log) log (omega arith))) all,
    ))
    holds

-- the book that the keep has left before it is closed
pub record IsBetween {T D : Type 0} {ghosts : Ghosts D} (book : Book D ghosts) (kept : Result T BookFault) (left : D) : Type 0 where
  pub after : Book D ghosts
  pub step : Step (keep_move kept) (up book) (up after)
  pub same : left ≡ disk_of after

pub between : {T D : Type 0} {ghosts : Ghosts D} (book : Book D ghosts) (kept : Result T BookFault) (left : D)
    → IsKeptAndClosed book kept left → IsBetween book kept left
between {T = T} {D = D} {ghosts = g} book kept left is = go is.run.0 is.run.1.0 is.run.1.1 is.run.1.2 is.run.2
  where
    go : (after before : Server g) → before ≡ up book → Step (keep_move kept) before after → Step closes after (down left) → IsBetween book kept left
    go (down disk) before same step closing = absurd closing
    go (up after) before same step closing = record {
      after = after;
      step = subst (λ (s : Server g). Step (keep_move kept) s (up after)) same step;
      same = closing.same;
    }

call_of : {T D : Type 0} {ghosts : Ghosts D} (kept : Result T BookFault) (old new : Book D ghosts) → Step (keep_move kept) (up old) (up new)
    → IsCall (keep_move kept) old new
call_of (Ok done) old new step = step
call_of (Err fault) old new step = step

brings_none : {T : Type 0} (kept : Result T BookFault) (log : List Entry) → log ++ brings (keep_move kept) ≡ log
brings_none (Ok done) log = append-nil log
brings_none (Err fault) log = append-nil log

-- a crash at any moment of the keep leaves the table that was kept, or the one after all
pub keep_leaves : {T D : Type 0} {ghosts : Ghosts D} (book : Book D ghosts) (kept : Result T BookFault) (left : D)
    → IsKeptAndClosed book kept left → IsOnMadeDisk book
    → LeavesOnly ghosts.clock ghosts.left (disk_of book) left (HoldsKeptOrAll (start_of book) (log_of book) (kept_of book))
keep_leaves {D = D} {ghosts = g} book kept left is made =
    let mid = between book kept left is in
    let crash = (call_of kept book mid.after mid.step).crash in
    subst (λ (d : D). LeavesOnly g.clock g.left (disk_of book) d (HoldsKeptOrAll (start_of book) (log_of book) (kept_of book))) (sym mid.same)
    (subst (λ (es : List Entry). LeavesOnly g.clock g.left (disk_of book) (disk_of mid.after) (HoldsKeptOrAll (start_of book) es (kept_of book)))
    (brings_none kept (log_of book)) (crash.any_moment made.0 made.1))

-- so it leaves a front
pub leaves_front : {T D : Type 0} {ghosts : Ghosts D} (book : Book D ghosts) (kept : Result T BookFault) (left : D)
    → kept_of book ≤ length (log_of book) → IsKeptAndClosed book kept left → IsOnMadeDisk book
    → LeavesOnly ghosts.clock ghosts.left (disk_of book) left (HoldsFrontOf book)
leaves_front book kept left within is made =
    let leaves = keep_leaves book kept left is made in
    record { later = leaves.later; each = λ file since. a_front book file within (leaves.each file since); before = leaves.before }

-- a stop in the keep
pub keep_stopped : {T D : Type 0} {ghosts : Ghosts D} (book : Book D ghosts) (kept : Result T BookFault) (left found : D)
    → IsKeptAndClosed book kept left → IsFound ghosts (disk_of book) left found → Step {ghosts = ghosts} (stops (keep_move kept)) (up book) (down found)
keep_stopped {T = T} {D = D} {ghosts = g} book kept left found is stop =
    let mid = between book kept left is in
    stopped kept mid.after mid.step (subst (λ (d : D). IsFound g (disk_of book) d found) mid.same stop)
  where
    stopped : (k : Result T BookFault) (after : Book D g) → Step (keep_move k) (up book) (up after) → IsFound g (disk_of book) (disk_of after) found
        → Step {ghosts = g} (stops (keep_move k)) (up book) (down found)
    stopped (Ok done) after step there = (up after, step, there)
    stopped (Err fault) after step there = (up after, step, there)

-- a refusal that isn't the disk's
pub refused_before : {T D : Type 0} {ghosts : Ghosts D} (book : Book D ghosts) (kept : Result T BookFault) (left : D) (fault : BookFault)
    → IsKeptAndClosed book kept left → kept ≡ Err fault → fault ≢ Device → left ≡ disk_of book
refused_before {T = T} book kept left fault is same other = is.untouched (subst (λ (r : Result T BookFault). IsErr r) (sym same) refl)
    (λ (device : kept ≡ Err Device). let one : fault ≡ Device = cc in other one)
