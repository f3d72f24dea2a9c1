-- What a stop of a book leaves.
use Rattle.std.proofs.Common.{ℕ, ◌≤◌, List, Bool, length, take, sym, subst, ⊎_elim, arith}
use Rattle.std.proofs.lemmas.List.{take_all}
use Rattle.ic_jobs.specs.declared.event.Entry.{Entry}
use Rattle.ic_jobs.specs.Job.{JobParts}
use Rattle.ic_jobs.specs.History.{replay}
use Rattle.ic_slots.specs.Held.{HoldsTable}
use Rattle.ic_book.specs.Kept.{IsHistory}
use Rattle.ic_book.specs.Left.{HoldsKeptOrAll}
use Rattle.ic_book.specs.Lives.{IsPage}

-- how many entries are in the table that is left
pub stop_front : (start : List JobParts) (log : List Entry) (kept : ℕ) (file : List ℕ) → kept ≤ length log → HoldsKeptOrAll start log kept file
    → (k : ℕ) × (kept ≤ k) × (k ≤ length log) × HoldsTable (replay start (take k log)) file
stop_front start log kept file within holds = ⊎_elim
    (λ first. (kept, omega arith, within, first))
    (λ all. (
      length log,
      within,
      omega arith,
      subst (λ (es : List Entry). HoldsTable (replay start es) file) (sym (take_all (length log) log (omega arith))) all,
    ))
    holds

pub stop_page : (start : List JobParts) (log : List Entry) (table : List JobParts) (kept now : ℕ) (broken : Bool) (file : List ℕ)
    → IsHistory start log table now broken → kept ≤ now → HoldsKeptOrAll start log kept file
    → (k : ℕ) × IsPage (record { start = start; log = log; kept = kept; stop = k }) × HoldsTable (replay start (take k log)) file
stop_page start log table kept now broken file is below holds =
    let front = stop_front start log kept file (omega (arith, below, is.within)) holds in
    (front.0, record { legal = is.legal; kept = front.1; stop = front.2 }, front.3)
