use Rattle.std.proofs.Common.{◌≡◌, ◌≤◌, take}
use Rattle.std.specs.List.{count_by}
use Rattle.ic_jobs.specs.declared.event.Entry.{Entry}
use Rattle.ic_book.specs.Entries.{is_round}
use Rattle.ic_attend.proofs.comparing.count_rounds.Given as goal

abbrev pub invariant-loop-entry : goal.invariant-loop-entry
invariant-loop-entry l =
    (l.rounds ≤ l.entry-index) × (l.rounds ≡ count_by (λ (e : Entry). is_round e.event) (take l.entry-index l.entries))
