use Rattle.std.proofs.Common.{ℕ, ◌<◌}
use Rattle.std.specs.Prelude.{IsTrue, slice_index_or}
use Rattle.ic_jobs.specs.declared.event.Entry.{Entry}
use Rattle.ic_book.specs.Entries.{is_round}
use Rattle.ic_attend.proofs.comparing.are_rounds.Given as goal

abbrev pub invariant-loop-entry : goal.invariant-loop-entry
invariant-loop-entry l =
    (k : ℕ) (d : Entry) → k < l.entry-index → IsTrue (is_round (slice_index_or l.entries k d).event)
