-- For private functions: a round that comes, over a log and a table.
use Rattle.std.specs.Prelude.{◌≡◌, List, Result, Ok, Err, IfOk, OnErr}
use Rattle.ic_jobs.specs.declared.event.Entry.{Entry}
use Rattle.ic_jobs.specs.declared.landed.Landed.{Landed}
use Rattle.ic_jobs.specs.declared.landed.Landed.TheVariants.{Moved, Stale}
use Rattle.ic_jobs.specs.Job.{JobParts}
use Rattle.ic_book.specs.Entries.{Adds}

-- a refusal, or a stale round
abbrev pub IsStale : {E : Type 0} → Result Landed E → Type 0
IsStale (Ok Moved) = ⊥
IsStale (Ok Stale) = Unit {0}
IsStale (Err fault) = Unit {0}

-- A round that was expected is at the end of the log, as this entry. Any other is stale.
pub record EntersRound {E : Type 0} (entry : Entry) (expected : Type 0) (result : Result Landed E)
    (old_log new_log : List Entry) (old new : List JobParts) : Type 0 where
  pub moved : IfOk result (λ landed. landed ≡ Moved → Adds entry old_log new_log old new)
  pub awaited : IfOk result (λ landed. landed ≡ Moved → expected)
  pub stale : IfOk result (λ landed. landed ≡ Stale → ¬ expected)
  pub wanted : OnErr result expected
  pub same_log : IsStale result → new_log ≡ old_log
  pub same_table : IsStale result → new ≡ old
