-- What is told of a text that is traced (this project's choice).
use Rattle.std.specs.Prelude.{◌≡◌, ◌≢◌, List, Option, Result, Ok, Err, ℕ}
use Rattle.std.specs.Io.KnownBytes.{Appends}
use Rattle.ic_rules.specs.System.{SystemParts}
use Rattle.ic_text.specs.SystemText.{ReadsSystemWithin}
use Rattle.ic_text.specs.declared.limits.Limits.{Limits}
use Rattle.ic_text.specs.declared.fault.TextFault.TheVariants as text
use Rattle.ic_streams.specs.declared.fault.StreamFault.{StreamFault}
use Rattle.ic_streams.specs.declared.fault.StreamFault.TheVariants.{Read, Text, Round, Memory, Write}
use Rattle.ic_in_place.specs.Rounds.{EndsByRounds}
use Rattle.ic_in_place.specs.declared.stream.Asked.TheVariants.{Nothing}
use Rattle.ic_by_rounds.specs.Tables.{table_of}
use Rattle.ic_by_rounds.specs.Tracing.{told_rows}
use Rattle.ic_by_rounds.specs.declared.stream.Traced.{Traced}
use Rattle.ic_by_rounds.specs.declared.tracing.Format.{Format}
use Rattle.ic_by_rounds.specs.declared.tracing.Format.TheVariants.{Table}

-- The rows of so many rounds of a text: a table of them is written, if that is asked for.
pub record WritesRows (limits : Limits) (format : Format) (input : List ℕ) (rounds : ℕ)
    (before after : Option (List ℕ)) : Type 0 where
  pub system : SystemParts
  pub reads : ReadsSystemWithin limits input (Ok system)
  pub table : format ≡ Table
      → Appends before after (table_of (told_rows system.rules.rules system.config rounds))

-- So many rounds of a text are made, at most so many, and this is told of them. A text is refused only with the fault with which
-- it is read.
abbrev pub IsTraced : Limits → (most : ℕ) → Format → List ℕ → Result Traced StreamFault
    → Option (List ℕ) → Option (List ℕ) → Type 0
IsTraced limits most format input (Ok traced) before after =
    ((line : List ℕ) × EndsByRounds limits most Nothing input traced.reached line)
    × WritesRows limits format input traced.reached.rounds before after
IsTraced limits most format input (Err (Text fault)) before after =
    ReadsSystemWithin limits input (Err fault) × (fault ≢ text.Memory)
IsTraced limits most format input (Err (Round fault)) before after = ⊥
IsTraced limits most format input (Err Read) before after = Unit {0}
IsTraced limits most format input (Err Memory) before after = Unit {0}
IsTraced limits most format input (Err Write) before after = Unit {0}
