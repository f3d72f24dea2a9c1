use Rattle.std.proofs.Common.{List, ℕ, Option, Result, Ok, Err, refl, subst}
use Rattle.std.specs.Io.KnownBytes.{Appends}
use Rattle.ic_rules.specs.System.{SystemParts}
use Rattle.ic_text.specs.declared.fault.TextFault.{TextFault}
use Rattle.ic_by_rounds.specs.Tables.{table_of}
use Rattle.ic_by_rounds.specs.Tracing.{told_rows}
use Rattle.ic_in_place_laws.proofs.RowsOf.{rows_told}
use Rattle.ic_in_place_laws.proofs.rows.told_rows_are_rows_of_rounds.Goals as goal

-- the table of a system's rounds is appended, where a text is read as one
abbrev AppendsTable : ℕ → (before after : Option (List ℕ)) → Result SystemParts TextFault → Type 0
AppendsTable rounds before after (Ok s) = Appends before after (table_of (told_rows s.rules.rules s.config rounds))
AppendsTable rounds before after (Err fault) = Unit {0}

pub returns-clause-table : goal.returns-clause-table
returns-clause-table c = λ limits most input traced s before after is reads.
    let writes = is.1 in
    subst (AppendsTable traced.reached.rounds before after)
    (c.one_system_reading.ensures.answer limits input (Ok writes.system) (Ok s) writes.reads reads) (writes.table refl)

pub returns-clause-rows : goal.returns-clause-rows
returns-clause-rows c = rows_told c.rows_count_interactions.ensures.places c.amounts_are_those_of_rounds.ensures.names
