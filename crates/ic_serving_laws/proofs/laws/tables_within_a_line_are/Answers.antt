use Rattle.std.proofs.Common.{Ok, Err}
use Rattle.ic_jobs.specs.declared.event.Event.TheVariants.{Command as by_command}
use Rattle.ic_commands.specs.declared.line.Line.TheVariants.{Blank, Command as Asks, Run}
use Rattle.ic_serving_laws.proofs.PartLemmas.{line_to, line_from, run_to, run_from, one_to, one_from, none_to, none_from}
use Rattle.ic_serving_laws.proofs.laws.tables_within_a_line_are.Goals as goal

pub returns-clause-run : goal.returns-clause-run
returns-clause-run c = λ t u line k reads.
    let law = c.one_line_reading.ensures.answer in
    let turns = c.runs_are_rounds_in_turn.ensures in (
      λ h. run_to turns.few turns.front t u k (line_to law t u line (Ok (Run k)) reads h),
      λ h. line_from t u line (Ok (Run k)) reads (run_from turns.front t u k h),
    )

pub returns-clause-command : goal.returns-clause-command
returns-clause-command c = λ t u line ask reads.
    let law = c.one_line_reading.ensures.answer in (
      λ h. one_to t u (by_command ask) (line_to law t u line (Ok (Asks ask)) reads h),
      λ h. line_from t u line (Ok (Asks ask)) reads (one_from t u (by_command ask) h),
    )

pub returns-clause-blank : goal.returns-clause-blank
returns-clause-blank c = λ t u line reads.
    let law = c.one_line_reading.ensures.answer in
    (λ h. none_to t u (line_to law t u line (Ok Blank) reads h), λ h. line_from t u line (Ok Blank) reads (none_from t u _ h))

pub returns-clause-refused : goal.returns-clause-refused
returns-clause-refused c = λ t u line fault reads.
    let law = c.one_line_reading.ensures.answer in
    (λ h. none_to t u (line_to law t u line (Err fault) reads h), λ h. line_from t u line (Err fault) reads (none_from t u _ h))

pub returns-clause-first : goal.returns-clause-first
returns-clause-first c = λ t u line more. (λ h. h, λ h. h)

pub returns-clause-none : goal.returns-clause-none
returns-clause-none c = λ t u. (λ h. h, λ h. h)
