use Rattle.std.proofs.Common.{◌≡◌, ℕ, List, Bool, true, false, Option, None, Some, Result, Ok, Err, inl, inr, length}
use Rattle.std.specs.Prelude.{if◌then◌else◌, nat_le}
use Rattle.std.specs.Option.{option_map}
use Rattle.std.proofs.lemmas.Bool.{and_parts}
use Rattle.ic_rules.specs.JobName.{is_job_name}
use Rattle.ic_rules.specs.System.{SystemParts}
use Rattle.ic_rules.specs.declared.job_name.TheConstants.{MAX_JOB_NAME}
use Rattle.ic_jobs.specs.declared.command.Command.{Command}
use Rattle.ic_text.specs.declared.fault.TextFault.{TextFault}
use Rattle.ic_text.specs.declared.fault.TextFault.TheVariants.{Limit}
use Rattle.ic_text.specs.Name.{number_in}
use Rattle.ic_text.specs.SystemSense.{system_sense}
use Rattle.ic_commands.specs.LineSense.{fits_budget, submitted}
use Rattle.ic_commands.specs.LineSource.{submit}
use Rattle.ic_commands.specs.LineText.{IsSubmitText}
use Rattle.ic_commands.specs.ScriptSense.{ReadsScriptLine, without_run}
use Rattle.ic_serving_laws.proofs.lines.lines_that_want_memory_are_commands.Goals as goal

-- a submit is never nothing
never_nothing : (a b : Bool) (name : List ℕ) (budget : Option ℕ) (r : Result SystemParts TextFault)
    → ◌≡◌ {A = Result (Option Command) TextFault} (Ok None) (without_run (if a then (if b then submitted name budget r else Err Limit) else Err Limit)) → ⊥
never_nothing true true name budget (Ok system) is = cc
never_nothing true true name budget (Err fault) is = cc
never_nothing true false name budget r is = cc
never_nothing false b name budget r is = cc

no_submit : (line : List ℕ) → ReadsScriptLine line (Ok None) → ¬ IsSubmitText line
no_submit line read is =
    let name = is.1.0 in
    let most = is.1.1 in
    never_nothing (nat_le (length name) MAX_JOB_NAME) (fits_budget most) name (option_map number_in most) (system_sense is.1.2)
    (read.spelled is.0 (submit name most is.1.2) is.1.3)

pub returns-clause-spelled : goal.returns-clause-spelled
returns-clause-spelled c text is =
    let both = and_parts (is_job_name is.1.0) (fits_budget is.1.1) is.1.4 in
    (is.0, (is.1.0, is.1.1, is.1.2, is.1.3, both.0, both.1))

pub returns-clause-command : goal.returns-clause-command
returns-clause-command c many line wants = wants

pub returns-clause-blank : goal.returns-clause-blank
returns-clause-blank c many line read wants = elim wants [
  | inl is ↦ no_submit line read is
  | inr asks ↦ (let same = c.one_script_line_reading.ensures.answer line (Ok None) (Ok (Some asks.0)) read asks.1 in cc)
]
