-- What commands and events keep.
use Rattle.std.specs.Prelude.{ℕ, List, Option, IsTrue, IfSome}
use Rattle.ic_term.specs.Symbol.{AreSymbols, is_over}
use Rattle.ic_term.specs.Configuration.{IsConfiguration}
use Rattle.ic_rules.specs.JobName.{is_job_name}
use Rattle.ic_rules.specs.RuleSet.{AreServed, IsRuleSet}
use Rattle.ic_rules.specs.System.{SystemParts}
use Rattle.ic_jobs.specs.Budget.{IsBudget}
use Rattle.ic_jobs.specs.declared.command.Command.{Command}
use Rattle.ic_jobs.specs.declared.command.Command.TheVariants.{Submit, CopyJob, Pause, Resume, Cancel, Fetch, List as list_jobs}
use Rattle.ic_jobs.specs.declared.event.Event.{Event}
use Rattle.ic_jobs.specs.declared.event.Event.TheVariants.{Command as by_command, Round}

-- What each submit keeps: it has the name of a job, a configuration over the symbols of a rule set
-- that is served, and a budget or none.
pub record IsSubmit (text : List ℕ) (system : SystemParts) (most : Option ℕ) : Type 0 where
  pub name : IsTrue (is_job_name text)
  pub symbols : AreSymbols system.rules.symbols
  pub rules : IsRuleSet system.rules
  pub served : AreServed system.rules
  pub config : IsConfiguration system.config
  pub over : IsTrue (is_over system.rules.symbols system.config)
  pub budget : IfSome most IsBudget

-- what commands keep, as the types of their parts say
abbrev pub IsCommand : Command → Type 0
IsCommand (Submit name system budget) = IsSubmit name system budget
IsCommand (CopyJob old new) = IsTrue (is_job_name new)
IsCommand (Pause name) = Unit {0}
IsCommand (Resume name) = Unit {0}
IsCommand (Cancel name) = Unit {0}
IsCommand (Fetch name) = Unit {0}
IsCommand list_jobs = Unit {0}

abbrev pub IsEvent : Event → Type 0
IsEvent (by_command c) = IsCommand c
IsEvent (Round name) = Unit {0}
