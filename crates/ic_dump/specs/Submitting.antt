-- When a line submits a job, and what the lines of a table's jobs submit.
use Rattle.std.specs.Prelude.{◌≡◌, ◌≤◌, ℕ, List, Ok, map, codes}
use Rattle.ic_term.specs.Configuration.{Configuration, configuration_names, occurrences}
use Rattle.ic_rules.specs.Renaming.{renamed}
use Rattle.ic_rules.specs.System.{SystemParts}
use Rattle.ic_jobs.specs.Job.{JobParts, begun}
use Rattle.ic_jobs.specs.declared.command.Command.TheVariants as command
use Rattle.ic_text.specs.declared.limits.TheConstants.{MAX_NAME}
use Rattle.ic_commands.specs.declared.line.Line.TheVariants.{Command as Asks}
use Rattle.ic_commands.specs.LineText.{ReadsLine}
use Rattle.ic_naming.specs.Naming.{IsOneToOne, renamed_pair}
use Rattle.ic_dump.specs.Telling.{system_of, told_system}
use Rattle.ic_jobs.specs.Events.{after_command}
use Rattle.ic_jobs.specs.declared.command.Command.{Command}
use Rattle.ic_text.specs.SystemSense.{system_parts}
use Rattle.ic_lines.specs.Lines.{ended}

-- a name is free in a configuration: it occurs there once
abbrev pub IsFree : Configuration → ℕ → Type 0
IsFree c n = occurrences n (configuration_names c) ≡ 1

-- each free name may stand in a text
abbrev pub HasFreeNamesOfTexts : Configuration → Type 0
HasFreeNamesOfTexts c = (n : ℕ) → IsFree c n → n ≤ MAX_NAME

-- free names stay as they are, where they may stand in a text
abbrev pub KeepsFree : (ℕ → ℕ) → Configuration → Type 0
KeepsFree f c = (n : ℕ) → IsFree c n → n ≤ MAX_NAME → f n ≡ n

-- A configuration is another one except for the names of its wires, and free names that can't stand
-- in a text.
pub record IsRenaming (f : ℕ → ℕ) (c d : Configuration) : Type 0 where
  pub free : KeepsFree f c
  pub one_to_one : IsOneToOne f (configuration_names c)
  pub interface : d.interface ≡ map (renamed f) c.interface
  pub equations : d.equations ≡ map (renamed_pair f) c.equations

-- A line submits a job: it is read as the submit of the job's name and budget, with a system that is
-- written as the job's rules and configuration are, except for the names of wires. Symbols may have
-- other numbers.
pub record Submits (line : List ℕ) (j : JobParts) : Type 0 where
  pub system : SystemParts
  pub reads : ReadsLine line (Ok (Asks (command.Submit j.name system j.budget)))
  pub rename : ℕ → ℕ
  pub config : Configuration
  pub renaming : IsRenaming rename j.config config
  pub alike : system_of system ≡ system_of (record { rules = j.rules; config = config })

-- the system that the line of a job is read as: what the told one means as it is written
abbrev pub read_again : JobParts → SystemParts
read_again j = system_parts (system_of (told_system j))

-- the command that the line of a job asks for, and the job that it begins: with the same budget, and
-- no rounds made
abbrev pub submit_of : JobParts → Command
submit_of j = command.Submit j.name (read_again j) j.budget

abbrev pub begun_again : JobParts → JobParts
begun_again j = begun j.name (read_again j) j.budget

-- what its line is answered where it is served
abbrev pub accepted : JobParts → List ℕ
accepted j = ended (codes "accepted")

-- the table that a command leaves
abbrev pub table_after : List JobParts → Command → List JobParts
table_after t c = (after_command t c).table
