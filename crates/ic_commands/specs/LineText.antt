-- What a text of a command line is read as.
use Rattle.std.specs.Prelude.{ℕ, ◌≤◌, List, ◌&&◌, Option, Result, IsTrue, length}
use Rattle.ic_rules.specs.JobName.{is_job_name}
use Rattle.ic_commands.specs.declared.line.Line.{Line}
use Rattle.ic_text.specs.declared.fault.TextFault.{TextFault}
use Rattle.ic_text.specs.declared.limits.TheConstants.{MAX_TEXT}
use Rattle.ic_text.specs.SystemSource.{SystemPhrase}
use Rattle.ic_commands.specs.LineSource.{LinePhrase, submit, IsLine, line_words}
use Rattle.ic_commands.specs.LineSense.{fits_budget, line_sense}
use Rattle.ic_text.specs.Reading.{IsSpelling, IsReading}

-- a text spells a line
abbrev pub SpellsLine : List ℕ → LinePhrase → Type 0
SpellsLine text p = IsSpelling IsLine line_words text p

-- a text that isn't too long spells the submit of some job, of a name and a budget within the limits
abbrev pub IsSubmitText : List ℕ → Type 0
IsSubmitText text = (length text ≤ MAX_TEXT)
    × ((name : List ℕ) × (most : Option (List ℕ)) × (s : SystemPhrase)
    × SpellsLine text (submit name most s) × IsTrue (is_job_name name && fits_budget most))

-- what a text of a line is read as
abbrev pub ReadsLine : List ℕ → Result Line TextFault → Type 0
ReadsLine text answer = IsReading SpellsLine line_sense text answer
