-- How each line is written in its plainest form, with one space after its word, and the words of each
-- line in order (this project's choice).
use Rattle.std.specs.Prelude.{◌≡◌, ℕ, ◌≤◌, List, [], ◌∷◌, ◌++◌, Ok, true, Option, None, Some, length, IsTrue, IfSome, codes}
use Rattle.std.specs.List.{list_all}
use Rattle.std.specs.Fmt.{decimal}
use Rattle.ic_rules.specs.JobName.{is_job_name}
use Rattle.ic_rules.specs.System.{SystemParts}
use Rattle.ic_jobs.specs.Budget.{IsBudget}
use Rattle.ic_jobs.specs.declared.command.Command.{Command}
use Rattle.ic_jobs.specs.declared.command.Command.TheVariants as command
use Rattle.ic_text.specs.Token.{is_blank, words_among}
use Rattle.ic_text.specs.SystemSource.{system_words}
use Rattle.ic_text.specs.SystemText.{ReadsSystem}
use Rattle.ic_text.specs.declared.limits.TheConstants.{MAX_TEXT}
use Rattle.ic_commands.specs.declared.limits.TheConstants.{MAX_RUN}
use Rattle.ic_commands.specs.declared.line.Line.{Line}
use Rattle.ic_commands.specs.declared.line.Line.TheVariants.{Blank, Command as Asks, Run}
use Rattle.ic_commands.specs.LineSource.{LinePhrase, nothing, submit, copy, about, list, run, verb_text}

-- a word with its space, and a job's name
pub record IsOfJob (word name text : List ℕ) : Type 0 where
  pub named : IsTrue (is_job_name name)
  pub written : text ≡ word ++ name

-- a budget with its space, or nothing
abbrev pub budget_text : Option ℕ → List ℕ
budget_text None = []
budget_text (Some n) = decimal n ++ 32 ∷ []

-- `submit`, a job's name, its budget or none, and a text that is read as this system
pub record IsSubmitOf (name : List ℕ) (system : SystemParts) (most : Option ℕ)
    (text : List ℕ) : Type 0 where
  pub system_text : List ℕ
  pub named : IsTrue (is_job_name name)
  pub budget : IfSome most IsBudget
  pub written : text ≡ codes "submit " ++ name ++ 32 ∷ (budget_text most ++ system_text)
  pub short : length text ≤ MAX_TEXT
  pub reads : ReadsSystem system_text (Ok system)

-- `copy`, the name of a job, and the name of the new one
pub record IsCopyOf (old new text : List ℕ) : Type 0 where
  pub first : IsTrue (is_job_name old)
  pub second : IsTrue (is_job_name new)
  pub written : text ≡ codes "copy " ++ old ++ 32 ∷ new

-- a text asks for a command in its plainest form
abbrev pub AsksPlainly : Command → List ℕ → Type 0
AsksPlainly (command.Submit name system budget) text = IsSubmitOf name system budget text
AsksPlainly (command.CopyJob old new) text = IsCopyOf old new text
AsksPlainly (command.Pause name) text = IsOfJob (codes "pause ") name text
AsksPlainly (command.Resume name) text = IsOfJob (codes "resume ") name text
AsksPlainly (command.Cancel name) text = IsOfJob (codes "cancel ") name text
AsksPlainly (command.Fetch name) text = IsOfJob (codes "fetch ") name text
AsksPlainly command.List text = text ≡ codes "list"

-- a text is a line in its plainest form
abbrev pub IsPlainly : Line → List ℕ → Type 0
IsPlainly Blank text = (length text ≤ MAX_TEXT) × (list_all is_blank text ≡ true)
IsPlainly (Asks c) text = AsksPlainly c text
IsPlainly (Run n) text = (n ≤ MAX_RUN) × (text ≡ codes "run " ++ decimal n)

-- the word of a number, or of none
abbrev pub number_texts : Option (List ℕ) → List (List ℕ)
number_texts None = []
number_texts (Some digits) = digits ∷ []

-- the words of a line
abbrev pub phrase_texts : LinePhrase → List (List ℕ)
phrase_texts nothing = []
phrase_texts (submit name most s) =
    codes "submit" ∷ name ∷ (number_texts most ++ words_among (system_words s))
phrase_texts (copy old new) = codes "copy" ∷ old ∷ new ∷ []
phrase_texts (about verb name) = verb_text verb ∷ name ∷ []
phrase_texts list = codes "list" ∷ []
phrase_texts (run digits) = codes "run" ∷ digits ∷ []
