-- A command line as it is written.
use Rattle.std.specs.Prelude.{ℕ, List, [], ◌∷◌, ◌++◌, Bool, false, ◌||◌, Option, None, Some, IsTrue, IfSome, codes}
use Rattle.std.specs.Str.{bytes_eq}
use Rattle.ic_rules.specs.JobName.{is_job_word}
use Rattle.ic_commands.specs.declared.line.Verb.{Verb}
use Rattle.ic_commands.specs.declared.line.Verb.TheVariants.{Pause, Resume, Cancel, Fetch}
use Rattle.ic_text.specs.Token.{Token, word}
use Rattle.ic_text.specs.Name.{is_numeral}
use Rattle.ic_text.specs.SystemSource.{SystemPhrase, IsSystemPhrase, system_words}

-- A line: nothing, a submit, the copy of a job under a new name, what is asked of a job by its name,
-- the list of all jobs, or a run of so many (this project's choice). A submit has a job's name, the
-- number of its budget or none, and its system.
pub data LinePhrase : Type 0 where
  nothing : LinePhrase
  submit : List ℕ → Option (List ℕ) → SystemPhrase → LinePhrase
  copy : List ℕ → List ℕ → LinePhrase
  about : Verb → List ℕ → LinePhrase
  list : LinePhrase
  run : List ℕ → LinePhrase

-- the word `0`, or digits without a leading zero, of any length
abbrev pub is_number : List ℕ → Bool
is_number [] = false
is_number (d ∷ ds) = bytes_eq (d ∷ ds) (codes "0") || is_numeral (d ∷ ds)

-- names and numbers are such words, and the system is one
abbrev pub IsLine : LinePhrase → Type 0
IsLine nothing = Unit {0}
IsLine (submit name most s) =
    IsTrue (is_job_word name) × IfSome most (λ digits. IsTrue (is_number digits)) × IsSystemPhrase s
IsLine (copy old new) = IsTrue (is_job_word old) × IsTrue (is_job_word new)
IsLine (about verb name) = IsTrue (is_job_word name)
IsLine list = Unit {0}
IsLine (run digits) = IsTrue (is_number digits)

-- the word of what is asked of a job
abbrev pub verb_text : Verb → List ℕ
verb_text Pause = codes "pause"
verb_text Resume = codes "resume"
verb_text Cancel = codes "cancel"
verb_text Fetch = codes "fetch"

-- the tokens of a number, or of none
abbrev pub number_words : Option (List ℕ) → List Token
number_words None = []
number_words (Some digits) = word digits ∷ []

-- the tokens of a line
abbrev pub line_words : LinePhrase → List Token
line_words nothing = []
line_words (submit name most s) =
    word (codes "submit") ∷ word name ∷ (number_words most ++ system_words s)
line_words (copy old new) = word (codes "copy") ∷ word old ∷ word new ∷ []
line_words (about verb name) = word (verb_text verb) ∷ word name ∷ []
line_words list = word (codes "list") ∷ []
line_words (run digits) = word (codes "run") ∷ word digits ∷ []
