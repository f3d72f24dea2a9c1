-- For private functions: a command line that is read word by word.
use Rattle.std.specs.Prelude.{◌≡◌, ℕ, List, [], ◌∷◌, Bool, true, false, ◌&&◌, Option, None, Some, Result, Err, IsTrue, find, codes}
use Rattle.std.specs.Str.{bytes_eq}
use Rattle.ic_rules.specs.JobName.{is_job_name}
use Rattle.ic_commands.specs.declared.line.Line.{Line}
use Rattle.ic_commands.specs.declared.line.Opening.{Opening}
use Rattle.ic_commands.specs.declared.line.Opening.TheVariants as opening
use Rattle.ic_commands.specs.declared.line.Verb.TheVariants.{Pause, Resume, Cancel, Fetch}
use Rattle.ic_text.specs.declared.fault.TextFault.{TextFault}
use Rattle.ic_text.specs.declared.fault.TextFault.TheVariants.{Syntax}
use Rattle.ic_text.specs.Token.{Token, word, mark, word_of, before, tokens}
use Rattle.ic_text.specs.SystemSource.{SystemPhrase}
use Rattle.ic_commands.specs.LineSource.{LinePhrase, submit, is_number, IsLine, verb_text, line_words}
use Rattle.ic_commands.specs.LineSense.{fits_budget, line_sense}

-- no word stands at the front of a text with these tokens, and it has none only where it is empty
abbrev pub HasNoWord : List ℕ → Option (List Token) → Type 0
HasNoWord text None = Unit {0}
HasNoWord text (Some []) = text ≡ []
HasNoWord text (Some (word w ∷ ts)) = ⊥
HasNoWord text (Some (mark m ∷ ts)) = Unit {0}

-- a text is empty, or its first byte is none of these
abbrev pub BeginsApart : (ℕ → Bool) → List ℕ → Type 0
BeginsApart is [] = Unit {0}
BeginsApart is (b ∷ bs) = is b ≡ false

-- the number's word that may stand in front of a system: none where no word stands there
abbrev pub number_word : List ℕ → Option (List ℕ)
number_word [] = None
number_word (b ∷ bs) = Some (b ∷ bs)

-- no word, or a number
abbrev pub is_number_or_none : List ℕ → Bool
is_number_or_none [] = true
is_number_or_none (b ∷ bs) = is_number (b ∷ bs)

-- there are no tokens, and nothing spoils the text
abbrev pub is_nothing : Option (List Token) → Bool
is_nothing None = false
is_nothing (Some []) = true
is_nothing (Some (t ∷ ts)) = false

-- the first word of a line
abbrev pub opening_text : Opening → List ℕ
opening_text opening.Submit = codes "submit"
opening_text opening.Copy = codes "copy"
opening_text (opening.About verb) = verb_text verb
opening_text opening.List = codes "list"
opening_text opening.Run = codes "run"

-- all that a line may begin with
abbrev pub openings : List Opening
openings = opening.Submit ∷ opening.Copy ∷ opening.About Pause ∷ opening.About Resume
    ∷ opening.About Cancel ∷ opening.About Fetch ∷ opening.List ∷ opening.Run ∷ []

-- what a word asks for
abbrev pub opening_of : List ℕ → Option Opening
opening_of w = find (λ o. bytes_eq w (opening_text o)) openings

-- what the tokens of a text that isn't too long are read as
pub record IsLineOf (o : Option (List Token)) (answer : Result Line TextFault) : Type 0 where
  pub spelled : (p : LinePhrase) → IsLine p → o ≡ Some (line_words p) → answer ≡ line_sense p
  pub malformed : ((p : LinePhrase) → IsLine p → o ≡ Some (line_words p) → ⊥) → answer ≡ Err Syntax

-- these tokens are those of the submit of some job, of a name and a budget within the limits
abbrev pub IsSubmitLine : Option (List Token) → Type 0
IsSubmitLine o =
    (name : List ℕ) × (most : Option (List ℕ)) × (s : SystemPhrase)
    × IsLine (submit name most s) × (o ≡ Some (line_words (submit name most s)))
    × IsTrue (is_job_name name && fits_budget most)

-- what the text after the first word makes of a line
abbrev pub ReadsAfter : Opening → List ℕ → Result Line TextFault → Type 0
ReadsAfter o rest answer = IsLineOf (before (word_of (opening_text o)) (tokens rest)) answer
