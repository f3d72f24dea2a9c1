-- Which texts have a fault (this project's choice).
use Rattle.std.specs.Prelude.{◌≡◌, ◌⊎◌, ℕ, ◌==◌, List, [], ◌∷◌, Bool, true, false, Option, None, Some, Result, Ok, Err, if◌then◌else◌}
use Rattle.std.specs.List.{AllByRecursion}
use Rattle.ic_commands.specs.LineText.{ReadsLine}
use Rattle.ic_commands.specs.ScriptSense.{ReadsScriptLine}
use Rattle.ic_lines.specs.Lines.{lines}
use Rattle.ic_text.specs.SystemText.{ReadsSystem}
use Rattle.ic_text.specs.Text.{Reads}
use Rattle.ic_text.specs.Token.{is_blank}
use Rattle.ic_text.specs.declared.fault.TextFault.{TextFault}
use Rattle.ic_check.specs.declared.texts.Form.{Form}
use Rattle.ic_check.specs.declared.texts.Form.TheVariants as form

-- what is read so is refused, or it isn't
abbrev pub HasFault : {V : Type 0} → (Result V TextFault → Type 0) → Bool → Type 0
HasFault Reads true = (fault : TextFault) × Reads (Err fault)
HasFault Reads false = (value : _) × Reads (Ok value)

-- a line for a server is refused, or it isn't, and the same of a line of a script
abbrev pub LineHasFault : List ℕ → Bool → Type 0
LineHasFault line faulty = HasFault (ReadsLine line) faulty

abbrev pub ScriptLineHasFault : List ℕ → Bool → Type 0
ScriptLineHasFault line faulty = HasFault (ReadsScriptLine line) faulty

abbrev pub LineHasFaultIn : (in_script : Bool) → List ℕ → Bool → Type 0
LineHasFaultIn false line faulty = LineHasFault line faulty
LineHasFaultIn true line faulty = ScriptLineHasFault line faulty

-- one of these lines is refused
abbrev pub OneHasFault : (One : List ℕ → Bool → Type 0) → List (List ℕ) → Type 0
OneHasFault One [] = ⊥
OneHasFault One (line ∷ ls) = One line true ⊎ OneHasFault One ls

-- one of these lines is refused, or none is
abbrev pub HasFaulty : (One : List ℕ → Bool → Type 0) → List (List ℕ) → Bool → Type 0
HasFaulty One ls true = OneHasFault One ls
HasFaulty One ls false = AllByRecursion (λ line. One line false) ls

-- the form of a text by its first byte that is no blank: `{` begins a system, `<` a configuration,
-- and `#` a comment
abbrev pub first_of : List ℕ → Option ℕ
first_of [] = None
first_of (b ∷ bs) = if is_blank b then first_of bs else Some b

abbrev pub form_by : Option ℕ → Form
form_by None = form.Lines
form_by (Some b) =
    if b == 123 then form.System else (if b == 60 then form.Config
    else (if b == 35 then form.Commented else form.Lines))

abbrev pub form_of : List ℕ → Form
form_of text = form_by (first_of text)

-- A text of a form has a fault, or none. One that begins with a comment has one, and lines for a
-- server if one of them has.
abbrev pub FormHasFault : Form → List ℕ → Bool → Type 0
FormHasFault form.System text faulty = HasFault (ReadsSystem text) faulty
FormHasFault form.Config text faulty = HasFault (Reads text) faulty
FormHasFault form.Commented text faulty = faulty ≡ true
FormHasFault form.Lines text faulty = HasFaulty LineHasFault (lines text) faulty

abbrev pub TextHasFault : List ℕ → Bool → Type 0
TextHasFault text faulty = FormHasFault (form_of text) text faulty

-- a script has a fault if one of its lines has
abbrev pub ScriptHasFault : List ℕ → Bool → Type 0
ScriptHasFault text faulty = HasFaulty ScriptLineHasFault (lines text) faulty
