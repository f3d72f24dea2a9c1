-- For private functions: what is found, file by file.
use Rattle.std.specs.Prelude.{ℕ, List, Bool, true, false}
use Rattle.ic_check.specs.Faults.{ScriptHasFault, TextHasFault}
use Rattle.ic_check.specs.Files.{Content, text, script, unmeant, unread}
use Rattle.ic_check.specs.declared.files.Verdict.{Verdict}
use Rattle.ic_check.specs.declared.files.Verdict.TheVariants.{Fine, Faulty}

-- of a text by whether it has a fault
abbrev pub verdict_by : Bool → Verdict
verdict_by true = Faulty
verdict_by false = Fine

-- what a file gives that gives these bytes, by whether they are a script
abbrev pub content_by : (is_script : Bool) → (bytes : List ℕ) → Content
content_by false bytes = text bytes
content_by true bytes = script bytes

-- what a file gives has a fault, or none, where it gives bytes
abbrev pub ContentHasFault : Content → Bool → Type 0
ContentHasFault (text bytes) faulty = TextHasFault bytes faulty
ContentHasFault (script bytes) faulty = ScriptHasFault bytes faulty
ContentHasFault unmeant faulty = ⊥
ContentHasFault unread faulty = ⊥
