-- What is found of files (this project's choice).
use Rattle.std.specs.Prelude.{◌≡◌, ℕ, List, [], ◌∷◌, true, false, Option}
use Rattle.std.specs.List.{AllZip}
use Rattle.std.specs.Io.KnownBytes.{Appends}
use Rattle.ic_check.specs.Faults.{ScriptHasFault, TextHasFault}
use Rattle.ic_check.specs.declared.files.Given.{Given}
use Rattle.ic_check.specs.declared.files.Given.TheVariants as given
use Rattle.ic_check.specs.declared.files.Verdict.{Verdict}
use Rattle.ic_check.specs.declared.files.Verdict.TheVariants.{Fine, Faulty, Unread}

-- some bytes were appended to what was written, and nothing else became of it
pub record Grows (old new : Option (List ℕ)) : Type 0 where
  pub more : List ℕ
  pub appended : Appends old new more

-- what a file gives: a text, a script, a rich text that is refused, or nothing that is looked over
pub data Content : Type 0 where
  text : List ℕ → Content
  script : List ℕ → Content
  unmeant : Content
  unread : Content

abbrev pub content_of : Given → Content
content_of (given.Text bytes) = text bytes.items
content_of (given.Script bytes) = script bytes.items
content_of (given.Refused refused) = unmeant
content_of (given.Unread why) = unread

-- this is found of what a file gives
abbrev pub IsFound : Content → Verdict → Type 0
IsFound (text bytes) Fine = TextHasFault bytes false
IsFound (text bytes) Faulty = TextHasFault bytes true
IsFound (text bytes) Unread = ⊥
IsFound (script bytes) Fine = ScriptHasFault bytes false
IsFound (script bytes) Faulty = ScriptHasFault bytes true
IsFound (script bytes) Unread = ⊥
IsFound unmeant Fine = ⊥
IsFound unmeant Faulty = Unit {0}
IsFound unmeant Unread = ⊥
IsFound unread Fine = ⊥
IsFound unread Faulty = ⊥
IsFound unread Unread = Unit {0}

-- this is found of the file of a path
abbrev pub IsFoundAt : (Gives : List ℕ → Content → Type 0) → List ℕ → Verdict → Type 0
IsFoundAt Gives path verdict = (content : Content) × Gives path content × IsFound content verdict

-- the worse of two
abbrev pub worse : Verdict → Verdict → Verdict
worse Fine other = other
worse Faulty Fine = Faulty
worse Faulty Faulty = Faulty
worse Faulty Unread = Unread
worse Unread other = Unread

-- what is found of files: that one isn't looked over, or else that one has a fault, or nothing
abbrev pub worst : List Verdict → Verdict
worst [] = Fine
worst (v ∷ vs) = worse v (worst vs)

-- the files of some paths are looked over, and this is found
pub record LooksOver (Gives : List ℕ → Content → Type 0) (paths : List (List ℕ))
    (verdict : Verdict) : Type 0 where
  pub each : List Verdict
  pub found : AllZip (IsFoundAt Gives) paths each
  pub together : verdict ≡ worst each
