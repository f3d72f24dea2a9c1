-- Scripts that are read one after the other (this project's choice).
use Rattle.std.specs.Prelude.{◌≡◌, ℕ, List, [], ◌∷◌, ◌++◌, Ok, Err}
use Rattle.std.specs.List.{AllZip}
use Rattle.ic_jobs.specs.declared.command.Command.{Command}
use Rattle.ic_lines.specs.Script.{ReadsScript}
use Rattle.ic_scripts.specs.declared.fault.ScriptsFault.{ScriptsFault}
use Rattle.ic_scripts.specs.declared.fault.ScriptsFault.TheVariants.{Read, Script, Open, NoThread, Torn, Book, Pool, Memory, Write}

-- the commands of a text follow the scripts before
abbrev pub AddsScript : List ℕ → (old new : List (List Command)) → Type 0
AddsScript text old new = (commands : List Command) × ReadsScript text (Ok commands)
    × (new ≡ old ++ commands ∷ [])

-- a text of this place is refused, unless a growth was
abbrev pub IsRefusal : List ℕ → ℕ → ScriptsFault → Type 0
IsRefusal text place (Script number refusal) = (number ≡ place) × ReadsScript text (Err refusal)
IsRefusal text place Memory = Unit {0}
IsRefusal text place Read = ⊥
IsRefusal text place (Open cause) = ⊥
IsRefusal text place NoThread = ⊥
IsRefusal text place Torn = ⊥
IsRefusal text place (Book fault) = ⊥
IsRefusal text place (Pool fault) = ⊥
IsRefusal text place Write = ⊥

-- each text is read as the script of its place
abbrev pub AreScripts : List (List ℕ) → List (List Command) → Type 0
AreScripts texts scripts = AllZip (λ text commands. ReadsScript text (Ok commands)) texts scripts
