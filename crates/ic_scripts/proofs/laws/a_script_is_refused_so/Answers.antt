use Rattle.std.proofs.Common.{◌≡◌, ◌⊎◌, inl, inr, ℕ, List, ap, refl}
use Rattle.std.specs.Prelude.{Err}
use Rattle.ic_lines.specs.Script.{ReadsScript}
use Rattle.ic_lines.specs.declared.script.ScriptFault.{ScriptFault}
use Rattle.ic_scripts.specs.Reading.{IsRefusal}
use Rattle.ic_scripts.specs.declared.fault.ScriptsFault.{ScriptsFault}
use Rattle.ic_scripts.specs.declared.fault.ScriptsFault.TheVariants.{Read, Script, Open, NoThread, Torn, Book, Pool, Memory, Write}
use Rattle.ic_scripts.proofs.laws.a_script_is_refused_so.Goals as goal

only : (text : List ℕ) (place : ℕ) (fault : ScriptsFault) → IsRefusal text place fault
    → (fault ≡ Memory) ⊎ ((refusal : ScriptFault) × (fault ≡ Script place refusal) × ReadsScript text (Err refusal))
only text place Read is = absurd is
only text place (Script number refusal) is = inr (refusal, ap (λ (n : ℕ). Script n refusal) is.0, is.1)
only text place (Open cause) is = absurd is
only text place NoThread is = absurd is
only text place Torn is = absurd is
only text place (Book fault) is = absurd is
only text place (Pool fault) is = absurd is
only text place Memory is = inl refl
only text place Write is = absurd is

pub returns : goal.returns
returns c = only
