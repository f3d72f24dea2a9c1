-- What a stream is answered whose text is expanded (this project's choice).
use Rattle.std.specs.Prelude.{◌≡◌, ◌≤◌, ◌⊎◌, ℕ, ◌+◌, List, Option, Ok, Err, false, true, length}
use Rattle.std.specs.Io.KnownBytes.{Consumes, IsAtEnd}
use Rattle.ic_text.specs.declared.fault.TextFault.{TextFault}
use Rattle.ic_text.specs.declared.fault.TextFault.TheVariants.{Syntax, Limit}
use Rattle.ic_streams.specs.Streams.{Answering}
use Rattle.ic_streams.specs.declared.fault.StreamFault.{StreamFault}
use Rattle.ic_streams.specs.declared.fault.StreamFault.TheVariants.{Read, Text, Round, Memory, Write}
use Rattle.ic_expand.specs.Expanding.{expanded}
use Rattle.ic_expand.specs.Forms.{has_form}
use Rattle.ic_expand.specs.declared.fault.Reason.{Reason}
use Rattle.ic_expand.specs.declared.fault.Reason.TheVariants.{TextBytes, NoText, NotSymbol, NoSymbol, NoCopier, NoEraser, Again, NoRules, NoEnd}
use Rattle.ic_expand.specs.declared.fault.ExpandFault.TheVariants.{Refused}
use Rattle.ic_expand.specs.declared.limits.TheConstants.{MAX_RICH_TEXT}
use Rattle.ic_expand.specs.declared.texts.Unexpanded.{Unexpanded}
use Rattle.ic_expand.specs.declared.texts.Unexpanded.TheVariants as unexpanded

-- the fault of a text that is refused
abbrev pub text_fault : Reason → TextFault
text_fault TextBytes = Limit
text_fault NoText = Syntax
text_fault NotSymbol = Syntax
text_fault NoSymbol = Syntax
text_fault (NoCopier n) = Syntax
text_fault (NoEraser n) = Syntax
text_fault Again = Syntax
text_fault NoRules = Syntax
text_fault NoEnd = Syntax

-- a text is refused with this fault, for this reason, at this place
abbrev pub IsRefusedAs : List ℕ → TextFault → Reason → ℕ → Type 0
IsRefusedAs input fault reason at =
    (expanded input ≡ Err (Refused reason at)) × (fault ≡ text_fault reason)

-- a text is written as what is expanded of it, or where it has forms, of some text
abbrev pub IsWrittenAs : List ℕ → List ℕ → Type 0
IsWrittenAs input output =
    (text : List ℕ) × (has_form input ≡ false → text ≡ input) × (expanded text ≡ Ok output)

-- it is refused as its expansion is, or where it has forms, perhaps for one of them
abbrev pub IsRefusedWith : List ℕ → TextFault → Type 0
IsRefusedWith input fault = ((has_form input ≡ true) × ((fault ≡ Syntax) ⊎ (fault ≡ Limit)))
    ⊎ ((reason : Reason) × (at : ℕ) × IsRefusedAs input fault reason at)

-- a text that isn't expanded is refused so, or memory ran out
abbrev pub IsCause : List ℕ → Unexpanded → Type 0
IsCause input (unexpanded.Refused refusal) = IsRefusedWith input refusal.fault
IsCause input unexpanded.Memory = Unit {0}

-- the answers of expanding
abbrev pub Expands : Answering
Expands input (Ok output) = IsWrittenAs input output
Expands input (Err (Text fault)) = IsRefusedWith input fault
Expands input (Err (Round fault)) = ⊥
Expands input (Err Read) = ⊥
Expands input (Err Memory) = ⊥
Expands input (Err Write) = ⊥

-- these bytes are taken, which are all there are or one more than a text may have
abbrev pub TakesWhole : List ℕ → Option (List ℕ) → Option (List ℕ) → Type 0
TakesWhole input old new = Consumes old new input × (length input ≤ MAX_RICH_TEXT + 1)
    × (length input ≤ MAX_RICH_TEXT → IsAtEnd new)

abbrev pub TakesText : Option (List ℕ) → Option (List ℕ) → Type 0
TakesText old new = (input : List ℕ) × TakesWhole input old new

-- no more bytes are taken than one more than a text may have
abbrev pub TakesSome : Option (List ℕ) → Option (List ℕ) → Type 0
TakesSome old new = (input : List ℕ) × Consumes old new input × (length input ≤ MAX_RICH_TEXT + 1)

-- what is taken from the reader at a fault
abbrev pub TakesAt : StreamFault → Option (List ℕ) → Option (List ℕ) → Type 0
TakesAt (Text fault) old new = TakesText old new
TakesAt (Round fault) old new = TakesText old new
TakesAt Write old new = TakesText old new
TakesAt Read old new = TakesSome old new
TakesAt Memory old new = TakesSome old new
