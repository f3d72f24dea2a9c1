-- What a text of a system or of a configuration is answered when it is drawn (this project's choice).
use Rattle.std.specs.Prelude.{◌≡◌, ℕ, ◌==◌, List, [], ◌∷◌, Bool, true, false, Result, Ok, Err, if◌then◌else◌}
use Rattle.ic_rules.specs.System.{SystemParts}
use Rattle.ic_text.specs.Text.{Reads}
use Rattle.ic_text.specs.Token.{is_blank}
use Rattle.ic_text.specs.SystemText.{ReadsSystem}
use Rattle.ic_text.specs.declared.fault.TextFault.{TextFault}
use Rattle.ic_streams.specs.Streams.{Answering, answering}

-- the first byte of a text that isn't blank is `{`
abbrev pub has_rules : List ℕ → Bool
has_rules [] = false
has_rules (b ∷ bs) = if is_blank b then has_rules bs else b == 123

-- a text with rules is read as a system, and one without as a configuration to which there are none
abbrev pub reads_by : (ruled : Bool) → List ℕ → Result SystemParts TextFault → Type 0
reads_by true input answer = ReadsSystem input answer
reads_by false input (Ok system) =
    Reads input (Ok (system.rules.symbols, system.config)) × (system.rules.rules ≡ [])
reads_by false input (Err fault) = Reads input (Err fault)

abbrev pub ReadsDrawn : List ℕ → Result SystemParts TextFault → Type 0
ReadsDrawn input answer = reads_by (has_rules input) input answer

-- a text is read; how its net is drawn isn't said
pub record DrawsTo (input output : List ℕ) : Type 0 where
  pub system : SystemParts
  pub reads : ReadsDrawn input (Ok system)

-- the answers of drawing
abbrev pub Draws : Answering
Draws = answering (λ input fault. ReadsDrawn input (Err fault)) DrawsTo
