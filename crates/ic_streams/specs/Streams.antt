-- What a stream is answered (this project's choice).
use Rattle.std.specs.Prelude.{◌≡◌, ◌≢◌, ◌≤◌, ◌+◌, ℕ, List, [], ◌∷◌, ◌++◌, true, length}
use Rattle.std.specs.Prelude.{Option, None, Some, Result, Ok, Err, OnOk, IfErr}
use Rattle.std.specs.Io.KnownBytes.{Appends, Consumes, IsAtEnd}
use Rattle.ic_output.specs.Output.{AppendsFront}
use Rattle.ic_term.specs.Symbol.{Symbol}
use Rattle.ic_term.specs.Configuration.{Configuration}
use Rattle.ic_rules.specs.System.{SystemParts}
use Rattle.ic_text.specs.Text.{Reads, printed}
use Rattle.ic_text.specs.SystemText.{ReadsSystem}
use Rattle.ic_text.specs.Limits.{most_bytes}
use Rattle.ic_text.specs.declared.limits.Limits.{Limits}
use Rattle.ic_text.specs.declared.limits.Limits.TheVariants.{Served}
use Rattle.ic_text.specs.declared.fault.TextFault.{TextFault}
use Rattle.ic_text.specs.declared.fault.TextFault.TheVariants as text
use Rattle.ic_round.specs.Settling.{settled}
use Rattle.ic_round.specs.Rounds.{round, fits, unless_unfit}
use Rattle.ic_round.specs.declared.round_fault.RoundFault.{RoundFault}
use Rattle.ic_streams.specs.declared.fault.StreamFault.{StreamFault}
use Rattle.ic_streams.specs.declared.fault.StreamFault.TheVariants.{Read, Text, Round, Memory, Write}

-- the line of a configuration: its text and a line feed
abbrev pub line_of : List Symbol → Configuration → List ℕ
line_of symbols c = printed symbols c ++ 10 ∷ []

-- a text is read as a configuration, and its line is that one settled
pub record SettlesTo (input line : List ℕ) : Type 0 where
  pub symbols : List Symbol
  pub configuration : Configuration
  pub reads : Reads input (Ok (symbols, configuration))
  pub prints : line ≡ line_of symbols (settled configuration)

-- a text is read as a system that fits, and its line is the configuration after one round
pub record RoundsTo (input line : List ℕ) : Type 0 where
  pub system : SystemParts
  pub reads : ReadsSystem input (Ok system)
  pub fits : fits system.rules.rules system.config ≡ true
  pub prints : line ≡ line_of system.rules.symbols (round system.rules.rules system.config)

-- the configuration of a system after one round, or why it isn't made
abbrev pub round_of : SystemParts → Result Configuration RoundFault
round_of s = unless_unfit s.rules.rules s.config (round s.rules.rules s.config)

-- a text is read as a system whose round is refused with this fault
pub record IsUnfit (input : List ℕ) (fault : RoundFault) : Type 0 where
  pub system : SystemParts
  pub reads : ReadsSystem input (Ok system)
  pub refused : round_of system ≡ Err fault

-- what a stream answers to a text: a line or a refusal
abbrev pub Answering : Type 1
Answering = List ℕ → Result (List ℕ) StreamFault → Type 0

-- the answers where texts are refused with these faults, and others have these lines; no round is refused
abbrev pub answering : (refuses : List ℕ → TextFault → Type 0) (shows : List ℕ → List ℕ → Type 0) → Answering
answering refuses shows input (Ok line) = shows input line
answering refuses shows input (Err (Text fault)) = refuses input fault × (fault ≢ text.Memory)
answering refuses shows input (Err (Round fault)) = ⊥
answering refuses shows input (Err Read) = ⊥
answering refuses shows input (Err Memory) = ⊥
answering refuses shows input (Err Write) = ⊥

-- the answers of settling
abbrev pub Settles : Answering
Settles = answering (λ input fault. Reads input (Err fault)) SettlesTo

-- the answers of one round
abbrev pub Rounds : Answering
Rounds input (Ok line) = RoundsTo input line
Rounds input (Err (Text fault)) = ReadsSystem input (Err fault) × (fault ≢ text.Memory)
Rounds input (Err (Round fault)) = IsUnfit input fault
Rounds input (Err Read) = ⊥
Rounds input (Err Memory) = ⊥
Rounds input (Err Write) = ⊥

-- the line of a text is appended to what was written
abbrev pub Writes : Answering → List ℕ → Option (List ℕ) → Option (List ℕ) → Type 0
Writes Answers input old new = (line : List ℕ) × Answers input (Ok line) × Appends old new line

-- a front of the line of a text is, where the writer fails
abbrev pub WritesPart : Answering → List ℕ → Option (List ℕ) → Option (List ℕ) → Type 0
WritesPart Answers input old new =
    (line : List ℕ) × Answers input (Ok line) × AppendsFront old new [] line

-- what a fault says of the text: its refusal, or that it has a line, or nothing
abbrev pub FaultOf : Answering → List ℕ → StreamFault → Type 0
FaultOf Answers input Write = (line : List ℕ) × Answers input (Ok line)
FaultOf Answers input Read = Unit {0}
FaultOf Answers input Memory = Unit {0}
FaultOf Answers input (Text fault) = Answers input (Err (Text fault))
FaultOf Answers input (Round fault) = Answers input (Err (Round fault))

-- this is so of the text that a reader has, or where it doesn't tell its bytes, of some text
abbrev pub OfText : (bytes : Option (List ℕ)) (what : List ℕ → Type 0) → Type 0
OfText None what = (text : List ℕ) × what text
OfText (Some text) what = what text

-- A text is answered: at Ok by its line, which is appended, and else by a fault. Where the writer fails
-- a front of the line is appended, and nothing else.
pub record IsAnswered {T : Type 0} (Answers : Answering) (text : List ℕ)
    (result : Result T StreamFault) (old new : Option (List ℕ)) : Type 0 where
  pub written : OnOk result (Writes Answers text old new)
  pub refused : IfErr result (λ fault. FaultOf Answers text fault)
  pub cut : IfErr result (λ fault. fault ≡ Write → WritesPart Answers text old new)

-- these bytes are taken, which are all there are or one more than a text may have with these limits
abbrev pub TakesItWithin : Limits → List ℕ → Option (List ℕ) → Option (List ℕ) → Type 0
TakesItWithin limits input old new = Consumes old new input
    × (length input ≤ most_bytes limits + 1) × (length input ≤ most_bytes limits → IsAtEnd new)

abbrev pub TakesTextWithin : Limits → Option (List ℕ) → Option (List ℕ) → Type 0
TakesTextWithin limits old new = (input : List ℕ) × TakesItWithin limits input old new

-- no more bytes are taken than one more than a text may have with these limits
abbrev pub TakesSomeWithin : Limits → Option (List ℕ) → Option (List ℕ) → Type 0
TakesSomeWithin limits old new =
    (input : List ℕ) × Consumes old new input × (length input ≤ most_bytes limits + 1)

-- what is taken from the reader at a fault
abbrev pub TakesAtWithin : Limits → StreamFault → Option (List ℕ) → Option (List ℕ) → Type 0
TakesAtWithin limits (Text fault) old new = TakesTextWithin limits old new
TakesAtWithin limits (Round fault) old new = TakesTextWithin limits old new
TakesAtWithin limits Write old new = TakesTextWithin limits old new
TakesAtWithin limits Read old new = TakesSomeWithin limits old new
TakesAtWithin limits Memory old new = TakesSomeWithin limits old new

-- the same with the limits of what is served
abbrev pub TakesIt : List ℕ → Option (List ℕ) → Option (List ℕ) → Type 0
TakesIt input old new = TakesItWithin Served input old new

abbrev pub TakesText : Option (List ℕ) → Option (List ℕ) → Type 0
TakesText old new = TakesTextWithin Served old new

abbrev pub TakesSome : Option (List ℕ) → Option (List ℕ) → Type 0
TakesSome old new = TakesSomeWithin Served old new

abbrev pub TakesAt : StreamFault → Option (List ℕ) → Option (List ℕ) → Type 0
TakesAt fault old new = TakesAtWithin Served fault old new
