-- What a text of a system is answered when it is reduced in place (this project's choice).
use Rattle.std.specs.Prelude.{◌≡◌, List, [], Bool, true, false, Option, None, Ok, Err, ℕ, IsTrue, length, if◌then◌else◌}
use Rattle.std.specs.Arc.{arc_value}
use Rattle.std.specs.Option.{option_map}
use Rattle.std.specs.Io.KnownBytes.{Appends}
use Rattle.ic_term.specs.Configuration.{Configuration}
use Rattle.ic_term.specs.Symbol.{Symbol, is_over}
use Rattle.ic_rules.specs.RuleSet.{IsRuleSet}
use Rattle.ic_round.specs.Naming.{HasNames}
use Rattle.ic_rules.specs.System.{SystemParts}
use Rattle.ic_naming.specs.Naming.{renumbered}
use Rattle.ic_text.specs.SystemText.{ReadsSystemWithin}
use Rattle.ic_text.specs.declared.limits.Limits.{Limits}
use Rattle.ic_streams.specs.Streams.{Answering, answering, line_of}
use Rattle.ic_streams.specs.Stuck.{stuck_text}
use Rattle.ic_in_place.specs.Counting.{TellsNameSteps}
use Rattle.ic_in_place.specs.Reducing.{IsPutTogether, IsReached, Writes}
use Rattle.ic_in_place.specs.declared.reducing.Reduced.{Reduced}
use Rattle.ic_in_place.specs.declared.running.Bounds.{Bounds}
use Rattle.ic_in_place.specs.declared.running.End.{End}
use Rattle.ic_in_place.specs.declared.running.End.TheVariants as end
use Rattle.ic_in_place.specs.declared.stream.Outcome.{Outcome}
use Rattle.ic_in_place.specs.declared.stream.Asked.{Asked}
use Rattle.ic_in_place.specs.declared.stream.Asked.TheVariants.{Answer, AlsoPart, Nothing}

-- A system was reduced to what is told, by however many threads: its words write what was reached.
abbrev pub IsReducedTo : SystemParts → Bounds → Reduced → Type 0
IsReducedTo s bounds reduced = (answer : Configuration)
    × IsReached s bounds answer reduced.end reduced.interactions reduced.by_rule.items
    × IsPutTogether answer
    × TellsNameSteps s.rules.rules s.config reduced.interactions (length answer.equations)
    reduced.end reduced.name_steps
    × Writes s.rules.symbols reduced.words.items reduced.terms reduced.equations answer

-- whether what was reached is written: where it held too much, a limit was met or memory ran out, only if a part is
-- asked for, too
abbrev pub is_written : Asked → End → Bool
is_written Nothing e = false
is_written AlsoPart e = true
is_written Answer end.Quiet = true
is_written Answer end.Steps = true
is_written Answer end.Nodes = false
is_written Answer end.Limit = false
is_written Answer end.Memory = false

-- the line of a configuration whose names are numbered anew, or nothing
abbrev pub line_reached : Asked → End → List Symbol → Configuration → List ℕ
line_reached asked end symbols c =
    if is_written asked end then line_of symbols (renumbered c) else []

-- the symbols of the first equation of two agents, told where the end is quiet: no rule has them
abbrev pub stuck_at : End → List Symbol → Configuration → Option (List ℕ)
stuck_at end.Quiet symbols c = stuck_text symbols (renumbered c)
stuck_at end.Steps symbols c = None
stuck_at end.Nodes symbols c = None
stuck_at end.Limit symbols c = None
stuck_at end.Memory symbols c = None

-- Of a system a configuration is reached, by however many threads. This is its line, and this tells of it. The system keeps
-- what the laws of every order ask for.
pub record EndsOf (s : SystemParts) (bounds : Bounds) (asked : Asked) (outcome : Outcome)
    (line : List ℕ) : Type 0 where
  pub answer : Configuration
  pub rule_set : IsRuleSet s.rules
  pub over : IsTrue (is_over s.rules.symbols s.config)
  pub names : HasNames s.config
  pub reached : IsReached s bounds answer outcome.end outcome.interactions outcome.by_rule.items
  pub name_steps : TellsNameSteps s.rules.rules s.config outcome.interactions
      (length answer.equations) outcome.end outcome.name_steps
  pub together : is_written asked outcome.end ≡ true → IsPutTogether answer
  pub prints : line ≡ line_reached asked outcome.end s.rules.symbols answer
  pub stuck : option_map (λ text. text.items) outcome.stuck
      ≡ stuck_at outcome.end s.rules.symbols answer
  pub rules : arc_value outcome.rules ≡ s.rules

-- A text is read as a system with these limits, and this is its line, and this tells of it.
pub record EndsAs (limits : Limits) (bounds : Bounds) (asked : Asked) (input : List ℕ)
    (outcome : Outcome) (line : List ℕ) : Type 0 where
  pub system : SystemParts
  pub reads : ReadsSystemWithin limits input (Ok system)
  pub ends : EndsOf system bounds asked outcome line

-- the answers of reducing in place within limits of the text and bounds of the way
abbrev pub ReducesInPlace : Limits → Bounds → Asked → Answering
ReducesInPlace limits bounds asked = answering (λ input fault. ReadsSystemWithin limits input (Err fault))
    (λ input line. (outcome : Outcome) × EndsAs limits bounds asked input outcome line)

-- what is appended for a text, and the outcome that tells of it
abbrev pub Tells : Limits → Bounds → Asked → List ℕ → Outcome → Option (List ℕ)
    → Option (List ℕ) → Type 0
Tells limits bounds asked input outcome old new =
    (line : List ℕ) × EndsAs limits bounds asked input outcome line × Appends old new line
