-- Words from which a piece may go on, and what a piece leads to. Inner: private functions cite it.
use Rattle.std.specs.Prelude.{◌≡◌, ◌⊎◌, ◌↔◌, ℕ, ◌+◌, ◌*◌, ◌-◌, ◌<◌, ◌≤◌, List, Option, None, Some, true, IsTrue, length, max}
use Rattle.std.specs.List.{AllByRecursion, list_all}
use Rattle.ic_term.specs.Configuration.{Configuration, configuration_names, configuration_nodes, occurrences}
use Rattle.ic_term.specs.Symbol.{Symbol, is_over}
use Rattle.ic_term.specs.declared.limits.TheConstants.{MAX_WIDE_NODES}
use Rattle.ic_flat.specs.declared.word.Word.{Word}
use Rattle.ic_flat.specs.Flat.{configuration_of}
use Rattle.ic_flat.specs.Words.{forest, is_word_over, IsWhole}
use Rattle.ic_in_place.specs.declared.running.Bounds.{Bounds}
use Rattle.ic_in_place.specs.declared.running.End.TheVariants.{Quiet, Steps}
use Rattle.ic_in_place.specs.declared.stream.Asked.{Asked}
use Rattle.ic_in_place.specs.Counting.{AreOfRounds}
use Rattle.ic_in_place.specs.Reducing.{IsPutTogether, IsReached, Writes}
use Rattle.ic_in_place.specs.Rounds.{MakesRounds}
use Rattle.ic_in_place.specs.declared.reducing.Reduced.{Reduced}
use Rattle.ic_kept.specs.declared.keeper.Keeper.{Keeper}
use Rattle.ic_disk.specs.declared.disk.Disk.{Ghosts}
use Rattle.ic_reaching.specs.OneNet.{OneNet}
use Rattle.ic_reaching.specs.Reaching.{Reaches}
use Rattle.ic_round.specs.Quiet.{IsQuiet}
use Rattle.ic_round.specs.Rounds.{iterate}
use Rattle.ic_rules.specs.System.{SystemParts}
use Rattle.ic_state.specs.declared.state.State.{State}
use Rattle.ic_state.specs.State.{IsKept, Kept, kept_by}
use Rattle.ic_state.specs.Words.{IsKeptWord}
use Rattle.ic_keeping.specs.declared.fault.KeepingFault.{KeepingFault}
use Rattle.ic_keeping.specs.declared.fault.KeepingFault.TheVariants as keeping
use Rattle.ic_keeping.specs.declared.beginning.ResumeFault.{ResumeFault}
use Rattle.ic_keeping.specs.declared.beginning.Start.{Start}
use Rattle.ic_keeping.specs.declared.going.Ended.{Ended}
use Rattle.ic_keeping.specs.declared.going.Piece.{Piece}
use Rattle.ic_keeping.specs.Life.{EndsBetween, GoesOn, HandsBack, HasAsFar, HasRun, HasState, IsStartOf, KeepsOn, StopsFrom, TellsOfKeeper}
use Rattle.ic_keeping.specs.Way.{ComesPastLimits, IsStateOf}

-- These words write a configuration over these symbols, with so many terms in its interface.
pub record IsWritten (ss : List Symbol) (words : List Word) (terms : ℕ) : Type 0 where
  pub whole : IsWhole words
  pub equations : ℕ
  pub counted : length (forest words) ≡ terms + 2 * equations
  pub twice : (n : ℕ) → occurrences n (configuration_names (configuration_of words terms 0)) ≤ 2
  pub over : IsTrue (is_over ss (configuration_of words terms 0))

-- From a state a net is reached in which nothing is left that could be put for a name, by the interactions that this other
-- one tells more than it. It has as many nodes as the other one has words.
pub record ComesTogether (s : SystemParts) (first k : Kept) : Type 0 where
  pub is : IsStateOf s first
  pub answer : Configuration
  pub more : List ℕ
  pub reached : Reaches s.rules.rules (configuration_of first.words first.terms is.next) answer more
  pub together : IsPutTogether answer
  pub counted : k.interactions ≡ first.interactions + length more
  pub nodes : configuration_nodes answer ≡ length k.words

-- The words of a state with so many equations may be printed.
pub record IsPrinted (ss : List Symbol) (state : State) (equations : ℕ) : Type 0 where
  pub whole : IsWhole state.words.items
  pub over : IsTrue (list_all (is_word_over ss) state.words.items)
  pub counted : length (forest state.words.items) ≡ state.terms + 2 * equations

-- A piece within these bounds has gone on from one state to another. From there the next piece may.
pub record IsPiece (ss : List Symbol) (bounds : Bounds) (old new : State) (piece : Piece)
    : Type 0 where
  pub later : old.interactions ≤ new.interactions
  pub within : old.rounds ≡ None → new.interactions ≤ old.interactions + bounds.steps
  pub steps : old.rounds ≡ None → piece.end ≡ Steps
      → old.interactions + bounds.steps ≤ new.interactions
  pub stays : old.interactions ≡ new.interactions → new.by_rule.items ≡ old.by_rule.items
  pub millis : old.millis ≤ new.millis
  pub ended : (new.ended ≡ true) ↔ (piece.end ≡ Quiet)
  pub numbered : length new.words.items ≤ MAX_WIDE_NODES
      → AllByRecursion (IsKeptWord new.narrow) new.words.items
  pub written : IsWritten ss new.words.items new.terms
  pub printed : IsPrinted ss new piece.equations
  pub any : old.rounds ≡ None → new.rounds ≡ None
  pub untold : old.rounds ≡ None → piece.rounds ≡ None
  pub more : (m n : ℕ) → old.rounds ≡ Some m → new.rounds ≡ Some n
      → (m ≤ n) × (piece.end ≡ Steps → m < n)

-- A system was reduced to what is told, by several threads within these bounds, or by so many rounds, where so many of as many at
-- most were made before.
pub record IsMade (s : SystemParts) (bounds : Bounds) (most : ℕ) (rounds : Option ℕ) (reduced : Reduced)
    (made : ℕ) : Type 0 where
  pub within : Bounds
  pub bounded : rounds ≡ None → within ≡ bounds
  pub answer : Configuration
  pub reached : IsReached s within answer reduced.end reduced.interactions reduced.by_rule.items
  pub together : IsPutTogether answer
  pub writes : Writes s.rules.symbols reduced.words.items reduced.terms reduced.equations answer
  pub by_rounds : (over : ℕ) → rounds ≡ Some over
      → MakesRounds s (most - over) made reduced.end answer
  pub fired : (over : ℕ) → rounds ≡ Some over → AreOfRounds s.rules.rules s.config made
      reduced.end reduced.interactions reduced.by_rule.items

-- A piece by rounds, before which so many were over, has come to an answer: so many are over in all as it tells, and no fewer end quiet. Where it has ended as one
-- was over, this is the net after them. If no more might be made, or some may be made still, that is known of its end.
pub record IsPieceByRounds (s : SystemParts) (most over : ℕ) (answer : Configuration)
    (new : State) (piece : Piece) : Type 0 where
  pub rounds : ℕ
  pub told : piece.rounds ≡ Some rounds
  pub within : rounds ≤ max most over
  pub later : over ≤ rounds
  pub net : (piece.end ≡ Quiet) ⊎ (piece.end ≡ Steps)
      → OneNet answer (iterate s.rules.rules rounds s.config)
  pub needed : (n : ℕ) → n < rounds → ¬ IsQuiet s.rules.rules (iterate s.rules.rules n s.config)
  pub all : piece.end ≡ Steps → new.rounds ≡ None → most ≤ rounds
  pub fired : AreOfRounds s.rules.rules s.config rounds piece.end new.interactions
      new.by_rule.items
  pub same : (n : ℕ) → new.rounds ≡ Some n → n ≡ rounds
  pub between : over < most → (piece.end ≡ Quiet) ⊎ (piece.end ≡ Steps)
      → new.rounds ≡ Some rounds

-- a piece from a state of a reduction stops only where memory runs out, or past a limit
pub record StopsAPiece (s : SystemParts) (first : Kept) (old : State) (fault : KeepingFault)
    : Type 0 where
  pub stops : (fault ≡ keeping.Memory) ⊎ (fault ≡ keeping.Limit)
  pub limit : fault ≡ keeping.Limit
      → (MAX_WIDE_NODES < length old.words.items) ⊎ ComesPastLimits s first

-- what stops a piece from any state
abbrev pub IsOfAPiece : KeepingFault → Type 0
IsOfAPiece fault = (fault ≡ keeping.Unsound) ⊎ (fault ≡ keeping.Memory) ⊎ (fault ≡ keeping.Limit)

module _ {D : Type 0} (disk : Ghosts D) where
  -- what a run with a keeper comes to at its end
  pub record EndsOnWay (bounds : Bounds) (most : ℕ) (asked : Asked) (start : Start)
      (old : Keeper D) (run : Ended) (new : Keeper D) : Type 0 where
    pub on : GoesOn bounds (kept_by start.state) run
    pub has_run : (s : SystemParts) → IsStartOf s start
        → HasRun s bounds most asked (kept_by start.state) run
    pub way : (s : SystemParts) → IsStartOf s start → IsKept (kept_by start.state)
        → KeepsOn disk s (kept_by start.state) old new
    pub kept : (s : SystemParts) → IsStartOf s start → IsKept (kept_by start.state)
        → HasState disk (kept_by start.state) old → EndsBetween (kept_by start.state) run
        → HasAsFar disk s (kept_by run.state) new

  -- and how it stops by a fault
  pub record StopsOnWay (start : Start) (old new : Keeper D) (fault : ResumeFault D)
      : Type 0 where
    pub back : HandsBack new fault
    pub tells : TellsOfKeeper old new fault.cause
    pub why : (s : SystemParts) → IsStartOf s start
        → StopsFrom s (kept_by start.state) fault.cause
    pub way : (s : SystemParts) → IsStartOf s start → IsKept (kept_by start.state)
        → KeepsOn disk s (kept_by start.state) old new
