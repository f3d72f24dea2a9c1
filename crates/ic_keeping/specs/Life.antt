-- One life of a reduction that is kept, what it tells, and why it stops (this project's choice).
use Rattle.std.specs.Prelude.{◌≡◌, ◌≢◌, ◌⊎◌, ◌↔◌, ◌<◌, ◌≤◌, ℕ, ◌-◌, ◌^◌, true, false, List, [], None, Some, IsNone, IsTrue, max, if◌then◌else◌}
use Rattle.std.specs.Arc.{arc_value}
use Rattle.std.specs.Option.{option_map}
use Rattle.ic_streams.specs.Streams.{line_of}
use Rattle.ic_streams.specs.Stuck.{stuck_text}
use Rattle.ic_disk.specs.declared.disk.Disk.{Ghosts}
use Rattle.ic_disk.specs.Images.{Within}
use Rattle.ic_disk.specs.Time.{OneMore}
use Rattle.ic_flat.specs.Flat.{configuration_of}
use Rattle.ic_frames.specs.declared.faults.KeepFault.{KeepFault}
use Rattle.ic_frames.specs.declared.faults.KeepFault.TheVariants as keep
use Rattle.ic_frames.specs.declared.faults.OpenCause.{OpenCause}
use Rattle.ic_frames.specs.declared.faults.OpenCause.TheVariants as opening
use Rattle.ic_in_place.specs.declared.running.Bounds.{Bounds}
use Rattle.ic_in_place.specs.declared.running.End.TheVariants.{Quiet, Steps}
use Rattle.ic_in_place.specs.declared.stream.Asked.{Asked}
use Rattle.ic_in_place.specs.Reductions.{is_written}
use Rattle.ic_kept.specs.declared.keeper.Keeper.{Keeper}
use Rattle.ic_kept.specs.Course.{HoldOne, LeftOnWay, Way}
use Rattle.ic_kept.specs.Keeper.{is_broken, Keeps, KeepsModel, newest_of, number_of, other_of}
use Rattle.ic_kept.specs.Lives.{AreFound, AreOpened, IsFound, Lives}
use Rattle.ic_kept.specs.Opening.{InSomeOrder, OnlyReads}
use Rattle.ic_kept.specs.Sheet.{IsNewest, IsShut}
use Rattle.ic_rules.specs.System.{SystemParts}
use Rattle.ic_state.specs.State.{Kept, IsKept, kept_by, state_bytes}
use Rattle.ic_keeping.specs.declared.beginning.ResumeFault.{ResumeFault}
use Rattle.ic_keeping.specs.declared.beginning.Start.{Start}
use Rattle.ic_keeping.specs.declared.fault.KeepingFault.{KeepingFault}
use Rattle.ic_keeping.specs.declared.fault.KeepingFault.TheVariants.{Device, Keep, Limit, Memory, NotEmpty, Open, Unsound}
use Rattle.ic_keeping.specs.declared.going.Ended.{Ended}
use Rattle.ic_keeping.specs.Way.{ComesPastLimits, IsAnswer, IsAnswerByRounds, IsAsFar, IsFormFrom, IsKeptAfter, IsNoLess, IsReachedFrom, IsStateOf}

-- with what the reduction of this system begins or goes on: its rules, and a state of it
pub record IsStartOf (s : SystemParts) (start : Start) : Type 0 where
  pub rules : arc_value start.rules ≡ s.rules
  pub state : IsStateOf s (kept_by start.state)

-- What is told of a run's end: the rules of the system, and the line of what was reached, where it is asked for. At a quiet
-- end it is told which equation of two agents is the first, by their symbols: no rule has them.
pub record IsTold (s : SystemParts) (asked : Asked) (ended : Ended) : Type 0 where
  pub rules : arc_value ended.rules ≡ s.rules
  pub line : ended.line.items ≡ if is_written asked ended.end
      then line_of s.rules.symbols
      (configuration_of ended.state.words.items ended.state.terms 0) else []
  pub stuck : ended.end ≡ Quiet
      → option_map (λ text. text.items) ended.stuck
      ≡ stuck_text s.rules.symbols
      (configuration_of ended.state.words.items ended.state.terms 0)
  pub unstuck : ended.end ≢ Quiet → IsNone ended.stuck

-- A run from this state of the reduction has ended so. Its answer is one of the system, and is reached from that state. In any
-- order it is one within these bounds, and no rounds are told. By rounds it is the net after as many as are told, at most so many,
-- or as were made before, and no fewer than these, unless a bound or a limit came before any pair had fired.
pub record HasRun (s : SystemParts) (bounds : Bounds) (most : ℕ) (asked : Asked) (k : Kept)
    (run : Ended) : Type 0 where
  pub within : Bounds
  pub bounded : k.rounds ≡ None → within ≡ bounds
  pub answer : IsAnswer s within run.end (kept_by run.state)
  pub told : IsTold s asked run
  pub onward : IsReachedFrom s k (kept_by run.state)
  pub by_rounds : (made : ℕ) → k.rounds ≡ Some made → (rounds : ℕ) × (run.rounds ≡ Some rounds)
      × (rounds ≤ max most made) × IsAnswerByRounds s most rounds run.end answer.answer
      run.state.interactions run.state.by_rule.items
  pub no_fewer : (made rounds : ℕ) → k.rounds ≡ Some made → run.rounds ≡ Some rounds
      → (made ≤ rounds) ⊎ ((rounds ≡ 0) × (run.state.interactions ≡ 0) × (run.end ≢ Quiet)
      × (run.end ≢ Steps))
  pub any_order : k.rounds ≡ None → run.rounds ≡ None
  pub between : (made : ℕ) → k.rounds ≡ Some made → made < most
      → (run.end ≡ Quiet) ⊎ (run.end ≡ Steps) → run.state.rounds ≡ run.rounds

-- A run from any state goes on from what that says: it has no fewer interactions. In any order it has no more than are allowed
-- or than there were. It is told to have ended, and a pair to be stuck, only at a quiet end.
pub record GoesOn (bounds : Bounds) (k : Kept) (run : Ended) : Type 0 where
  pub later : k.interactions ≤ run.state.interactions
  pub within : k.rounds ≡ None → run.state.interactions ≤ max bounds.steps k.interactions
  pub millis : k.millis ≤ run.state.millis
  pub ended : (run.state.ended ≡ true) ↔ (run.end ≡ Quiet)
  pub unstuck : run.end ≢ Quiet → IsNone run.stuck

-- A run from this state has ended between two rounds, if it goes by rounds. Within one nothing is kept.
abbrev pub EndsBetween : Kept → Ended → Type 0
EndsBetween k run = (k.rounds ≡ None) ⊎ ((rounds : ℕ) × (run.state.rounds ≡ Some rounds))

-- a run from a state of its reduction stops by these faults only
abbrev pub StopsARun : KeepingFault → Type 0
StopsARun fault = (fault ≡ Memory) ⊎ (fault ≡ Limit) ⊎ ((cause : KeepFault) × (fault ≡ Keep cause))

-- an opening of two files that hold a state of a reduction is refused by these faults only
abbrev pub StopsAnOpening : KeepingFault → Type 0
StopsAnOpening fault =
    (fault ≡ Open opening.Device) ⊎ (fault ≡ Open opening.Memory) ⊎ (fault ≡ Memory)

-- and one of any two files by these
abbrev pub RefusesFiles : KeepingFault → Type 0
RefusesFiles fault =
    ((cause : OpenCause) × (fault ≡ Open cause)) ⊎ (fault ≡ Unsound) ⊎ (fault ≡ Memory)

-- a reduction isn't begun in two files by these faults only
abbrev pub StopsABegin : KeepingFault → Type 0
StopsABegin fault = (fault ≡ NotEmpty) ⊎ (fault ≡ Device) ⊎ (fault ≡ Limit) ⊎ (fault ≡ Memory)

-- A run from this state has stopped by such a fault. At a limit a net is reached from there that is past one.
pub record StopsFrom (s : SystemParts) (k : Kept) (fault : KeepingFault) : Type 0 where
  pub stops : StopsARun fault
  pub limit : fault ≡ Limit → ComesPastLimits s k

-- What a keep that was refused says of its keeper, before the first of the keeps that it came after, and now: it was broken,
-- it has the last number, or it wasn't broken and is.
abbrev pub KeepFails : {D : Type 0} → KeepFault → (old new : Keeper D) → Type 0
KeepFails keep.Broken old new = (is_broken old ≡ true) × (new ≡ old)
KeepFails keep.Worn old new =
    (is_broken old ≡ false) × (is_broken new ≡ false) × (number_of new ≡ 2 ^ 64 - 1)
KeepFails keep.Device old new = (is_broken old ≡ false) × (is_broken new ≡ true)

-- What a fault of a run from any state says of its keeper. Only before anything was kept it may be that the state is unsound.
pub record TellsOfKeeper {D : Type 0} (old new : Keeper D) (fault : KeepingFault) : Type 0 where
  pub failed : (cause : KeepFault) → fault ≡ Keep cause → KeepFails cause old new
  pub unsound : fault ≡ Unsound → new ≡ old
  pub unopened : (cause : OpenCause) → fault ≢ Open cause

-- a fault hands back the disks of this keeper
abbrev pub HandsBack : {D : Type 0} → Keeper D → ResumeFault D → Type 0
HandsBack keeper fault = (fault.first ≡ newest_of keeper) × (fault.second ≡ other_of keeper)

-- A run of a keeper has stopped so, from this state, and a fault hands back the disks.
pub record StopsAt {D : Type 0} (s : SystemParts) (k : Kept) (old new : Keeper D)
    (fault : ResumeFault D) : Type 0 where
  pub back : HandsBack new fault
  pub why : StopsFrom s k fault.cause
  pub tells : TellsOfKeeper old new fault.cause

module _ {D : Type 0} (disk : Ghosts D) where
  -- both keep the model
  abbrev pub KeepModel : (first second : D) → Type 0
  KeepModel first second = IsTrue (disk.keeps first) × IsTrue (disk.keeps second)

  abbrev pub AreEmpty : (first second : D) → Type 0
  AreEmpty first second = (disk.content first ≡ []) × (disk.content second ≡ [])

  abbrev pub IsRead : (old new : D) → Type 0
  IsRead old new = OnlyReads disk.keeps disk.content disk.image disk.clock disk.left old new

  -- this disk was only read, and the other is found after a stop since then
  abbrev pub IsFoundAgain : (old now : D) → Type 0
  IsFoundAgain old now = (read : D) × IsRead old read
      × IsFound disk.keeps disk.content disk.image disk.clock disk.left old read now

  -- a fault hands back two disks that were only read, in one order or the other
  abbrev pub AreRead : (first second : D) → ResumeFault D → Type 0
  AreRead first second fault = InSomeOrder IsRead first second fault.first fault.second

  -- a call to one of two disks has failed, which a fault hands back
  abbrev pub HasFailed : (first second : D) → ResumeFault D → Type 0
  HasFailed first second fault = OneMore (disk.failures first) (disk.failures fault.first)
      ⊎ OneMore (disk.failures second) (disk.failures fault.second)

  -- A reduction isn't begun in two files, which a fault hands back. Where memory runs out or a limit is met, nothing was done with
  -- them. Files that hold something were only read.
  pub record IsNotBegun (first second : D) (fault : ResumeFault D) : Type 0 where
    pub stops : StopsABegin fault.cause
    pub untouched : (fault.cause ≡ Memory) ⊎ (fault.cause ≡ Limit) → (fault.first ≡ first) × (fault.second ≡ second)
    pub spared : fault.cause ≡ NotEmpty → IsRead first fault.first × IsRead second fault.second

  -- reads give files that hold a state of the reduction of this system, which goes no less far than this one
  pub record HoldAState (s : SystemParts) (from : Kept) (first second : D) : Type 0 where
    pub model : KeepModel first second
    pub held : HoldOne (IsFormFrom s from) (disk.content first) (disk.content second)

  -- a crash now leaves this state
  abbrev pub HasState : Kept → Keeper D → Type 0
  HasState k keeper = KeepsModel disk.keeps keeper × Keeps disk.image (state_bytes k) keeper

  -- it leaves one that goes as far as this one, and from which this one is reached
  pub record HasAsFar (s : SystemParts) (k : Kept) (keeper : Keeper D) : Type 0 where
    pub kept : Kept
    pub is_kept : IsKept kept
    pub onward : IsReachedFrom s kept k
    pub as_far : IsAsFar kept k
    pub has : HasState kept keeper

  -- this state was found on two disks, and the keeper has these two
  abbrev pub IsOpened : Kept → (first second : D) → Keeper D → Type 0
  IsOpened k first second keeper = AreOpened disk.keeps disk.content disk.image disk.clock disk.left
      (state_bytes k) first second keeper

  -- a keeper that has this state keeps states of its reduction, each of which goes further than the one before it
  abbrev pub KeepsOn : SystemParts → Kept → (old new : Keeper D) → Type 0
  KeepsOn s k old new =
      Way disk.keeps disk.image disk.clock disk.left (IsKeptAfter s) (state_bytes k) old new

  -- These disks are found after some lives of the reduction of this system, which began with files that hold this state. One
  -- state was kept last, and the other one was coming, if one was.
  pub record HasLived (s : SystemParts) (begun : Kept) (kept coming : List ℕ) (first second : D)
      : Type 0 where
    pub is_kept : IsKept begun
    pub state : IsStateOf s begun
    pub lives : Lives disk.keeps disk.content disk.image disk.clock disk.left (IsKeptAfter s)
        (state_bytes begun) kept coming first second

  -- One life of the reduction of this system: two disks were opened, this state was found on them, and a keeper went on from
  -- there.
  pub record IsLife (s : SystemParts) (found : Kept) (first second : D) (k n : Keeper D)
      : Type 0 where
    pub is_kept : IsKept found
    pub state : IsStateOf s found
    pub opened : IsOpened found first second k
    pub way : KeepsOn s found k n

  -- two disks are found after a stop on the way of a life, where one state was kept last, and the other one was coming
  abbrev pub IsLeftBy : {s : SystemParts} {found : Kept} {first second : D} {k n : Keeper D}
      → IsLife s found first second k n → (kept coming : List ℕ) → (one other : D) → Type 0
  IsLeftBy life kept coming one other =
      AreFound disk.keeps disk.content disk.image disk.clock disk.left
      (LeftOnWay disk.keeps disk.image disk.clock disk.left life.way kept coming) one other

  -- The first life of the reduction of this system: its first state was kept in two files, and a keeper went on from there.
  pub record IsFirstLife (s : SystemParts) (begun : Kept) (n : Keeper D) : Type 0 where
    pub first : D
    pub second : D
    pub model : KeepModel first second
    pub newest : Within (disk.image first) (IsNewest 1 (state_bytes begun))
    pub shut : Within (disk.image second) IsShut
    pub keeper : Keeper D
    pub life : IsLife s begun first second keeper n

  -- A life has come to its end: it has found a state, and gone on from there.
  pub record HasEnded (s : SystemParts) (bounds : Bounds) (most : ℕ) (asked : Asked) (from : Kept)
      (first second : D) (run : Ended) (n : Keeper D) : Type 0 where
    pub found : Kept
    pub keeper : Keeper D
    pub life : IsLife s found first second keeper n
    pub no_less : IsNoLess from found
    pub has_run : HasRun s bounds most asked found run
    pub on : GoesOn bounds found run
    pub kept : EndsBetween found run → HasAsFar s (kept_by run.state) n
