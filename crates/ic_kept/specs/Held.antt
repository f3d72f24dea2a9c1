-- What two files hold. This project's choice.
use Rattle.std.specs.Prelude.{◌≡◌, ◌⊎◌, ℕ, ◌+◌, List}
use Rattle.ic_frames.specs.declared.faults.OpenCause.{OpenCause}
use Rattle.ic_frames.specs.declared.faults.OpenCause.TheVariants.{Device, NoSlot, TwoAlike, Damaged, Memory}
use Rattle.ic_kept.specs.Sheet.{gate, number, IsMade, IsNewest, IsOlder, IsShut}

-- The one file has this state, with this number, and the other is older.
pub record HoldsIn (n : ℕ) (state file other : List ℕ) : Type 0 where
  pub newest : IsNewest n state file
  pub older : IsOlder n other

-- one of the two files has this state, and the other is older
abbrev pub Hold : (state first second : List ℕ) → Type 0
Hold state first second = (n : ℕ) × (HoldsIn n state first second ⊎ HoldsIn n state second first)

-- The one file has the state with this number, or the other has the next one.
abbrev pub HoldEither : (n : ℕ) (state next newest other : List ℕ) → Type 0
HoldEither n state next newest other =
    HoldsIn n state newest other ⊎ HoldsIn (n + 1) next other newest

-- Both gates are open, before one number.
pub record AreAlike (first second : List ℕ) : Type 0 where
  pub made : IsMade first × IsMade second
  pub opened : (gate first ≡ 1) × (gate second ≡ 1)
  pub same : number first ≡ number second

-- No state is held, and the files are neither both shut nor alike.
pub record AreDamaged (first second : List ℕ) : Type 0 where
  pub none : (state : List ℕ) → ¬ Hold state first second
  pub not_shut : ¬ (IsShut first × IsShut second)
  pub not_alike : ¬ AreAlike first second

-- what a refusal says of two files
abbrev pub Answers : OpenCause → (first second : List ℕ) → Type 0
Answers NoSlot first second = IsShut first × IsShut second
Answers TwoAlike first second = AreAlike first second
Answers Damaged first second = AreDamaged first second
Answers Device first second = Unit {0}
Answers Memory first second = Unit {0}
