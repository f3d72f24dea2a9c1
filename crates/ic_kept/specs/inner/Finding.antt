-- What is found in two files. Inner: private functions cite it.
use Rattle.std.specs.Prelude.{◌≡◌, ℕ, Bool, true, false, List, Option, None, Some, Result, Ok, Err}
use Rattle.ic_kept.specs.declared.head.Head.{Head}
use Rattle.ic_kept.specs.declared.finding.Chosen.{Chosen}
use Rattle.ic_kept.specs.declared.finding.Found.{Found}
use Rattle.ic_frames.specs.declared.faults.OpenCause.{OpenCause}
use Rattle.ic_frames.specs.declared.faults.OpenCause.TheVariants.{Device, NoSlot, TwoAlike, Damaged, Memory}
use Rattle.ic_kept.specs.Sheet.{gate, number, size, IsBeside, IsNewest}
use Rattle.ic_kept.specs.Held.{Answers}

-- an open gate is before this number and this length
pub record HasHead (head : Head) (file : List ℕ) : Type 0 where
  pub opened : gate file ≡ 1
  pub number_is : number file ≡ head.number
  pub size_is : size file ≡ head.size

-- the file has this head, or its gate isn't open
abbrev pub IsHeadOf : Option Head → List ℕ → Type 0
IsHeadOf None file = ¬ (gate file ≡ 1)
IsHeadOf (Some head) file = HasHead head file

-- the second, or the first
abbrev pub pick : {A : Type 0} → Bool → A → A → A
pick true first second = second
pick false first second = first

-- The one file is open and has this number and length, and the other is shut or has a number below.
pub record Leads (chosen : Chosen) (file other : List ℕ) : Type 0 where
  pub head : HasHead chosen.head file
  pub beside : IsBeside chosen.closed chosen.head.number other

abbrev pub IsChosen : Chosen → (first second : List ℕ) → Type 0
IsChosen chosen first second =
    Leads chosen (pick chosen.in_second first second) (pick chosen.in_second second first)

abbrev pub Chooses : Result Chosen OpenCause → (first second : List ℕ) → Type 0
Chooses (Ok chosen) first second = IsChosen chosen first second
Chooses (Err cause) first second = Answers cause first second

-- The one file has the state that was found, and the other is shut or has a number below.
pub record Finds (found : Found) (file other : List ℕ) : Type 0 where
  pub newest : IsNewest found.number found.state.items file
  pub beside : IsBeside found.closed found.number other

abbrev pub IsFound : Found → (first second : List ℕ) → Type 0
IsFound found first second =
    Finds found (pick found.in_second first second) (pick found.in_second second first)

-- a refusal that says nothing of the files
abbrev pub IsOfCalls : OpenCause → Type 0
IsOfCalls Device = Unit {0}
IsOfCalls Memory = Unit {0}
IsOfCalls NoSlot = ⊥
IsOfCalls TwoAlike = ⊥
IsOfCalls Damaged = ⊥

-- why one file isn't read: a call, or that it lacks what it should have
abbrev pub Spoils : OpenCause → Type 0 → Type 0
Spoils Device lacks = Unit {0}
Spoils Memory lacks = Unit {0}
Spoils Damaged lacks = lacks
Spoils NoSlot lacks = ⊥
Spoils TwoAlike lacks = ⊥
