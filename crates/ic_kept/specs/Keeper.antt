-- The parts of a keeper that clauses speak of.
use Rattle.std.specs.Prelude.{ℕ, Bool, List, IsTrue}
use Rattle.ic_disk.specs.Images.{Within}
use Rattle.ic_kept.specs.declared.keeper.Keeper.{Keeper}
use Rattle.ic_kept.specs.Sheet.{IsNewest, IsBeside}

-- the disk of the file that has the newest state
abbrev pub newest_of : {D : Type 0} → Keeper D → D
newest_of keeper = keeper.newest

-- the disk of the file that is written next
abbrev pub other_of : {D : Type 0} → Keeper D → D
other_of keeper = keeper.other

-- the number of the newest state
abbrev pub number_of : {D : Type 0} → Keeper D → ℕ
number_of keeper = keeper.number

-- a call to a disk has failed
abbrev pub is_broken : {D : Type 0} → Keeper D → Bool
is_broken keeper = keeper.broken

-- the gate of the other file is closed
abbrev pub is_closed : {D : Type 0} → Keeper D → Bool
is_closed keeper = keeper.closed

-- both disks keep the model
abbrev pub KeepsModel : {D : Type 0} → (keeps_model : D → Bool) → Keeper D → Type 0
KeepsModel keeps_model k = IsTrue (keeps_model (newest_of k)) × IsTrue (keeps_model (other_of k))

-- A crash now leaves this state: it is in the one file, and the other is shut or has a number below.
pub record Keeps {D : Type 0} (image : D → List ℕ → Type 0) (state : List ℕ) (k : Keeper D)
    : Type 0 where
  pub newest : Within (image (newest_of k)) (IsNewest (number_of k) state)
  pub beside : Within (image (other_of k)) (IsBeside (is_closed k) (number_of k))
