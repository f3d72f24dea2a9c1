-- Lives of a program that keeps a state in two files, one after another. Each is stopped at some moment. This project's
-- choice.
use Rattle.std.specs.Prelude.{ℕ, Bool, List, IsTrue}
use Rattle.ic_disk.specs.Images.{Within}
use Rattle.ic_disk.specs.Time.{LeftSince}
use Rattle.ic_kept.specs.declared.keeper.Keeper.{Keeper}
use Rattle.ic_kept.specs.Held.{Hold}
use Rattle.ic_kept.specs.Keeper.{newest_of, other_of, Keeps, KeepsModel}
use Rattle.ic_kept.specs.Opening.{InSomeOrder, OnlyReads}
use Rattle.ic_kept.specs.Course.{Way, LeftOnWay}

module _ {D : Type 0} (keeps_model : D → Bool) (content : D → List ℕ)
    (image : D → List ℕ → Type 0) (clock : D → ℕ) (left : D → ℕ → List ℕ → Type 0) where
  -- This disk is found after a stop in the midst of what led from one disk to another.
  pub record IsFound (before after found : D) : Type 0 where
    pub keeps : IsTrue (keeps_model found)
    pub images : Within (image found) (LeftSince (left after) (clock before))

  -- Two disks are found, and each two of their images are such files.
  pub record AreFound (files : (newest other : List ℕ) → Type 0) (first second : D)
      : Type 0 where
    pub keeps : IsTrue (keeps_model first)
    pub keeps_too : IsTrue (keeps_model second)
    pub images : (one other : List ℕ) → image first one → image second other → files one other

  -- Two disks are opened, and this state is found on them. The keeper has these two, in one order or the other, and they
  -- were only read.
  pub record AreOpened (state : List ℕ) (first second : D) (k : Keeper D) : Type 0 where
    pub held : Hold state (content first) (content second)
    pub model : KeepsModel keeps_model k
    pub keeps : Keeps image state k
    pub reads : InSomeOrder (OnlyReads keeps_model content image clock left) first second
        (newest_of k) (other_of k)

  -- These disks are found after some lives, which began with files that hold a first state. One state was kept last, and
  -- the other one was coming, if one was.
  pub data Lives (After : (old new : List ℕ) → Type 0) (first : List ℕ)
      : (kept coming : List ℕ) → D → D → Type 0 where
    none_yet : (one other : D) → AreFound (λ a b. Hold first a b) one other
        → Lives After first first first one other
    -- one that was stopped as it opened the disks, or was refused them
    one_opening : (kept coming : List ℕ) (one other one_then other_then one_now other_now : D)
        → Lives After first kept coming one other
        → OnlyReads keeps_model content image clock left one one_then
        → OnlyReads keeps_model content image clock left other other_then
        → IsFound one one_then one_now → IsFound other other_then other_now
        → Lives After first kept coming one_now other_now
    -- one that opened them and went on
    one_more : (kept coming state last next : List ℕ) (one other one_now other_now : D)
        (k n : Keeper D) → Lives After first kept coming one other → AreOpened state one other k
        → (way : Way keeps_model image clock left After state k n)
        → AreFound (LeftOnWay keeps_model image clock left way last next) one_now other_now
        → Lives After first last next one_now other_now
    -- whichever file is called the first
    turned : (kept coming : List ℕ) (one other : D) → Lives After first kept coming one other
        → Lives After first kept coming other one
