-- Keeps one after another, and what a stop in the midst of them leaves. This project's choice.
use Rattle.std.specs.Prelude.{◌≡◌, ◌⊎◌, ℕ, Bool, List, Result, Ok, Err}
use Rattle.ic_disk.specs.Time.{LeftSince}
use Rattle.ic_frames.specs.declared.faults.KeepFault.{KeepFault}
use Rattle.ic_kept.specs.declared.keeper.Keeper.{Keeper}
use Rattle.ic_kept.specs.Held.{Hold}
use Rattle.ic_kept.specs.Keeper.{newest_of, other_of, KeepsModel}
use Rattle.ic_kept.specs.Keeping.{CrashInKeeping, written_disk}

module _ {D : Type 0} (keeps_model : D → Bool) (image : D → List ℕ → Type 0) (clock : D → ℕ)
    (left : D → ℕ → List ℕ → Type 0) where
  -- one keep of a state, with this answer
  pub record IsKeep (state : List ℕ) (result : Result (Unit {0}) KeepFault) (old new : Keeper D)
      : Type 0 where
    pub crash : CrashInKeeping keeps_model image clock left state result old new
    pub model : KeepsModel keeps_model old → KeepsModel keeps_model new

  -- A keeper that has one state has come to have another by keeps that were answered. Each state may come after the one
  -- before it.
  pub data Course (After : (old new : List ℕ) → Type 0)
      : List ℕ → Keeper D → List ℕ → Keeper D → Type 0 where
    no_keep : (state : List ℕ) (k : Keeper D) → Course After state k state k
    one_more : (first state next : List ℕ) (k m n : Keeper D) → Course After first k state m
        → After state next → IsKeep next (Ok tt) m n → Course After first k next n

  -- The same, but the last keep may have been refused.
  pub data Way (After : (old new : List ℕ) → Type 0)
      : List ℕ → Keeper D → Keeper D → Type 0 where
    all_answered : (first last : List ℕ) (k n : Keeper D) → Course After first k last n
        → Way After first k n
    last_refused : (first state next : List ℕ) (k m n : Keeper D) (fault : KeepFault)
        → Course After first k state m → After state next → IsKeep next (Err fault) m n
        → Way After first k n

  -- A stop between keeps leaves these two files: the state that was kept last is there, and no other is coming.
  pub record LeftBetween (state : List ℕ) (k : Keeper D) (kept coming newest other : List ℕ)
      : Type 0 where
    pub kept_is : kept ≡ state
    pub coming_is : coming ≡ state
    pub on_newest : image (newest_of k) newest
    pub on_other : image (other_of k) other

  -- A stop in the midst of a keep leaves these two files: one state was kept last, and the next is coming.
  pub record LeftInKeep (state next : List ℕ) (result : Result (Unit {0}) KeepFault)
      (old new : Keeper D) (kept coming newest other : List ℕ) : Type 0 where
    pub kept_is : kept ≡ state
    pub coming_is : coming ≡ next
    pub spared : image (newest_of old) newest
    pub written : LeftSince (left (written_disk result new)) (clock (other_of old)) other

  -- a stop at some moment on the way leaves them: before, between or after its keeps, or in one
  abbrev pub LeftInCourse : {After : (old new : List ℕ) → Type 0} {first last : List ℕ}
      {k n : Keeper D} → Course After first k last n → (kept coming newest other : List ℕ) → Type 0
  LeftInCourse (no_keep state k) kept coming newest other =
      LeftBetween state k kept coming newest other
  LeftInCourse (one_more first state next k m n before after keep) kept coming newest other =
      LeftInCourse before kept coming newest other
      ⊎ LeftInKeep state next (Ok tt) m n kept coming newest other
      ⊎ LeftBetween next n kept coming newest other

  abbrev pub LeftOnWay : {After : (old new : List ℕ) → Type 0} {first : List ℕ} {k n : Keeper D}
      → Way After first k n → (kept coming newest other : List ℕ) → Type 0
  LeftOnWay (all_answered first last k n course) kept coming newest other =
      LeftInCourse course kept coming newest other
  LeftOnWay (last_refused first state next k m n fault before after keep) kept coming newest other =
      LeftInCourse before kept coming newest other
      ⊎ LeftInKeep state next (Err fault) m n kept coming newest other

-- Some states lead from one to another, where each may come after the one before it.
pub data Leads (After : (old new : List ℕ) → Type 0) : List ℕ → List ℕ → Type 0 where
  stays : (state : List ℕ) → Leads After state state
  goes_on : (first state next : List ℕ) → Leads After first state → After state next
      → Leads After first next

-- two files hold one state, and that has P
abbrev pub HoldOne : (P : List ℕ → Type 0) → (newest other : List ℕ) → Type 0
HoldOne P newest other = (state : List ℕ) × P state × Hold state newest other

-- two files hold this state or that
abbrev pub HoldOneOf : (state next newest other : List ℕ) → Type 0
HoldOneOf state next newest other = Hold state newest other ⊎ Hold next newest other
