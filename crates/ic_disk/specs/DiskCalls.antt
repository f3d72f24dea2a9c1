-- What each call does to the content, to the images, and to what crashes so far may have left, on a
-- disk that keeps the model: the clauses of the trait `Disk`.
use Rattle.std.specs.Prelude.{◌≡◌, ◌⊎◌, ℕ, List, length, Result, IfOk, OnOk, OnErr}
use Rattle.ic_disk.specs.Content.{bytes_at, laid}
use Rattle.ic_disk.specs.Images.{Only, StaysOrTears, Torn, TornFrom, Within}
use Rattle.ic_disk.specs.Time.{Elapses}

-- what a call for the length answers, over this content
abbrev pub TellsLength : {E : Type 0} → List ℕ → Result ℕ E → Type 0
TellsLength content result = IfOk result (λ n. n ≡ length content)

-- What a read at a place makes of a buffer. At Err it may hold any bytes.
abbrev pub ReadsBytes : {T E : Type 0} → ℕ → List ℕ → Result T E → (old new : List ℕ) → Type 0
ReadsBytes at content result old new = OnOk result (new ≡ bytes_at at (length old) content)

-- a call for the length, or one that reads: nothing changes
pub record ChangesNothing {D : Type 0} (content : D → List ℕ) (image : D → List ℕ → Type 0)
    (clock : D → ℕ) (left : D → ℕ → List ℕ → Type 0) (old new : D) : Type 0 where
  pub same : content new ≡ content old
  pub images : Within (image new) (image old)
  pub stay : Within (image old) (image new)
  pub time : Elapses (clock old) (clock new) (left old) (left new) (image old)

-- A write of these bytes. At Ok they are laid over the content, and the images are the old ones,
-- each torn there in any way. At Err nothing has changed, or the content is torn there, and the
-- images are as at Ok.
pub record IsDiskWrite {D T E : Type 0} (content : D → List ℕ) (image : D → List ℕ → Type 0)
    (clock : D → ℕ) (left : D → ℕ → List ℕ → Type 0) (at : ℕ) (bytes : List ℕ)
    (result : Result T E) (old new : D) : Type 0 where
  pub written : OnOk result (content new ≡ laid at bytes (content old))
  pub torn : OnErr result (Torn at (length bytes) (content old) (content new))
  pub images : Within (image new) (TornFrom at (length bytes) (image old))
  pub stay : Within (image old) (image new)
  pub all_torn : OnOk result (Within (TornFrom at (length bytes) (image old)) (image new))
  pub failed : OnErr result (StaysOrTears at (length bytes)
      (content old) (content new) (image old) (image new))
  pub time : Elapses (clock old) (clock new) (left old) (left new)
      (TornFrom at (length bytes) (image old))

-- A sync. The content stays. At Ok it is the only image. At Err the images are the old ones, or the
-- content alone.
pub record IsDiskSync {D T E : Type 0} (content : D → List ℕ) (image : D → List ℕ → Type 0)
    (clock : D → ℕ) (left : D → ℕ → List ℕ → Type 0) (result : Result T E) (old new : D)
    : Type 0 where
  pub same : content new ≡ content old
  pub durable : OnOk result (Only (content old) (image new))
  pub images : Within (image new) (image old)
  pub failed : OnErr result (Within (image old) (image new) ⊎ Only (content old) (image new))
  pub time : Elapses (clock old) (clock new) (left old) (left new) (image old)
