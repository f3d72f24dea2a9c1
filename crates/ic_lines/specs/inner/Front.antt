-- For private functions: the front of a line while its line feed isn't found.
use Rattle.std.specs.Prelude.{◌≡◌, ℕ, ◌<◌, ◌≤◌, List, [], ◌∷◌, ◌++◌, Bool, true, false, Result, Ok, Err, OnErr, ◌≢◌, Option, length}
use Rattle.ic_text.specs.declared.limits.TheConstants.{MAX_TEXT}
use Rattle.ic_lines.specs.declared.buffer.LineFault.{LineFault}
use Rattle.std.specs.Io.KnownBytes.{Keeps}
use Rattle.ic_lines.specs.declared.buffer.LineFault.TheVariants.{LongLine}
use Rattle.ic_lines.specs.Lines.{has_feed}
use Rattle.ic_lines.specs.Taking.{TakesLine, HasNoLine, HasLongLine}

-- it has no line feed and is no longer than a line may be
pub record IsFront (front : List ℕ) : Type 0 where
  pub unfed : has_feed front ≡ false
  pub short : length front ≤ MAX_TEXT

-- bytes from ahead are moved to a line up to a line feed, which is taken away, or all of them, or none at a fault
abbrev pub MovesFront : Result Bool LineFault → List ℕ → List ℕ → List ℕ → List ℕ → Type 0
MovesFront (Ok true) line ahead line' ahead' =
    IsFront line' × (line ++ ahead ≡ line' ++ 10 ∷ ahead')
MovesFront (Ok false) line ahead line' ahead' =
    IsFront line' × (ahead' ≡ []) × (line ++ ahead ≡ line')
MovesFront (Err fault) line ahead line' ahead' = (line' ≡ line) × (ahead' ≡ ahead)

-- more bytes than a line may have stand before the first line feed
pub record IsLongFront (bytes : List ℕ) : Type 0 where
  pub front : List ℕ
  pub rest : List ℕ
  pub parted : bytes ≡ front ++ rest
  pub unfed : has_feed front ≡ false
  pub long : MAX_TEXT < length front

-- the first of the bytes to come are taken as a line, or none is to come, or nothing is taken at a fault
pub record Advances (result : Result Bool LineFault) (line : List ℕ) (old new : Option (List ℕ)) : Type 0 where
  pub taken : result ≡ Ok true → TakesLine line old new
  pub short : result ≡ Ok true → length line ≤ MAX_TEXT
  pub end : result ≡ Ok false → HasNoLine old
  pub stays : result ≡ Ok false → Keeps old new
  pub long : result ≡ Err LongLine → HasLongLine old
  pub fault : OnErr result (Keeps old new)
  pub none : result ≢ Ok true → line ≡ []
