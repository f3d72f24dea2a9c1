-- The written model of a disk: what it holds, what is sure to stay, and which writes are pending.
-- All that is said of crashes rests on it. This project's choice.
use Rattle.std.specs.Prelude.{◌≡◌, ℕ, List, [], ◌∷◌, ◌++◌, length, map}
use Rattle.ic_disk.specs.Content.{laid}
use Rattle.ic_disk.specs.Images.{Within}
use Rattle.ic_disk.specs.PlainImages.{Range, IsImage}

-- bytes written at a place
pub record Write : Type 0 where
  pub at : ℕ
  pub bytes : List ℕ

-- where a write was
abbrev pub range_of : Write → Range
range_of w = record { at = w.at; size = length w.bytes }

-- a call that was made
pub data Call : Type 0 where
  write : Write → Call
  sync : Call

-- a write of these bytes at a place
abbrev pub write_of : ℕ → List ℕ → Call
write_of at bytes = write (record { at = at; bytes = bytes })

-- what reads give, what they gave at the last sync or at the disk's beginning, and the writes since
pub record State : Type 0 where
  pub content : List ℕ
  pub synced : List ℕ
  pub pending : List Write

-- a disk that begins with these bytes, all of them synced
abbrev pub begun : List ℕ → State
begun file = record { content = file; synced = file; pending = [] }

-- the state after one call
abbrev pub after : Call → State → State
after (write w) s = record {
  content = laid w.at w.bytes s.content;
  synced = s.synced;
  pending = s.pending ++ w ∷ [];
}
after sync s = record { content = s.content; synced = s.content; pending = [] }

-- the state after a write that failed with its range pending, where reads give this content now
abbrev pub after_failed : Write → List ℕ → State → State
after_failed w content s =
    record { content = content; synced = s.synced; pending = s.pending ++ w ∷ [] }

-- what a crash in a state may leave
abbrev pub IsImageIn : State → List ℕ → Type 0
IsImageIn s = IsImage s.synced (map range_of s.pending)

-- A disk is in a state: reads give its content, and what a crash may leave are its images, all of
-- them and no others.
pub record IsInState {D : Type 0} (content : D → List ℕ) (image : D → List ℕ → Type 0)
    (disk : D) (s : State) : Type 0 where
  pub same : content disk ≡ s.content
  pub no_others : Within (image disk) (IsImageIn s)
  pub all : Within (IsImageIn s) (image disk)
