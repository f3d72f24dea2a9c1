-- The parts of the disk with a fuse that contracts of public calls speak of.
use Rattle.std.specs.Prelude.{◌≡◌, ◌+◌, ℕ}
use Rattle.ic_disk.specs.History.{History}
use Rattle.ic_disk.specs.Fuse.{turn_of}
use Rattle.ic_disk.specs.Time.{one_call_more}
use Rattle.ic_disk.specs.declared.fuse.Turn.{Turn}
use Rattle.ic_disk.specs.declared.fuse.Fuse.{Fuse}
use Rattle.ic_disk.specs.declared.fuse.FuseDisk.{FuseDisk}

-- the disk in memory behind the fuse
abbrev pub disk_of : FuseDisk → History
disk_of f = f.disk

-- which call fails, and how
abbrev pub fuse_of : FuseDisk → Fuse
fuse_of f = f.fuse

-- how many calls there have been
abbrev pub calls_of : FuseDisk → ℕ
calls_of f = f.calls

-- how many of them answered Err
abbrev pub failures_of : FuseDisk → ℕ
failures_of f = f.failures

-- what becomes of the next call
abbrev pub next_turn : FuseDisk → Turn
next_turn f = turn_of (f.calls + 1) f.fuse

-- the fuse has had one more call
pub record Spends (old new : FuseDisk) : Type 0 where
  pub same_fuse : fuse_of new ≡ fuse_of old
  pub one_more : calls_of new ≡ one_call_more (calls_of old)
