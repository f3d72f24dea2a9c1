-- What the disk in memory keeps of its past. Inner: private functions cite it.
use Rattle.std.specs.Prelude.{ℕ, List, Option, Some, None, Vec}
use Rattle.std.specs.declared.alloc.Global.{Global}
use Rattle.ic_disk.specs.Model.{Call, write, sync}
use Rattle.ic_disk.specs.declared.noted.Noted.{Noted}
use Rattle.ic_disk.specs.declared.noted.Noted.TheVariants.{Write, Sync}

-- the call that was noted
abbrev pub call_of : Noted → Call
call_of (Write at bytes) = write (record { at = at; bytes = bytes.items })
call_of Sync = sync

-- how the disk began: as was kept, or as it is where nothing was
abbrev pub first_of : Option (Vec ℕ Global) → List ℕ → List ℕ
first_of None content = content
first_of (Some first) content = first.items
