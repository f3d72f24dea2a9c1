-- The parts of a disk in a file that contracts of public calls speak of.
use Rattle.std.specs.Prelude.{◌⊎◌, ℕ, Bool}
use Rattle.std.specs.Fs.{IsDir, IsFile}
use Rattle.std.specs.declared.fs.attrs.FileType.{FileType}
use Rattle.ic_disk.specs.declared.file.FileDisk.{FileDisk}

-- how many calls there have been, up to 2^64 - 1
abbrev pub calls_of : {F : Type 0} → FileDisk F → ℕ
calls_of f = f.calls

-- how many calls have failed
abbrev pub failures_of : {F : Type 0} → FileDisk F → ℕ
failures_of f = f.failures

-- whether a sync has failed
abbrev pub has_lost_sync : {F : Type 0} → FileDisk F → Bool
has_lost_sync f = f.sync_failed

-- a plain file or a folder, and none of the special files: a device, a pipe, a socket
abbrev pub IsFileOrFolder : FileType → Type 0
IsFileOrFolder kind = IsFile kind ⊎ IsDir kind
