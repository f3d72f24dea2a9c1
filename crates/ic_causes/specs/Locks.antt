-- When it is told that another open of a file holds its lock (this project's choice).
use Rattle.std.specs.Prelude.{Bool, true, false}
use Rattle.std.specs.declared.io.ErrorKind.{ErrorKind}
use Rattle.std.specs.declared.io.ErrorKind.TheVariants.{WouldBlock}
use Rattle.ic_causes.specs.declared.cause.FileCall.{FileCall}
use Rattle.ic_causes.specs.declared.cause.FileCall.TheVariants.{Lock}
use Rattle.ic_causes.specs.declared.cause.Reason.{Reason}
use Rattle.ic_causes.specs.declared.cause.Reason.TheVariants.{Locked}

-- whether this is the reason that is told
abbrev pub is_locked : Reason → Bool
is_locked Locked = true
is_locked _ = false

-- whether a call locks a file
abbrev pub is_lock : FileCall → Bool
is_lock Lock = true
is_lock _ = false

-- whether a call would have had to wait
abbrev pub would_wait : ErrorKind → Bool
would_wait WouldBlock = true
would_wait _ = false
