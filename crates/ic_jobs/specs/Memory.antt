-- What may take memory.
use Rattle.std.specs.Prelude.{Bool, true, false}
use Rattle.ic_jobs.specs.declared.command.Command.{Command}
use Rattle.ic_jobs.specs.declared.command.Command.TheVariants.{Submit, CopyJob, Pause, Resume, Cancel, Fetch, List as list_jobs}
use Rattle.ic_jobs.specs.declared.reply.Reply.{Reply}
use Rattle.ic_jobs.specs.declared.reply.Reply.TheVariants.{Accepted, Okay, Shown, Listed, Refused, Moved, Halted}

-- pause, resume and cancel take no memory
abbrev pub takes_memory : Command → Bool
takes_memory (Submit name system budget) = true
takes_memory (CopyJob old new) = true
takes_memory (Pause name) = false
takes_memory (Resume name) = false
takes_memory (Cancel name) = false
takes_memory (Fetch name) = true
takes_memory list_jobs = true

-- a copy of a command takes memory only where it is a submit
abbrev pub is_submit : Command → Bool
is_submit (Submit name system budget) = true
is_submit (CopyJob old new) = false
is_submit (Pause name) = false
is_submit (Resume name) = false
is_submit (Cancel name) = false
is_submit (Fetch name) = false
is_submit list_jobs = false

-- a copy of a reply takes memory where it tells of jobs
abbrev pub tells_jobs : Reply → Bool
tells_jobs Accepted = false
tells_jobs Okay = false
tells_jobs (Shown job) = true
tells_jobs (Listed jobs) = true
tells_jobs (Refused refusal) = false
tells_jobs Moved = false
tells_jobs Halted = false
