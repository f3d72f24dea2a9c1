-- Which reply is which.
use Rattle.std.specs.Prelude.{Bool, true, false}
use Rattle.ic_jobs.specs.declared.reply.Reply.{Reply}
use Rattle.ic_jobs.specs.declared.reply.Reply.TheVariants.{Accepted, Okay, Shown, Listed, Refused, Moved, Halted}

-- a job was submitted, or copied
abbrev pub is_accepted : Reply → Bool
is_accepted Accepted = true
is_accepted Okay = false
is_accepted (Shown job) = false
is_accepted (Listed jobs) = false
is_accepted (Refused refusal) = false
is_accepted Moved = false
is_accepted Halted = false

-- a job was paused, resumed or cancelled
abbrev pub is_okay : Reply → Bool
is_okay Accepted = false
is_okay Okay = true
is_okay (Shown job) = false
is_okay (Listed jobs) = false
is_okay (Refused refusal) = false
is_okay Moved = false
is_okay Halted = false

-- a job made a round
abbrev pub is_moved : Reply → Bool
is_moved Accepted = false
is_moved Okay = false
is_moved (Shown job) = false
is_moved (Listed jobs) = false
is_moved (Refused refusal) = false
is_moved Moved = true
is_moved Halted = false
