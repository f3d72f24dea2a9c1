-- Which states a job may be in.
use Rattle.std.specs.Prelude.{Bool, true, false, not, if◌then◌else◌}
use Rattle.ic_jobs.specs.declared.state.State.{State}
use Rattle.ic_jobs.specs.declared.state.State.TheVariants.{Running, Paused, Done, Halted, Spent}

abbrev pub is_done : State → Bool
is_done Running = false
is_done Paused = false
is_done Done = true
is_done Halted = false
is_done Spent = false

abbrev pub is_spent : State → Bool
is_spent Running = false
is_spent Paused = false
is_spent Done = false
is_spent Halted = false
is_spent Spent = true

-- a job that makes no further round, whoever asks
abbrev pub is_finished : State → Bool
is_finished Running = false
is_finished Paused = false
is_finished Done = true
is_finished Halted = false
is_finished Spent = true

-- whether a job may be in this state, by whether it is quiet and has used up its budget
abbrev pub may_be : State → Bool → Bool → Bool
may_be s quiet used_up =
    if quiet then is_done s else (if used_up then is_spent s else not (is_finished s))
