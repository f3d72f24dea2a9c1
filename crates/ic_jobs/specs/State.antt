-- The states of a job.
use Rattle.std.specs.Prelude.{ℕ, zero, suc, ◌==◌, Bool, true, false}
use Rattle.ic_jobs.specs.declared.state.State.{State}
use Rattle.ic_jobs.specs.declared.state.State.TheVariants.{Running, Paused, Done, Halted, Spent}

abbrev pub is_running : State → Bool
is_running Running = true
is_running Paused = false
is_running Done = false
is_running Halted = false
is_running Spent = false

abbrev pub is_paused : State → Bool
is_paused Running = false
is_paused Paused = true
is_paused Done = false
is_paused Halted = false
is_paused Spent = false

-- a state as a number (this project's choice)
abbrev pub state_number : State → ℕ
state_number Running = 0
state_number Paused = 1
state_number Done = 2
state_number Halted = 3
state_number Spent = 4

-- whether two states are one
abbrev pub state_eq : State → State → Bool
state_eq s r = state_number s == state_number r

-- the state of a number
abbrev pub state_numbered : ℕ → State
state_numbered zero = Running
state_numbered (suc zero) = Paused
state_numbered (suc (suc zero)) = Done
state_numbered (suc (suc (suc zero))) = Halted
state_numbered (suc (suc (suc (suc n)))) = Spent
