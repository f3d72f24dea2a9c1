-- A state is told by its number.
use Rattle.std.specs.Prelude.{◌≡◌, ℕ, refl}
use Rattle.std.specs.Coded.{Coded, code_by, coded_ℕ}
use Rattle.ic_jobs.specs.declared.state.State.{State}
use Rattle.ic_jobs.specs.declared.state.State.TheVariants.{Running}
use Rattle.ic_jobs.specs.State.{state_number, state_numbered}

pub state_numbered-number : (s : State) → state_numbered (state_number s) ≡ s
state_numbered-number Running = refl
state_numbered-number _ = refl

abbrev pub coded_state : Coded State
coded_state = code_by ℕ coded_ℕ state_number state_numbered state_numbered-number
