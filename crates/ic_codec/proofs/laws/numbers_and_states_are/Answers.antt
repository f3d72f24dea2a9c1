use Rattle.std.proofs.Common.{refl, arith}
use Rattle.std.specs.List.{Contains}
use Rattle.ic_jobs.specs.declared.state.State.{State}
use Rattle.ic_jobs.specs.declared.state.State.TheVariants.{Running, Paused, Done, Halted, Spent}
use Rattle.ic_codec.specs.Form.{all_states}
use Rattle.ic_codec.proofs.WorkedLemmas.{two_by_hand, eight_by_hand}
use Rattle.ic_codec.proofs.laws.numbers_and_states_are.Goals as goal

each : (state : State) → Contains all_states state
each Running = (0, omega arith, refl)
each Paused = (1, omega arith, refl)
each Done = (2, omega arith, refl)
each Halted = (3, omega arith, refl)
each Spent = (4, omega arith, refl)

pub returns-clause-two : goal.returns-clause-two
returns-clause-two c = two_by_hand

pub returns-clause-eight : goal.returns-clause-eight
returns-clause-eight c = eight_by_hand

pub returns-clause-all_states : goal.returns-clause-all_states
returns-clause-all_states c = each

pub returns-clause-states : goal.returns-clause-states
returns-clause-states c = refl
