use Rattle.std.proofs.Common.{add-one}
use Rattle.ic_lines.proofs.TurnLemmas.{turns_few, turns_fewer, turns_first, turns_none, turns_front}
use Rattle.ic_lines.proofs.laws.runs_are_rounds_in_turn.Goals as goal

pub returns-clause-few : goal.returns-clause-few
returns-clause-few c = turns_few

pub returns-clause-fewer : goal.returns-clause-fewer
returns-clause-fewer c = turns_fewer (λ t place e. (c.due_is_the_next_running_job.ensures.none t place).0 e)

pub returns-clause-first : goal.returns-clause-first
returns-clause-first c = λ k place t f e. rw add-one (turns_first k place t f e)

pub returns-clause-idle : goal.returns-clause-idle
returns-clause-idle c = λ k place t none. turns_none k place t ((c.due_is_the_next_running_job.ensures.none t place).1 none)

pub returns-clause-front : goal.returns-clause-front
returns-clause-front c = turns_front
