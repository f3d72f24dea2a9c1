use Rattle.ic_lines.proofs.ServingLemmas.{out-append, after-append}
use Rattle.ic_lines.proofs.laws.lines_are_answered_in_turn.Goals as goal

pub returns-clause-out : goal.returns-clause-out
returns-clause-out c = out-append

pub returns-clause-after : goal.returns-clause-after
returns-clause-after c = after-append
