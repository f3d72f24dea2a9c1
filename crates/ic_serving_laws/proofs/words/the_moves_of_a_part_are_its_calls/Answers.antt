use Rattle.ic_serving_laws.proofs.ServedLemmas.{calls_run, turns_run}
use Rattle.ic_serving_laws.proofs.words.the_moves_of_a_part_are_its_calls.Goals as goal

pub returns-clause-lines : goal.returns-clause-lines
returns-clause-lines g c serving = turns_run serving.limit serving.front serving.old serving.answering serving.first_lines

pub returns-clause-none : goal.returns-clause-none
returns-clause-none g c moves are = are

pub returns-clause-ended : goal.returns-clause-ended
returns-clause-ended g c parts serving moves are =
    (are.0, are.2.moves, are.1, calls_run are.2.moves serving.answering serving.new are.2.calls, are.3)

pub returns-clause-stopped : goal.returns-clause-stopped
returns-clause-stopped g c parts serving found moves are =
    (are.0, are.2.moves, are.3, are.1, calls_run are.2.moves serving.answering serving.new are.2.calls, are.4, are.5)

pub returns-clause-other : goal.returns-clause-other
returns-clause-other g c parts more server moves are = are
