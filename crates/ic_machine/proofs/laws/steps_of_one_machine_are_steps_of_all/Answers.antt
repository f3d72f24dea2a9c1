use Rattle.ic_machine.specs.lemmas.InRooms.{outside_of, steps_in_room}
use Rattle.ic_machine.proofs.laws.steps_of_one_machine_are_steps_of_all.Goals as goal

pub returns-clause-steps : goal.returns-clause-steps
returns-clause-steps c = λ p k fired xs ys others sound outside steps. steps_in_room p k fired xs ys others sound outside steps

pub returns-clause-apart : goal.returns-clause-apart
returns-clause-apart c = λ arities k l ps low also apart. outside_of arities k l ps low also apart
