use Rattle.ic_serving_laws.proofs.stops.an_opening_is_a_step_by_its_answer.Goals as goal

pub returns-clause-opened : goal.returns-clause-opened
returns-clause-opened g c = λ step. step

pub returns-clause-refused : goal.returns-clause-refused
returns-clause-refused g c = λ fault step. step
