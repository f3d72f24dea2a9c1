use Rattle.ic_serving_laws.proofs.groups.lines_are_parted_into_groups.Goals as goal

pub returns-clause-lines : goal.returns-clause-lines
returns-clause-lines g c = λ limit most ls turns. turns.parted

pub returns-clause-few : goal.returns-clause-few
returns-clause-few g c = λ limit most ls turns. turns.small
