use Rattle.ic_exact.proofs.spelled.what_is_spelled_is_read.Goals as goal

pub returns-clause-config : goal.returns-clause-config
returns-clause-config c = λ limits text answer is reads. reads.spelled is.0 is.1.0 is.1.1

pub returns-clause-system : goal.returns-clause-system
returns-clause-system c = λ limits text answer is reads. reads.spelled is.0 is.1.0 is.1.1

pub returns-clause-served_config : goal.returns-clause-served_config
returns-clause-served_config c = λ text answer is reads. reads.spelled is.0 is.1.0 is.1.1

pub returns-clause-served_system : goal.returns-clause-served_system
returns-clause-served_system c = λ text answer is reads. reads.spelled is.0 is.1.0 is.1.1
