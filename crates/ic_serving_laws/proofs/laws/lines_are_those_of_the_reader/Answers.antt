use Rattle.ic_serving_laws.proofs.laws.lines_are_those_of_the_reader.Goals as goal

pub returns-clause-known : goal.returns-clause-known
returns-clause-known c = λ text p. (λ h. h, λ h. h)

pub returns-clause-unknown : goal.returns-clause-unknown
returns-clause-unknown c = λ p. (λ h. h, λ h. h)

pub returns-clause-read_out : goal.returns-clause-read_out
returns-clause-read_out c = λ text new is. is
