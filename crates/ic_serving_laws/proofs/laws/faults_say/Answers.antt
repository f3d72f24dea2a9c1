use Rattle.ic_serving_laws.proofs.PartLemmas.{says_long, says_many, unmade, without_round}
use Rattle.ic_serving_laws.proofs.laws.faults_say.Goals as goal

pub returns-clause-long_line : goal.returns-clause-long_line
returns-clause-long_line c = says_long

pub returns-clause-too_many_lines : goal.returns-clause-too_many_lines
returns-clause-too_many_lines c = says_many

pub returns-clause-never : goal.returns-clause-never
returns-clause-never c = (λ h. h, (λ h. h, (λ h. h, (λ h. h, (λ h. h, tt)))))

pub returns-clause-alone : goal.returns-clause-alone
returns-clause-alone c = (λ h. cc, (λ h. cc, (λ h. cc, tt)))

pub returns-clause-no_round : goal.returns-clause-no_round
returns-clause-no_round c = without_round

pub returns-clause-unmade : goal.returns-clause-unmade
returns-clause-unmade c = unmade

pub returns-clause-unmade_pool : goal.returns-clause-unmade_pool
returns-clause-unmade_pool c = λ fault. (λ h. h, λ h. h)

pub returns-clause-broken : goal.returns-clause-broken
returns-clause-broken c = λ fault h. h

pub returns-clause-broken_pool : goal.returns-clause-broken_pool
returns-clause-broken_pool c = λ fault h. h
