use Rattle.ic_serving_laws.proofs.PartLemmas.{few_one, left_within}
use Rattle.ic_serving_laws.proofs.laws.faults_leave.Goals as goal

pub returns-clause-within : goal.returns-clause-within
returns-clause-within c = left_within c.one_line_reading.ensures.total

pub returns-clause-untaken : goal.returns-clause-untaken
returns-clause-untaken c = λ most t u ls. (λ left. left, (λ left. left, (λ left. left, tt)))

pub returns-clause-few : goal.returns-clause-few
returns-clause-few c = λ most t u ls is. (is.front, is.rest, is.answers, is.between, is.parted, is.few, is.served, is.in_line)

pub returns-clause-one : goal.returns-clause-one
returns-clause-one c = few_one
