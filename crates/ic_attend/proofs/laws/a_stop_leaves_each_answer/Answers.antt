use Rattle.ic_attend.proofs.PartLemmas.{parts_go_on}
use Rattle.ic_attend.proofs.laws.a_stop_leaves_each_answer.Goals as goal

pub returns-clause-page : goal.returns-clause-page
returns-clause-page c = λ start log kept stop legal within short. record { legal = legal; kept = within; stop = short }

pub returns-clause-answers : goal.returns-clause-answers
returns-clause-answers c = parts_go_on
