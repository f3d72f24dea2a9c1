use Rattle.ic_lives.proofs.LeftLemmas.{stop_page}
use Rattle.ic_lives.proofs.pages.a_stop_leaves_a_page.Goals as goal

pub returns-clause-page : goal.returns-clause-page
returns-clause-page c = λ p. (λ is. (is.legal, is.kept, is.stop), λ is. record { legal = is.0; kept = is.1; stop = is.2 })

pub returns-clause-stop : goal.returns-clause-stop
returns-clause-stop c = stop_page
