use Rattle.ic_serving_laws.proofs.PartLemmas.{stands_all, stands_else}
use Rattle.ic_serving_laws.proofs.laws.a_stop_is_within_the_lines.Goals as goal

pub returns-clause-reached : goal.returns-clause-reached
returns-clause-reached c = λ t u ls is. (is.front, is.rest, is.answers, is.between, is.parted, is.within, is.served, is.in_line)

pub returns-clause-all_kept : goal.returns-clause-all_kept
returns-clause-all_kept c = stands_all

pub returns-clause-others : goal.returns-clause-others
returns-clause-others c = stands_else
