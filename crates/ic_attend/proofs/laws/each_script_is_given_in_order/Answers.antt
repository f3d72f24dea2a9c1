use Rattle.ic_attend.proofs.HistoryLemmas.{given_script, refused_next, script_kept}
use Rattle.ic_attend.proofs.laws.each_script_is_given_in_order.Goals as goal

pub returns-clause-given : goal.returns-clause-given
returns-clause-given g c = given_script c.args.attended.now

pub returns-clause-script : goal.returns-clause-script
returns-clause-script g c = script_kept c.args.attended.now

pub returns-clause-refused : goal.returns-clause-refused
returns-clause-refused g c = refused_next c.args.attended.now

pub returns-clause-runners : goal.returns-clause-runners
returns-clause-runners g c = λ scripts runners turns history. history.counted
