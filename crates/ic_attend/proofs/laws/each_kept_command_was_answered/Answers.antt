use Rattle.ic_attend.proofs.HistoryLemmas.{kept_answer}
use Rattle.ic_attend.proofs.laws.each_kept_command_was_answered.Goals as goal

pub returns : goal.returns
returns g c = kept_answer c.args.attended.now
