use Rattle.std.proofs.Common.{List, Ok, ap, arith, length, subst}
use Rattle.std.proofs.lemmas.List.{length-map}
use Rattle.ic_jobs.specs.declared.command.Command.{Command}
use Rattle.ic_lines.specs.Script.{ReadsScript}
use Rattle.ic_batch.specs.Jobs.{submit_of}
use Rattle.ic_batch.proofs.RunLemmas.{together}
use Rattle.ic_batch.proofs.TakenLemmas.{lines_are_taken, room_for_all}
use Rattle.ic_batch.proofs.laws.batch_lines_are_taken.Goals as goal

pub returns-clause-jobs : goal.returns-clause-jobs
returns-clause-jobs c = λ text jobs asked are is distinct few. record {
  read = subst (λ (l : List Command). ReadsScript text (Ok l)) is
      (c.scripts_hold_the_commands_of_their_lines.ensures.commands text asked are (omega (arith, few, ap length is, length-map jobs submit_of)));
  distinct = distinct;
  few = few;
}

pub returns-clause-accepted : goal.returns-clause-accepted
returns-clause-accepted c = lines_are_taken

pub returns-clause-room : goal.returns-clause-room
returns-clause-room c = λ text jobs are. room_for_all jobs are.few

pub returns-clause-answers : goal.returns-clause-answers
returns-clause-answers c = λ most text jobs runs are stopped. together most jobs runs are.distinct stopped
