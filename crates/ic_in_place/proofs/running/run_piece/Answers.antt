use Rattle.std.proofs.Common.{Err, ap}
use Rattle.ic_in_place.proofs.running.run_piece.Goals as goal

pub returns-in-Err-Limit-clause-ended : goal.returns-in-Err-Limit-clause-ended
returns-in-Err-Limit-clause-ended c = record {
  within = c.run.ensures.at_most;
  quiet = λ is. cc;
  all = λ is. cc;
  more = λ is. cc;
  early = λ is. cc;
  limited = λ is. c.in-Err-Limit.ensures.early (ap Err c.in-Err-Limit.field-0-is);
}
