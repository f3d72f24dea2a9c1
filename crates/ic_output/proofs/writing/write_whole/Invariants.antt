use Rattle.ic_output.proofs.Sending.{IsSent}
use Rattle.ic_output.proofs.writing.write_whole.Given as goal

abbrev pub invariant-loop : goal.invariant-loop
invariant-loop g l = IsSent l.initial.rest l.rest (g.W.Write.contents l.fn.writer) (g.W.Write.contents l.writer)
