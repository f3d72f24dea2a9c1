use Rattle.ic_serving.proofs.WriteLemmas.{IsSent}
use Rattle.ic_serving.proofs.writing.write_answer.Given as goal

abbrev pub invariant-loop : goal.invariant-loop
invariant-loop g l = IsSent l.initial.rest l.rest (g.W.Write.contents l.fn.writer) (g.W.Write.contents l.writer)
