use Rattle.ic_check.specs.Files.{Grows}
use Rattle.ic_check.proofs.writing.write_findings.Given as goal

-- what was written has grown so far
abbrev pub invariant-loop-finding : goal.invariant-loop-finding
invariant-loop-finding g l = record { grows : Grows (g.W.Write.contents l.fn.writer) (g.W.Write.contents l.writer) }
