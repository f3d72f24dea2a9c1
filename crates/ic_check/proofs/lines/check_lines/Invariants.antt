use Rattle.std.proofs.Common.{length}
use Rattle.ic_check.specs.Faults.{LineHasFaultIn}
use Rattle.ic_check.specs.Files.{Grows}
use Rattle.ic_check.proofs.LookedAt.{GoesOn}
use Rattle.ic_check.proofs.lines.check_lines.Given as goal

-- whatever is so of what is left is so of the whole
abbrev pub invariant-loop-rest : goal.invariant-loop-rest
invariant-loop-rest g l = record {
  goes_on : GoesOn (LineHasFaultIn l.in_script) l.text l.rest l.is_faulty;
  grows : Grows (g.W.Write.contents l.fn.writer) (g.W.Write.contents l.writer);
}

abbrev pub decreases-loop-rest : goal.decreases-loop-rest
decreases-loop-rest g l = length l.rest
