use Rattle.std.proofs.Common.{drop}
use Rattle.ic_scripts.specs.Telling.{told, told_from}
use Rattle.ic_scripts.proofs.Sending.{IsSent}
use Rattle.ic_scripts.proofs.telling.tell.Given as goal

-- the clients before this one were told
abbrev pub invariant-loop-place : goal.invariant-loop-place
invariant-loop-place g l = IsSent (told l.runs) (told_from l.place (drop l.place l.runs)) (g.W.Write.contents l.fn.writer) (g.W.Write.contents l.writer)
