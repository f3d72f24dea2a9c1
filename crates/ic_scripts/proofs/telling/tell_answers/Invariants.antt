use Rattle.std.proofs.Common.{drop}
use Rattle.std.specs.List.{flat_map}
use Rattle.ic_scripts.specs.Telling.{answer_line}
use Rattle.ic_scripts.proofs.Sending.{IsSent}
use Rattle.ic_scripts.proofs.telling.tell_answers.Given as goal

-- the answers before this one were told
abbrev pub invariant-loop-answer : goal.invariant-loop-answer
invariant-loop-answer g l =
    IsSent (flat_map answer_line l.answers) (flat_map answer_line (drop l.answer-index l.answers)) (g.W.Write.contents l.fn.writer) (g.W.Write.contents l.writer)
