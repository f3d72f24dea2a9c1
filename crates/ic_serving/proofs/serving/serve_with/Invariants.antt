use Rattle.ic_lines.specs.Taking.{to_come}
use Rattle.ic_serving.proofs.StopLemmas.{Serves}
use Rattle.ic_serving.proofs.serving.serve_with.Given as goal

abbrev pub invariant-loop : goal.invariant-loop
invariant-loop g l = Serves l.limit l.group (g.R.Read.remaining l.fn.reader) (to_come l.lines (g.R.Read.remaining l.reader)) l.counter l.left
    l.fn.book l.book (g.W.Write.contents l.fn.writer) (g.W.Write.contents l.writer)
