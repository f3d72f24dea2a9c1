use Rattle.ic_serving.proofs.WriteLemmas.{sent_more, sent_kept}
use Rattle.ic_serving.proofs.writing.write_answer.Goals as goal
use Rattle.ic_serving.proofs.writing.write_answer.Goals.{in-Ok, in-Err}

pub loop-preserved : goal.loop-preserved
loop-preserved g c = elim c.match-write.branch [
  | in-Ok w ↦ rw w.rest-is (sent_more c.args.answer.now c.loop.rest.now w.in-Ok.count (g.W.Write.contents c.args.writer.now) (g.W.Write.contents c.loop.writer)
      (g.W.Write.contents c.write.new.self) c.loop.invariant w.in-Ok.ensures.bytes)
  | in-Err w ↦ rw w.rest-is (sent_kept c.args.answer.now c.loop.rest.now (g.W.Write.contents c.args.writer.now) (g.W.Write.contents c.loop.writer)
      (g.W.Write.contents c.write.new.self) c.loop.invariant w.in-Err.ensures.bytes)
]
