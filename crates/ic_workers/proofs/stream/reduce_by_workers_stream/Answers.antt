use Rattle.std.proofs.Common.{refl}
use Rattle.ic_in_place.specs.lemmas.Answered.{refused_of_taken, unwritten_of_taken, written_of_taken, unread}
use Rattle.ic_workers.proofs.stream.reduce_by_workers_stream.Goals as goal

pub returns-in_err-text-clause-answered : goal.returns-in_err-text-clause-answered
returns-in_err-text-clause-answered g c = unread c.args.limits c.args.bounds c.args.asked _ _ _ _ _ c.from_residual.ensures.1 c.in_err-text.ensures.sort

pub returns-in_err-line-clause-answered : goal.returns-in_err-line-clause-answered
returns-in_err-line-clause-answered g c = refused_of_taken c.args.limits c.args.bounds c.args.asked _ _ _ _ _ _ _ c.in_err-line.field-0.0
    c.in_ok-text.ensures.text refl c.in_err-line.ensures.refused c.in_err-line.ensures.sort.0 c.from_residual-in_err-line.ensures.1

pub returns-in_err-write_line-clause-answered : goal.returns-in_err-write_line-clause-answered
returns-in_err-write_line-clause-answered g c = unwritten_of_taken c.args.limits c.args.bounds c.args.asked _ _ _ _ _ _ _ c.in_err-write_line.field-0.0
    c.in_ok-text.ensures.text refl (_, (c.in_ok-line.outcome, c.in_ok-line.ensures.line), rw c.deref.ensures.value at c.in_err-write_line.ensures.cut)
    c.in_err-write_line.ensures.refused c.from_residual-in_err-write_line.ensures.1

pub returns-clause-answered : goal.returns-clause-answered
returns-clause-answered g c = written_of_taken c.args.limits c.args.bounds c.args.asked c.in_ok-line.outcome _ _ _ _ _ _ _ _
    c.in_ok-text.ensures.text refl c.in_ok-line.ensures.line c.deref.ensures.value c.in_ok-write_line.ensures.written
