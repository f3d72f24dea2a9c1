use Rattle.ic_in_place.specs.lemmas.ByRounds.{not_untold, refused_of_taken, unwritten_of_taken, written_of_taken, unread}
use Rattle.ic_in_place.proofs.rounded.reduce_by_rounds_stream.Goals as goal

pub returns-in_err-text-clause-answered : goal.returns-in_err-text-clause-answered
returns-in_err-text-clause-answered g c = unread c.args.limits c.args.bounds.rounds c.args.asked _ _ _ _ _ c.from_residual.ensures.1 c.in_err-text.ensures.sort

pub returns-in_err-write_line-clause-answered : goal.returns-in_err-write_line-clause-answered
returns-in_err-write_line-clause-answered g c = unwritten_of_taken c.args.limits c.args.bounds.rounds c.args.asked _ _ _ _ _ _ _ c.in_err-write_line.field-0.0
    c.in_ok-text.ensures.text c.deref.ensures.value (_, (c.in_ok-line.rounded, c.in_ok-line.ensures.line.0), rw c.deref-2.ensures.value at c.in_err-write_line.ensures.cut)
    c.in_err-write_line.ensures.refused c.from_residual-in_err-write_line.ensures.1

pub returns-clause-answered : goal.returns-clause-answered
returns-clause-answered g c = written_of_taken c.args.limits c.args.bounds.rounds c.args.asked c.in_ok-line.rounded _ _ _ _ _ _ _ _
    c.in_ok-text.ensures.text c.deref.ensures.value c.in_ok-line.ensures.line.0 c.deref-2.ensures.value c.in_ok-write_line.ensures.written

pub returns-in_err-line-clause-answered : goal.returns-in_err-line-clause-answered
returns-in_err-line-clause-answered g c =
    let refused = not_untold c.in_err-line.ensures.refused in
    refused_of_taken c.args.limits c.args.bounds.rounds c.args.asked _ _ _ _ _ _ _ c.in_err-line.field-0.0
    c.in_ok-text.ensures.text c.deref.ensures.value refused.0 refused.1 c.from_residual-in_err-line.ensures.1
