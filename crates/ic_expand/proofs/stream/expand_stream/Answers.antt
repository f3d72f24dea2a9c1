use Rattle.ic_streams.specs.lemmas.Reading.{unread}
use Rattle.ic_expand.specs.Streams.{Expands}
use Rattle.ic_expand.proofs.Streaming.{refused_of_taken, taken_unwritten, written_of_taken}
use Rattle.ic_expand.proofs.stream.expand_stream.Goals as goal

pub returns-in_err-text-clause-answered : goal.returns-in_err-text-clause-answered
returns-in_err-text-clause-answered g c = unread Expands c.from_residual.result _ _ _ _ c.from_residual.ensures.1 c.in_err-text.ensures.sort

pub returns-in_err-out-clause-answered : goal.returns-in_err-out-clause-answered
returns-in_err-out-clause-answered g c = refused_of_taken c.from_residual-in_err-out.result _ _ _ _ _ _ c.in_err-out.field-0.0
    c.in_ok-text.ensures.text c.deref.ensures.value c.in_err-out.ensures.refused c.in_err-out.ensures.sort.0 c.from_residual-in_err-out.ensures.1

pub returns-clause-answered : goal.returns-clause-answered
returns-clause-answered g c = written_of_taken c.write_line.result _ _ _ _ _ _ _ _
    c.in_ok-text.ensures.text c.deref.ensures.value c.in_ok-out.ensures.text c.deref-2.ensures.value c.write_line.ensures.written c.write_line.ensures.cut c.write_line.ensures.refused

pub returns-clause-taken_at_fault : goal.returns-clause-taken_at_fault
returns-clause-taken_at_fault g c = taken_unwritten c.write_line.result _ _ _ c.in_ok-text.ensures.text c.write_line.ensures.refused
