use Rattle.ic_streams.specs.lemmas.Reading.{refused_of_taken, unread, written_of_taken}
use Rattle.ic_nets.specs.Draws.{Draws}
use Rattle.ic_nets.proofs.DrawLemmas.{draws_carried}
use Rattle.ic_nets.proofs.stream.draw_stream.Goals as goal

pub returns-in_err-text-clause-answered : goal.returns-in_err-text-clause-answered
returns-in_err-text-clause-answered g c = unread Draws c.from_residual.result _ _ _ _ c.from_residual.ensures.1 c.in_err-text.ensures.sort

pub returns-in_err-graph-clause-answered : goal.returns-in_err-graph-clause-answered
returns-in_err-graph-clause-answered g c = refused_of_taken Draws draws_carried c.from_residual-in_err-graph.result _ _ _ _ _ _ c.in_err-graph.field-0.0
    c.in_ok-text.ensures.text c.deref.ensures.value c.in_err-graph.ensures.refused c.in_err-graph.ensures.sort.0 c.from_residual-in_err-graph.ensures.1

pub returns-clause-answered : goal.returns-clause-answered
returns-clause-answered g c = written_of_taken Draws draws_carried c.write_line.result _ _ _ _ _ _ _ _
    c.in_ok-text.ensures.text c.deref.ensures.value c.in_ok-graph.ensures.read c.deref-2.ensures.value c.write_line.ensures.written c.write_line.ensures.cut c.write_line.ensures.refused
