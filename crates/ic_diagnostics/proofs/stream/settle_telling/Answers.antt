use Rattle.ic_streams.specs.Streams.{Settles}
use Rattle.ic_streams.specs.lemmas.Reading.{settles_carried, refused_of_taken, written_of_taken}
use Rattle.ic_diagnostics.proofs.stream.settle_telling.Goals as goal

pub returns-in_err-line-clause-answered : goal.returns-in_err-line-clause-answered
returns-in_err-line-clause-answered g c = refused_of_taken Settles settles_carried c.from_residual-in_err-line.result _ _ _ _ _ _ c.in_err-line.field-0.0
    c.in_ok-text.ensures.text c.deref.ensures.value c.in_err-line.ensures.refused c.in_err-line.ensures.sort.0 c.from_residual-in_err-line.ensures.1

pub returns-clause-answered : goal.returns-clause-answered
returns-clause-answered g c = written_of_taken Settles settles_carried c.write_line.result _ _ _ _ _ _ _ _
    c.in_ok-text.ensures.text c.deref.ensures.value c.in_ok-line.ensures.line c.deref-2.ensures.value c.write_line.ensures.written c.write_line.ensures.cut c.write_line.ensures.refused
