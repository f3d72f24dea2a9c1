use Rattle.std.proofs.Common.{length, sym, ap, ◌∙◌}
use Rattle.std.proofs.lemmas.List.{length-map}
use Rattle.ic_machine.specs.Moving.{Ends}
use Rattle.ic_machine.specs.inner.Borders.{end_of}
use Rattle.ic_machine.proofs.borders.Borders.len.Goals as goal

pub returns : goal.returns
returns c = c.len.ensures.len ∙ (sym (length-map c.self.inside.by_cut.entries end_of) ∙ ap (λ (x : Ends). length x.ends) c.self.view_is)
