use Rattle.std.proofs.Common.{Contains, sym, ap, subst, ◌∙◌}
use Rattle.std.specs.Option.{option_copied}
use Rattle.ic_machine.specs.Moving.{Ends}
use Rattle.ic_machine.proofs.Ends.{end_found}
use Rattle.ic_machine.proofs.borders.Borders.untold.Goals as goal

pub returns-else-border : goal.returns-else-border
returns-else-border c =
    subst (λ (x : Ends). Contains x.ends (record { cut = c.args.cut; name = c.in-Some.border.now.name })) c.self.view_is
    (end_found c.args.cut c.in-Some.border.now c.self.inside.by_cut.entries
    (sym c.get.ensures.value ∙ ap option_copied c.in-Some.is))
