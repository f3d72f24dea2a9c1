use Rattle.std.proofs.Common.{◌≡◌, Contains, map, sym, ap, subst, ◌∙◌}
use Rattle.std.specs.Option.{option_copied}
use Rattle.ic_machine.specs.Moving.{CutEnd, Ends, times}
use Rattle.ic_machine.proofs.Ends.{cut_none, end_found}
use Rattle.ic_machine.proofs.borders.Borders.name_of.Goals as goal

pub returns-in-Some-clause-found : goal.returns-in-Some-clause-found
returns-in-Some-clause-found c =
    subst (λ (x : Ends). Contains x.ends (record { cut = c.args.cut; name = c.in-Some.border.now.name })) c.self.view_is
    (end_found c.args.cut c.in-Some.border.now c.self.inside.by_cut.entries
    (sym c.get.ensures.value ∙ ap option_copied c.in-Some.is))

pub returns-in-None-clause-none : goal.returns-in-None-clause-none
returns-in-None-clause-none c =
    subst (λ (x : Ends). times c.args.cut (map (λ (e : CutEnd). e.cut) x.ends) ≡ 0) c.self.view_is
    (cut_none c.args.cut c.self.inside.by_cut.entries (sym c.get.ensures.value ∙ ap option_copied c.in-None.is))
