use Rattle.std.proofs.Common.{◌≡◌, Contains, map, sym, ap, subst, ◌∙◌}
use Rattle.std.specs.Option.{option_copied}
use Rattle.ic_machine.specs.Moving.{CutEnd, Ends, times}
use Rattle.ic_machine.specs.inner.Borders.{cut_at}
use Rattle.ic_machine.proofs.Ends.{name_absent, name_end}
use Rattle.ic_machine.proofs.borders.Borders.cut_of.Goals as goal

pub returns-in-Some-clause-found : goal.returns-in-Some-clause-found
returns-in-Some-clause-found c =
    subst (λ (x : Ends). Contains x.ends (record { cut = c.in-Some.cut.now; name = c.args.name })) c.self.view_is
    (name_end c.self.inside.by_cut (cut_at c.self.inside.by_name) c.self.invariant.paired c.args.name c.in-Some.cut.now
    (sym c.get.ensures.value ∙ ap option_copied c.in-Some.is))

pub returns-in-None-clause-none : goal.returns-in-None-clause-none
returns-in-None-clause-none c =
    subst (λ (x : Ends). times c.args.name (map (λ (e : CutEnd). e.name) x.ends) ≡ 0) c.self.view_is
    (name_absent c.self.inside.by_cut (cut_at c.self.inside.by_name) c.self.invariant.paired c.args.name c.self.invariant.unique
    (sym c.get.ensures.value ∙ ap option_copied c.in-None.is))
