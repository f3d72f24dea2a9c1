use Rattle.std.proofs.Common.{ℕ, ◌≤◌, subst, map}
use Rattle.ic_machine.specs.Moving.{Ends, times}
use Rattle.ic_machine.proofs.BordersOnce.{borders_cuts, borders_names}
use Rattle.ic_machine.proofs.borders.Borders.are_once.Goals as goal

pub returns-clause-cuts : goal.returns-clause-cuts
returns-clause-cuts c =
    subst (λ (b : Ends). (x : ℕ) → times x (map (λ e. e.cut) b.ends) ≤ 1) c.self.view_is (borders_cuts c.self.inside c.self.invariant)

pub returns-clause-names : goal.returns-clause-names
returns-clause-names c =
    subst (λ (b : Ends). (x : ℕ) → times x (map (λ e. e.name) b.ends) ≤ 1) c.self.view_is (borders_names c.self.inside c.self.invariant)
