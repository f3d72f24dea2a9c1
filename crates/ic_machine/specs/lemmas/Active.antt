-- A pair that can fire isn't stuck.
use Rattle.std.proofs.Common.{◌≡◌, Option, None, Some, sym, ◌∙◌}
use Rattle.ic_machine.specs.declared.equation.Equation.{Equation}
use Rattle.ic_machine.specs.Plan.{Planned, Plans}
use Rattle.ic_machine.specs.Net.{IsActive, IsStuck}

none_some : (plan : Planned) → ◌≡◌ {A = Option Planned} None (Some plan) → ⊥
none_some plan e = cc

pub not_stuck : (p : Plans) (e : Equation) → IsActive p e → ¬ IsStuck p e
not_stuck p e a stuck =
    none_some a.plan
    (sym (stuck.no_plan a.left a.right a.left_tag a.right_tag a.left_known a.right_known) ∙ a.is)
