-- For private functions. An equation that was turned to suit its rule.
use Rattle.std.specs.Prelude.{◌≡◌, List, None, Some}
use Rattle.ic_term.specs.Tree.{Pair}
use Rattle.ic_term.specs.Term.{cell_tree, pair}
use Rattle.ic_rules.specs.Rule.{Rule}
use Rattle.ic_round.specs.Firing.{active_pair}
use Rattle.ic_reference.specs.declared.separation.Oriented.{Oriented}
use Rattle.ic_reference.specs.declared.separation.Oriented.TheVariants.{Active, Inert}

abbrev pub IsOriented : List Rule → Pair → Oriented → Type 0
IsOriented rs p (Active i left right) =
    active_pair rs p
    ≡ Some (record { rule = i; left = cell_tree left.value; right = cell_tree right.value })
IsOriented rs p (Inert e) = (active_pair rs p ≡ None) × (pair e ≡ p)
