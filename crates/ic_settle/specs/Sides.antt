-- A side of an equation that was found applicable, as a binding.
use Rattle.ic_term.specs.Tree.{Tree, Pair}
use Rattle.ic_settle.specs.Settling.{Binding}
use Rattle.ic_settle.specs.declared.applicability.Side.{Side}
use Rattle.ic_settle.specs.declared.applicability.Side.TheVariants.{Left, Right}
use Rattle.ic_settle.specs.declared.applicability.Applicable.{Applicable}

abbrev pub other_side : Pair → Side → Tree
other_side p Left = p.right
other_side p Right = p.left

abbrev pub bound_by : Pair → Applicable → Binding
bound_by p a = record { name = a.name; term = other_side p a.side }
