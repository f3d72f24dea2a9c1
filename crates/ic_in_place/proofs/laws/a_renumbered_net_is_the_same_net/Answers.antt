use Rattle.std.proofs.Common.{refl}
use Rattle.ic_naming.specs.Naming.{renumbered}
use Rattle.ic_in_place.proofs.Renumbering.{renumbered_net, renumbered_same}
use Rattle.ic_in_place.proofs.laws.a_renumbered_net_is_the_same_net.Goals as goal

pub returns-clause-same : goal.returns-clause-same
returns-clause-same k = λ c low.
    renumbered_same k.names_are_told_apart.ensures.apart k.names_are_told_apart.ensures.free c (renumbered c) low refl refl

pub returns-clause-net : goal.returns-clause-net
returns-clause-net k = λ c d is below low interface equations.
    renumbered_net k.names_are_told_apart.ensures.apart k.names_are_told_apart.ensures.free c d low interface equations is below
