use Rattle.std.proofs.Common.{subst}
use Rattle.std.specs.List.{AllByRecursion}
use Rattle.ic_machine.specs.Held.{Held, IsHeld}
use Rattle.ic_machine.proofs.Standing.{tables_held}
use Rattle.ic_machine.proofs.places.Places.symbols.Goals as goal

pub returns-clause-held : goal.returns-clause-held
returns-clause-held c =
    subst (λ (h : Held). AllByRecursion (IsHeld h.arities) h.pieces) c.self.view_is
    (tables_held c.self.inside.names.entries c.self.inside.heaps.items c.self.invariant.blocks)
