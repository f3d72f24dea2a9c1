use Rattle.std.proofs.Common.{map}
use Rattle.ic_term.specs.Term.{tree, pair}
use Rattle.ic_reference.proofs.PlacedWhole.{placed_in_turn}
use Rattle.ic_reference.proofs.substitution.substitute.Goals as goal

-- src/settling.rt:116:1
pub returns-clause-interface : goal.returns-clause-interface
returns-clause-interface c =
    (placed_in_turn c.args.name (tree c.args.term) (map tree c.args.interface.now) _ (map pair c.args.equations.now) _ _ _ c.requires
    c.put_in_terms.ensures c.put_in_equations.ensures).0

-- src/settling.rt:116:1
pub returns-clause-equations : goal.returns-clause-equations
returns-clause-equations c =
    (placed_in_turn c.args.name (tree c.args.term) (map tree c.args.interface.now) _ (map pair c.args.equations.now) _ _ _ c.requires
    c.put_in_terms.ensures c.put_in_equations.ensures).1
