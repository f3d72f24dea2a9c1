use Rattle.std.proofs.Common.{[], map, arith}
use Rattle.ic_term.specs.Term.{tree}
use Rattle.ic_round.specs.lemmas.SizeSoFar.{SizeSoFar, size-start, size-next, size-here}
use Rattle.ic_reference.proofs.SizeLists.{size-at, size-end}
use Rattle.ic_reference.proofs.growth.fired_size.Goals as goal
use Rattle.ic_reference.proofs.growth.fired_size.Goals.{After-loop-equation}

pub loop-equation-init : goal.loop-equation-init
loop-equation-init c =
    size-start c.args.rules.now c.args.config.now (map tree c.interface.result.now) _ _ _ c.interface.ensures.terms c.equations-equation-items.ensures.equations
    c.interface.ensures.sound c.requires c.nodes_of_terms-nodes.ensures c.next-names.ensures.next

pub fired_size_of-size-requires : goal.fired_size_of-size-requires
fired_size_of-size-requires c =
    let ready = size-here _ _ _ _ _ _ (size-at _ _ _ _ c.equations-equation-items.result.now c.loop-equation.equation-index c.equation-item.result c.loop-equation-test.true c.equation-item.is c.loop-equation.invariant) in
    record { over = ready.0; small = ready.1 }

pub loop-equation-preserved : goal.loop-equation-preserved
loop-equation-preserved c =
    let size = c.fired_size_of-size.ensures in
    let here = size-at _ _ _ _ c.equations-equation-items.result.now c.loop-equation.equation-index c.equation-item.result c.loop-equation-test.true c.equation-item.is c.loop-equation.invariant in
    rw (c.saturating_add-nodes.ensures, c.saturating_add-names.ensures) (size-next _ _ _ _ _ _ _ _ here size.nodes size.names)

ended : (c : After-loop-equation) → SizeSoFar c.args.rules.now c.args.config.now c.loop-equation.nodes c.loop-equation.names []
ended c = size-end _ _ _ _ c.equations-equation-items.result.now c.loop-equation.equation-index c.loop-equation-test.false c.loop-equation.invariant

pub returns-clause-nodes : goal.returns-clause-nodes
returns-clause-nodes c = let done = ended c in let a = done.nodes_so_far in let b = done.count_small in omega arith

pub returns-clause-names : goal.returns-clause-names
returns-clause-names c = let done = ended c in let a = done.names_so_far in let b = done.names_small in omega arith
