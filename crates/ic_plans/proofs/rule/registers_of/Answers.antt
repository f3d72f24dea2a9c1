use Rattle.std.proofs.Common.{◌≡◌, ◌+◌, ◌++◌, [], length, map, arith}
use Rattle.std.proofs.lemmas.List.{length-map, length-append}
use Rattle.ic_term.specs.Term.{tree}
use Rattle.ic_meaning.specs.Plans.{arguments_from}
use Rattle.ic_plans.proofs.RegisterLemmas.{arguments-below}
use Rattle.ic_plans.proofs.PlanLemmas.{none_yet}
use Rattle.ic_plans.proofs.rule.registers_of.Goals as goal

pub returns-clause-registers : goal.returns-clause-registers
returns-clause-registers c =
    let left = map tree c.args.left.now in
    let right = map tree c.args.right.now in
    let count = c.args.constants in
    let middle : count + length c.args.left.now ≡ count + length left = omega (arith, length-map c.args.left.now tree) in
    let start = count + length c.args.left.now + length c.args.right.now in
    let none = none_yet start c.in_ok-registers.registers c.in_ok-registers.ensures in
    let first = c.in_ok-read_arguments.ensures count start [] (omega arith) none in
    let second = c.in_ok-read_arguments-2.ensures count start left middle first in
    let below = arguments-below count (left ++ right) start (omega (arith, length-append left right, length-map c.args.left.now tree, length-map c.args.right.now tree)) in
    c.in_ok-fresh.ensures.registers (arguments_from count (left ++ right)) below second
