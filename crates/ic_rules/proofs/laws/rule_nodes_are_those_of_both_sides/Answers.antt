use Rattle.std.proofs.Common.{◌≡◌, ◌+◌, arith}
use Rattle.ic_term.specs.Tree.{agent, trees_of, nodes}
use Rattle.ic_term.specs.lemmas.TreeLaws.{nodes_of-trees_of}
use Rattle.ic_rules.specs.Rule.{Rule, rule_nodes}
use Rattle.ic_rules.proofs.laws.rule_nodes_are_those_of_both_sides.Goals as goal

agents : (r : Rule) → nodes (agent r.left (trees_of r.left_args)) + nodes (agent r.right (trees_of r.right_args)) ≡ rule_nodes r + 2
agents r = omega (arith, nodes_of-trees_of r.left_args, nodes_of-trees_of r.right_args)

pub returns-clause-agents : goal.returns-clause-agents
returns-clause-agents c = agents
