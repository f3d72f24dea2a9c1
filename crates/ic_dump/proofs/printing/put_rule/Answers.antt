use Rattle.std.proofs.Common.{map}
use Rattle.ic_term.specs.Term.{tree, cell_tree}
use Rattle.ic_dump.proofs.RuleLemmas.{agent_over}
use Rattle.ic_dump.proofs.printing.put_rule.Goals as goal

pub put_cell-requires : goal.put_cell-requires
put_cell-requires c =
    agent_over c.args.symbols.now (cell_tree c.in_ok-left.left) c.left.result c.args.rule.now.left (map tree c.left_args.result.now) c.args.rule.now.left_args c.in_ok-left.ensures
    c.left.ensures.left c.left_args.ensures.args c.requires.left c.requires.left_args

pub put_cell-requires-2 : goal.put_cell-requires-2
put_cell-requires-2 c =
    agent_over c.args.symbols.now (cell_tree c.in_ok-right.right) c.right.result c.args.rule.now.right (map tree c.right_args.result.now) c.args.rule.now.right_args c.in_ok-right.ensures
    c.right.ensures.right c.right_args.ensures.args c.requires.right c.requires.right_args
