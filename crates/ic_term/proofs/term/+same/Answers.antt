use Rattle.std.proofs.Common.{◌≢◌, length, sym, ◌∙◌}
use Rattle.ic_term.proofs.TreeLemmas.{tree_eq-lengths}
use Rattle.ic_term.proofs.term.+same.Goals as goal

pub same_cell-returns-then-len : goal.same_cell-returns-then-len
same_cell-returns-then-len t c =
    let xs = c.args.left.now.args in
    let ys = c.args.right.now.args in
    let apart : length xs.items ≢ length ys.items =
    λ e. c.if-len.true (c.len.ensures ∙ xs.ok.0 ∙ e ∙ sym ys.ok.0 ∙ sym c.len-2.ensures) in
    sym (tree_eq-lengths c.args.left.now c.args.right.now apart)
