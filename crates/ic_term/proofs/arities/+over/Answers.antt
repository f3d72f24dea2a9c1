use Rattle.std.proofs.Common.{◌≡◌, true, false, ◌&&◌, length, map, slice_get, ap, ◌∙◌, sym}
use Rattle.ic_term.specs.Tree.{trees_of}
use Rattle.ic_term.specs.Term.{tree}
use Rattle.ic_term.specs.Symbol.{has_arity, are_trees_over}
use Rattle.ic_term.proofs.TreeLemmas.{is_tree_over-cell}
use Rattle.ic_term.proofs.arities.+over.Goals as goal

pub cell_over-returns-then-not-has_arity : goal.cell_over-returns-then-not-has_arity
cell_over-returns-then-not-has_arity t c =
    let ss = c.args.symbols.now in
    let args = c.args.cell.now.args in
    let count : c.len.result ≡ length args.items = c.len.ensures ∙ args.ok.0 in
    let no : has_arity (length args.items) (slice_get ss c.args.cell.now.sym) ≡ false =
    ap (λ n. has_arity n (slice_get ss c.args.cell.now.sym)) (sym count) ∙ sym c.has_arity.ensures ∙ c.if-not-has_arity.true in
    sym (is_tree_over-cell ss c.args.cell.now ∙ ap (λ b. b && are_trees_over ss (trees_of (map tree args.items))) no)

pub cell_over-loop-term-init : goal.cell_over-loop-term-init
cell_over-loop-term-init t c =
    let ss = c.args.symbols.now in
    let args = c.args.cell.now.args in
    let count : c.len.result ≡ length args.items = c.len.ensures ∙ args.ok.0 in
    let yes : has_arity (length args.items) (slice_get ss c.args.cell.now.sym) ≡ true =
    ap (λ n. has_arity n (slice_get ss c.args.cell.now.sym)) (sym count) ∙ sym c.has_arity.ensures ∙ c.if-not-has_arity.false in
    ap (λ ts. are_trees_over ss (trees_of (map tree ts))) c.deref-term-items.ensures.value
    ∙ sym (is_tree_over-cell ss c.args.cell.now ∙ ap (λ b. b && are_trees_over ss (trees_of (map tree args.items))) yes)
