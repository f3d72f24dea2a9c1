use Rattle.std.proofs.Common.{◌≡◌, ◌+◌, ◌<◌, true, false, Some, length, map, drop, slice_get, cond, ap, ◌∙◌, sym, arith}
use Rattle.ic_term.specs.Tree.{trees_of}
use Rattle.ic_term.specs.Term.{tree}
use Rattle.ic_term.specs.Symbol.{has_arity}
use Rattle.ic_rules.specs.Rule.{agents, agents_of}
use Rattle.ic_rules.specs.RuleSet.{unfit_among}
use Rattle.ic_rules.specs.lemmas.FitLaws.{or_else}
use Rattle.ic_rules.proofs.FitLemmas.{agents-cell, unfit_among-arguments}
use Rattle.ic_rules.proofs.fit.+unfit.Goals as goal

pub unfit_in_cell-returns-then-not-has_arity : goal.unfit_in_cell-returns-then-not-has_arity
unfit_in_cell-returns-then-not-has_arity t c =
    let ss = c.args.symbols.now in
    let args = c.args.cell.now.args in
    let count : c.len.result ≡ length args.items = c.len.ensures ∙ args.ok.0 in
    let unfit : has_arity (length args.items) (slice_get ss c.args.cell.now.sym) ≡ false =
    ap (λ n. has_arity n (slice_get ss c.args.cell.now.sym)) (sym count) ∙ sym c.has_arity.ensures ∙ c.if-not-has_arity.true in
    sym (ap (unfit_among ss) (agents-cell c.args.cell.now)
    ∙ ap (λ b. cond b (unfit_among ss (agents_of (trees_of (map tree args.items)))) (Some c.args.cell.now.sym)) unfit)

pub unfit_in_cell-loop-term-init : goal.unfit_in_cell-loop-term-init
unfit_in_cell-loop-term-init t c =
    let ss = c.args.symbols.now in
    let args = c.args.cell.now.args in
    let count : c.len.result ≡ length args.items = c.len.ensures ∙ args.ok.0 in
    let fit : has_arity (length args.items) (slice_get ss c.args.cell.now.sym) ≡ true =
    ap (λ n. has_arity n (slice_get ss c.args.cell.now.sym)) (sym count) ∙ sym c.has_arity.ensures ∙ c.if-not-has_arity.false in
    ap (λ ts. unfit_among ss (agents_of (trees_of (map tree ts)))) c.deref-term-items.ensures.value
    ∙ sym (ap (unfit_among ss) (agents-cell c.args.cell.now)
    ∙ ap (λ b. cond b (unfit_among ss (agents_of (trees_of (map tree args.items)))) (Some c.args.cell.now.sym)) fit)

pub unfit_in_cell-returns-in-Some : goal.unfit_in_cell-returns-in-Some
unfit_in_cell-returns-in-Some t c =
    let ss = c.args.symbols.now in
    let items = c.deref-term-items.result.now in
    let i = c.loop-term.term-index in
    let within : i < length items = omega arith in
    let rest = unfit_among ss (agents_of (trees_of (map tree (drop (i + 1) items)))) in
    let found = c.in-Some.ensures ∙ ap (λ u. unfit_among ss (agents (tree u))) c.term-item.is in
    ap (λ o. or_else o rest) found ∙ sym (unfit_among-arguments ss items i _ within) ∙ c.loop-term.invariant

pub unfit_in_cell-loop-term-preserved : goal.unfit_in_cell-loop-term-preserved
unfit_in_cell-loop-term-preserved t c =
    let ss = c.args.symbols.now in
    let items = c.deref-term-items.result.now in
    let i = c.loop-term.term-index in
    let within : i < length items = omega arith in
    let rest = unfit_among ss (agents_of (trees_of (map tree (drop (i + 1) items)))) in
    let none = sym c.in_default.is ∙ c.unfit_in_term.ensures ∙ ap (λ u. unfit_among ss (agents (tree u))) c.term-item.is in
    ap (λ o. or_else o rest) none ∙ sym (unfit_among-arguments ss items i _ within) ∙ c.loop-term.invariant
