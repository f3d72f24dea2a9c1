use Rattle.std.proofs.Common.{ap, ◌∙◌, sym}
use Rattle.ic_term.specs.Term.{cell_tree}
use Rattle.ic_rules.specs.Rule.{agents}
use Rattle.ic_rules.specs.RuleSet.{unfit_among}
use Rattle.ic_rules.specs.lemmas.FitLaws.{or_else, unfit_among-append}
use Rattle.ic_rules.proofs.FitLemmas.{agents-written}
use Rattle.ic_rules.proofs.fit.unfit_in_rule.Goals as goal

pub returns-in-Some : goal.returns-in-Some
returns-in-Some c =
    let ss = c.args.symbols.now in
    let left = c.args.left.now in
    let right = c.args.right.now in
    ap (λ o. or_else o (unfit_among ss (agents (cell_tree right)))) c.in-Some.ensures
    ∙ sym (ap (unfit_among ss) (agents-written (left, right)) ∙ unfit_among-append ss (agents (cell_tree left)) (agents (cell_tree right)))

pub returns-in-None : goal.returns-in-None
returns-in-None c =
    let ss = c.args.symbols.now in
    let left = c.args.left.now in
    let right = c.args.right.now in
    c.unfit_in_cell-in-None.ensures
    ∙ ap (λ o. or_else o (unfit_among ss (agents (cell_tree right)))) c.in-None.ensures
    ∙ sym (ap (unfit_among ss) (agents-written (left, right)) ∙ unfit_among-append ss (agents (cell_tree left)) (agents (cell_tree right)))
