use Rattle.std.proofs.Common.{◌≡◌, sym, ap, ◌∙◌}
use Rattle.ic_term.specs.Term.{tree, cell_tree}
use Rattle.ic_term.specs.lemmas.TermLaws.{tree-Agent}
use Rattle.ic_text.specs.inner.Built.{rule_in}
use Rattle.ic_text.proofs.BuildLemmas.{written-agents}
use Rattle.ic_text.proofs.build.rule_of.Goals as goal

pub returns : goal.returns
returns c =
    let left : cell_tree c.into_inner.result ≡ tree c.args.left = ap cell_tree c.into_inner.ensures ∙ sym (ap tree c.in-Agent.is ∙ tree-Agent c.in-Agent.left) in
    let right : cell_tree c.into_inner-2.result ≡ tree c.args.right = ap cell_tree c.into_inner-2.ensures ∙ sym (ap tree c.in-Agent-right.is ∙ tree-Agent c.in-Agent-right.right) in
    written-agents c.into_inner.result c.into_inner-2.result ∙ (λ i. rule_in (left i) (right i))
