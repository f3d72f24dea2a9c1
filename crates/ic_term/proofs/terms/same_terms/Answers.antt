use Rattle.std.proofs.Common.{◌∙◌}
use Rattle.ic_term.specs.Tree.{tree_eq}
use Rattle.ic_term.specs.Term.{tree}
use Rattle.ic_term.proofs.EqualityLemmas.{pointwise-map}
use Rattle.ic_term.proofs.terms.same_terms.Goals as goal

pub returns : goal.returns
returns c = c.eq.ensures ∙ pointwise-map tree_eq tree c.args.left.now c.args.right.now
