use Rattle.std.proofs.Common.{◌∙◌}
use Rattle.ic_term.specs.Tree.{pair_eq}
use Rattle.ic_term.specs.Term.{pair}
use Rattle.ic_term.proofs.EqualityLemmas.{pointwise-map}
use Rattle.ic_term.proofs.equality.same_equations.Goals as goal

pub returns : goal.returns
returns c = c.eq.ensures ∙ pointwise-map pair_eq pair c.args.left.now c.args.right.now
