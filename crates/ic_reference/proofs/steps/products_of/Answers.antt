use Rattle.std.proofs.Common.{sym, ap, ◌∙◌}
use Rattle.ic_term.specs.Term.{pair}
use Rattle.ic_round.specs.Works.{PlainFired}
use Rattle.ic_reference.proofs.FiringAt.{fired_pair-active}
use Rattle.ic_reference.proofs.steps.products_of.Goals as goal

pub fire-requires : goal.fire-requires
fire-requires c = c.requires _ c.in-Active.ensures

pub returns-in_ok-fire-in-Active : goal.returns-in_ok-fire-in-Active
returns-in_ok-fire-in-Active c =
    ap (λ (f : PlainFired). f.products) c.in_ok-fire-in-Active.ensures ∙ sym (fired_pair-active c.args.rules.now.rules c.args.base (pair c.args.equation) _ c.in-Active.ensures)
