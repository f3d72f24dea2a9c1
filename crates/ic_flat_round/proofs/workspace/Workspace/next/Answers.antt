use Rattle.std.proofs.Common.{◌∙◌, ap, sym, subst}
use Rattle.ic_term.specs.Symbol.{is_over}
use Rattle.ic_term.specs.Configuration.{Configuration}
use Rattle.ic_settle.specs.Settling.{settled}
use Rattle.ic_round.specs.Firing.{fired}
use Rattle.ic_round.specs.Steps.{Steps}
use Rattle.ic_round.specs.lemmas.SettledLemmas.{settled_over}
use Rattle.ic_round.specs.lemmas.StepsLemmas.{round_reached}
use Rattle.ic_flat_round.proofs.Interacting.{fired_where_fit}
use Rattle.ic_flat_round.proofs.workspace.Workspace.next.Goals as goal

pub returns-clause-reached : goal.returns-clause-reached
returns-clause-reached c =
    let rs = c.args.rules.now.rules in
    let flat = c.args.flat.now in
    let made = fired_where_fit rs flat c.in_ok-fired.fired (fired rs flat) c.in_ok-fired.ensures.fired in
    subst (λ (d : Configuration). Steps rs flat d) (sym (c.in_ok-after.ensures ∙ ap settled made)) (round_reached rs flat)

pub returns-clause-over : goal.returns-clause-over
returns-clause-over c =
    let ss = c.args.rules.now.symbols in
    ap (is_over ss) c.in_ok-after.ensures ∙ settled_over ss c.in_ok-fired.fired c.in_ok-fired.ensures.over
