use Rattle.std.proofs.Common.{◌≡◌, ◌&&◌, true, false, ap, sym, ◌∙◌}
use Rattle.ic_round.specs.Quiet.{is_inert, is_settled}
use Rattle.ic_round.specs.lemmas.NoSteps.{told_by_test}
use Rattle.ic_flat_rules.proofs.quietness.quiet.Goals as goal

pub returns-then-is_inert-clause-no_step : goal.returns-then-is_inert-clause-no_step
returns-then-is_inert-clause-no_step c =
    let rs = c.args.rules.now.rules in
    let flat = c.args.flat.now in
    let inert : is_inert rs flat ≡ true = sym c.is_inert.ensures ∙ c.if-is_inert.true in
    told_by_test rs flat c.is_settled.result (c.is_settled.ensures ∙ sym (ap (λ b. b && is_settled flat) inert))

pub returns-else-is_inert-clause-no_step : goal.returns-else-is_inert-clause-no_step
returns-else-is_inert-clause-no_step c =
    let rs = c.args.rules.now.rules in
    let flat = c.args.flat.now in
    let inert : is_inert rs flat ≡ false = sym c.is_inert.ensures ∙ c.if-is_inert.false in
    told_by_test rs flat c.is_inert.result (c.if-is_inert.false ∙ sym (ap (λ b. b && is_settled flat) inert))
