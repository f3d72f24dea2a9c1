use Rattle.std.proofs.Common.{◌+◌, ◌<◌, length, map, drop, ap, ◌∙◌, sym, arith}
use Rattle.std.specs.List.{flat_map}
use Rattle.ic_rules.specs.Rule.{rule_agents}
use Rattle.ic_rules.specs.RuleSet.{unfit_among}
use Rattle.ic_rules.specs.Written.{written}
use Rattle.ic_rules.specs.lemmas.FitLaws.{or_else}
use Rattle.ic_rules.proofs.FitLemmas.{unfit_among-rules}
use Rattle.ic_rules.proofs.fit.first_unfit.Goals as goal

pub returns-in-Some : goal.returns-in-Some
returns-in-Some c =
    let ss = c.args.symbols.now in
    let rs = c.args.rules.now in
    let i = c.loop-left.left-index in
    let within : i < length rs = omega arith in
    let rest = unfit_among ss (flat_map rule_agents (map written (drop (i + 1) rs))) in
    let found = c.in-Some.ensures ∙ ap (λ p. unfit_among ss (rule_agents (written p))) c.loop-left-item.is in
    ap (λ o. or_else o rest) found ∙ sym (unfit_among-rules ss rs i _ within) ∙ c.loop-left.invariant

pub loop-left-preserved : goal.loop-left-preserved
loop-left-preserved c =
    let ss = c.args.symbols.now in
    let rs = c.args.rules.now in
    let i = c.loop-left.left-index in
    let within : i < length rs = omega arith in
    let rest = unfit_among ss (flat_map rule_agents (map written (drop (i + 1) rs))) in
    let none = sym c.in_default.is ∙ c.unfit_in_rule.ensures ∙ ap (λ p. unfit_among ss (rule_agents (written p))) c.loop-left-item.is in
    ap (λ o. or_else o rest) none ∙ sym (unfit_among-rules ss rs i _ within) ∙ c.loop-left.invariant
