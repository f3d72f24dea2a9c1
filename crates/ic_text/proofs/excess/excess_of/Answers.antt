use Rattle.std.proofs.Common.{◌&&◌, ap, ◌∙◌, arith}
use Rattle.ic_text.specs.inner.Counted.{config_fits}
use Rattle.ic_text.proofs.Fitting.{config-rest-fits, rules-fit, rules_arities}
use Rattle.ic_text.proofs.excess.excess_of.Goals as goal

pub rules_excess-requires : goal.rules_excess-requires
rules_excess-requires c = rules_arities c.args.limits c.requires.0 c.args.nodes.now c.args.rules c.args.agents c.args.terms c.requires.1 (omega arith)

pub returns-in-Some : goal.returns-in-Some
returns-in-Some c = λ s counted.
    ap (λ b. b && config_fits c.args.limits s.config) (c.in-Some.ensures ∙ rules-fit c.args.limits s c.args.nodes.now c.args.rules c.args.agents c.args.terms counted)

pub returns-in-Some-config_excess : goal.returns-in-Some-config_excess
returns-in-Some-config_excess c = λ s counted. λ i.
    (c.in-None.ensures ∙ rules-fit c.args.limits s c.args.nodes.now c.args.rules c.args.agents c.args.terms counted) i
    && (c.in-Some-config_excess.ensures ∙ config-rest-fits c.args.limits s c.args.nodes.now c.args.rules c.args.agents c.args.terms counted) i

pub returns-in-None-config_excess : goal.returns-in-None-config_excess
returns-in-None-config_excess c = λ s counted. λ i.
    (c.in-None.ensures ∙ rules-fit c.args.limits s c.args.nodes.now c.args.rules c.args.agents c.args.terms counted) i
    && (c.in-None-config_excess.ensures ∙ config-rest-fits c.args.limits s c.args.nodes.now c.args.rules c.args.agents c.args.terms counted) i
