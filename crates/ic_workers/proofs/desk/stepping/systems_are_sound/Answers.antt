use Rattle.std.proofs.Common.{◌≡◌, ap, ◌∙◌, arith, length, subst}
use Rattle.ic_term.specs.Configuration.{Configuration, IsWide}
use Rattle.ic_rules.specs.RuleSet.{Rules, IsRuleSet}
use Rattle.ic_workers.proofs.desk.stepping.systems_are_sound.Goals as goal

pub returns : goal.returns
returns c =
    let rules : c.deref.result.now ≡ c.args.system.now.rules = c.deref.ensures ∙ c.rules.ensures.rules in
    let sound = subst (λ (d : Configuration). IsWide d) c.config.ensures.config c.nodes-nodes.ensures.sound in
    record {
      rules = subst (λ (r : Rules). IsRuleSet r) rules c.symbols.ensures.sound;
      over = c.rules.ensures.sound;
      names = record { below = sound.below; twice = sound.twice };
      next = sound.next;
      nodes = sound.nodes;
      few = omega (arith, c.len-symbols.ensures.sound.few, ap length (c.symbols.ensures.symbols ∙ ap (λ (r : Rules). r.symbols) rules));
    }
