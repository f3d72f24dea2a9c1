use Rattle.std.proofs.Common.{◌≡◌, ◌∙◌, subst}
use Rattle.ic_term.specs.Configuration.{Configuration, IsWide}
use Rattle.ic_rules.specs.RuleSet.{Rules, IsRuleSet}
use Rattle.ic_keeping.proofs.WayLemmas.{names_of}
use Rattle.ic_keeping.proofs.systems.systems_are_sound.Goals as goal

pub returns-clause-sound : goal.returns-clause-sound
returns-clause-sound c =
    let rules : c.deref.result.now ≡ c.args.system.now.rules = c.deref.ensures ∙ c.rules.ensures.rules in
    let sound = subst (λ (d : Configuration). IsWide d) c.config.ensures.config c.nodes-nodes.ensures.sound in
    record {
      rules = subst (λ (r : Rules). IsRuleSet r) rules c.symbols.ensures.sound;
      over = c.rules.ensures.sound;
      names = names_of c.args.system.now.config sound;
    }
