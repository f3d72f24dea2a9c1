use Rattle.std.proofs.Common.{◌≡◌, true}
use Rattle.std.specs.List.{AllByRecursion, list_all}
use Rattle.ic_term.specs.Symbol.{is_over, is_tree_over, is_pair_over}
use Rattle.ic_term.specs.Configuration.{Configuration}
use Rattle.ic_rules.specs.RuleSet.{Rules, IsRuleSet}
use Rattle.std.proofs.lemmas.Bool.{and_parts}
use Rattle.ic_round.specs.lemmas.SoundRules.{HasSoundRule, sound_rules}
use Rattle.ic_round.specs.lemmas.FiredNames.{fired_below, fired_twice}
use Rattle.ic_round.proofs.laws.firing_keeps_names.Goals as goal

sound : (rs : Rules) (c : Configuration) → IsRuleSet rs → is_over rs.symbols c ≡ true → AllByRecursion (HasSoundRule rs.rules) c.equations
sound rs c set over =
    let both = and_parts (list_all (is_tree_over rs.symbols) c.interface) (list_all (is_pair_over rs.symbols) c.equations) over in
    sound_rules rs.symbols rs.rules c.equations set.fitting set.each both.1

pub returns-clause-below : goal.returns-clause-below
returns-clause-below c rs config set over is = fired_below rs.rules config (sound rs config set over) is

pub returns-clause-twice : goal.returns-clause-twice
returns-clause-twice c rs config set over is = fired_twice rs.rules config (sound rs config set over) is
