-- What the laws below say, as far as it is built on here.
use Rattle.std.proofs.Common.{◌≡◌, ℕ, true}
use Rattle.ic_term.specs.Configuration.{Configuration}
use Rattle.ic_term.specs.Symbol.{is_over}
use Rattle.ic_rules.specs.RuleSet.{Rules, IsRuleSet}
use Rattle.ic_round.specs.Firing.{fired}
use Rattle.ic_round.specs.Naming.{HasNames}
use Rattle.ic_confluence.specs.Sameness.{Same}
use Rattle.ic_reaching.specs.FreshNames.{Fires}
use Rattle.ic_reaching.specs.OneNet.{SameButNext}

-- a configuration over the symbols, with names
pub record Sound (rs : Rules) (c : Configuration) : Type 0 where
  pub over : is_over rs.symbols c ≡ true
  pub named : HasNames c

-- of nets that are the same, but for where fresh names begin
pub record NetLaws : Type 0 where
  pub names : (c d : Configuration) → Same c d → HasNames c → HasNames d
  pub same : (c d : Configuration) → Same c d → SameButNext c d
  pub other_way : (c d : Configuration) → SameButNext c d → SameButNext d c
  pub through : (c d e : Configuration) → SameButNext c d → SameButNext d e → SameButNext c e

-- and of firing
pub record FiringLaws : Type 0 where
  pub nets : NetLaws
  pub fired : (rs : Rules) (c d : Configuration) → IsRuleSet rs → is_over rs.symbols c ≡ true → HasNames c → Same c d → Same (fired rs.rules c) (fired rs.rules d)
  pub sound : (rs : Rules) (c d : Configuration) (rule : ℕ) → IsRuleSet rs → Sound rs c → Fires rs.rules c d rule → Sound rs d
