-- What the laws of the order of steps say, as far as it is built on here.
use Rattle.std.proofs.Common.{◌≡◌, ◌⊎◌, ℕ, ◌≤◌, List, true, length}
use Rattle.std.specs.Prelude.{IsPermutation}
use Rattle.ic_term.specs.Configuration.{Configuration}
use Rattle.ic_term.specs.Symbol.{is_over}
use Rattle.ic_rules.specs.Rule.{Rule}
use Rattle.ic_rules.specs.RuleSet.{Rules, IsRuleSet}
use Rattle.ic_settle.specs.Settling.{settled}
use Rattle.ic_settle.specs.NameSteps.{NameStep, NameSteps}
use Rattle.ic_round.specs.Naming.{HasNames}
use Rattle.ic_round.specs.Rounds.{iterate}
use Rattle.ic_round.specs.Quiet.{IsQuiet}
use Rattle.ic_round.specs.Steps.{Steps}
use Rattle.ic_confluence.specs.Kinds.{Kind, StepOf, Chain}
use Rattle.ic_confluence.specs.Sameness.{Same}

-- of nets and their name steps
pub record NetLaws : Type 0 where
  pub itself : (c : Configuration) → Same c c
  pub other_way : (c d : Configuration) → Same c d → Same d c
  pub names : (c d : Configuration) → Same c d → HasNames c → HasNames d
  pub steps : (c d after : Configuration) → HasNames c → Same c d → NameStep c after → (end : Configuration) × NameStep d end × Same after end

-- and that each chain of name steps goes on to one net
pub record SettlingLaws : Type 0 where
  pub nets : NetLaws
  pub goes_on : (c d : Configuration) → HasNames c → NameSteps c d → (end : Configuration) × NameSteps d end × Same (settled c) end

-- of all steps
pub record StepLaws : Type 0 where
  pub nets : NetLaws
  pub steps : (rs : Rules) (kind : Kind) (c d after : Configuration) → IsRuleSet rs → is_over rs.symbols c ≡ true → HasNames c → Same c d → StepOf rs.rules kind c after
      → (end : Configuration) × StepOf rs.rules kind d end × Same after end
  pub quiet : (rs : Rules) (c d : Configuration) → IsRuleSet rs → is_over rs.symbols c ≡ true → HasNames c → Same c d → IsQuiet rs.rules c → IsQuiet rs.rules d
  pub meet : (rs : Rules) (k l : Kind) (c d e : Configuration) → IsRuleSet rs → is_over rs.symbols c ≡ true → HasNames c → StepOf rs.rules k c d → StepOf rs.rules l c e
      → ((k ≡ l) × Same d e) ⊎ ((f : Configuration) × (g : Configuration) × StepOf rs.rules l d f × StepOf rs.rules k e g × Same f g)

-- of ends
pub record OrderLaws : Type 0 where
  pub steps : (rs : List Rule) (kinds : List Kind) (c d : Configuration) → Chain rs kinds c d → Steps rs c d
  pub ends : (rs : Rules) (ks ls : List Kind) (c d e : Configuration) → IsRuleSet rs → is_over rs.symbols c ≡ true → HasNames c → Chain rs.rules ks c d → IsQuiet rs.rules d
      → Chain rs.rules ls c e → IsQuiet rs.rules e → Same d e × IsPermutation ks ls
  pub rounds : (rs : Rules) (n : ℕ) (c d : Configuration) → IsRuleSet rs → is_over rs.symbols c ≡ true → HasNames c → Steps rs.rules c d → IsQuiet rs.rules d
      → IsQuiet rs.rules (iterate rs.rules n c) → Same d (iterate rs.rules n c)
  pub some_rounds : (rs : Rules) (ks : List Kind) (c d : Configuration) → IsRuleSet rs → is_over rs.symbols c ≡ true → HasNames c → Chain rs.rules ks c d → IsQuiet rs.rules d
      → (n : ℕ) × (n ≤ length ks) × IsQuiet rs.rules (iterate rs.rules n c)
