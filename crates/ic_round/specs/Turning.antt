-- How an active equation is turned to suit its rule.
use Rattle.std.specs.Prelude.{◌≡◌, ◌⊎◌, ℕ, List, true, false}
use Rattle.ic_term.specs.Tree.{agent, Trees}
use Rattle.ic_rules.specs.Rule.{Rule}
use Rattle.ic_rules.specs.RuleSet.{IsRuleFor}
use Rattle.ic_round.specs.Firing.{Active}

-- The equation stays as it stands where its rule stands so, and is turned round only where the rule
-- doesn't.
abbrev pub IsTurnedRight : List Rule → ℕ → ℕ → Trees → Trees → Active → Type 0
IsTurnedRight rs a b ts us found =
    ((found.left ≡ agent a ts) × (found.right ≡ agent b us) × IsRuleFor rs a b found.rule false)
    ⊎ ((found.left ≡ agent b us) × (found.right ≡ agent a ts) × IsRuleFor rs a b found.rule true)
