-- Equations that fire one after another, and the rules by which they fire.
use Rattle.std.specs.Prelude.{◌≡◌, ℕ, List, [], ◌∷◌}
use Rattle.std.specs.List.{flat_map}
use Rattle.std.specs.Option.{option_map, option_to_list}
use Rattle.ic_term.specs.Tree.{Pair}
use Rattle.ic_term.specs.Configuration.{Configuration}
use Rattle.ic_rules.specs.Rule.{Rule}
use Rattle.ic_round.specs.Firing.{active_pair}
use Rattle.ic_reaching.specs.FreshNames.{Fires}

-- Each of these equations fires, in this order, with any fresh names, and no other does.
abbrev pub FireInTurn : List Rule → List Pair → Configuration → Configuration → Type 0
FireInTurn rs [] c d = c ≡ d
FireInTurn rs (p ∷ ps) c e =
    (d : Configuration) × (rule : ℕ) × (step : Fires rs c d rule) × (step.equation ≡ p)
    × FireInTurn rs ps d e

-- the rule of an equation that is active, and of another one none
abbrev pub rule_of : List Rule → Pair → List ℕ
rule_of rs p = option_to_list (option_map (λ a. a.rule) (active_pair rs p))

-- the rules of those equations that are active, in order
abbrev pub rules_of : List Rule → List Pair → List ℕ
rules_of rs es = flat_map (rule_of rs) es
