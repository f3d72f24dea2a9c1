-- Lemmas: what agents amount to after rounds.
use Rattle.std.proofs.Common.{◌≡◌, ℕ, ◌+◌, List, [], ◌∷◌, length, map, sum_by, refl, ap, arith}
use Rattle.std.proofs.lemmas.List.Sums.{sum_by-cons}
use Rattle.std.proofs.lemmas.List.Sorted.{sum_by-IsPermutation}
use Rattle.std.specs.Prelude.{IsTrue}
use Rattle.ic_term.specs.Configuration.{Configuration}
use Rattle.ic_term.specs.Symbol.{is_over}
use Rattle.ic_rules.specs.RuleSet.{Rules, IsRuleSet}
use Rattle.ic_round.specs.Naming.{HasNames}
use Rattle.ic_round.specs.Rounds.{iterate, round}
use Rattle.ic_generations.specs.Figures.{amount, amount_made, amount_spent}
use Rattle.ic_generations.specs.Firings.{rules_of}
use Rattle.ic_meaning.specs.Generations.{FireAsRounds}
use Rattle.ic_meaning.specs.Plans.{rule_number}
use Rattle.ic_in_place.specs.Amounts.{all_made, all_spent}
use Rattle.ic_in_place.specs.lemmas.RoundsOn.{round_first}

-- what the laws say that this one builds on
pub record AmountLaws : Type 0 where
  pub fires : (f : ℕ → ℕ) (rs : Rules) (c : Configuration) → IsRuleSet rs → IsTrue (is_over rs.symbols c) → HasNames c
      → amount f (round rs.rules c) + sum_by (amount_spent f rs.rules) (rules_of rs.rules c.equations)
      ≡ amount f c + sum_by (amount_made f rs.rules) (rules_of rs.rules c.equations)
  pub over : (rs : Rules) (c : Configuration) → IsRuleSet rs → IsTrue (is_over rs.symbols c) → IsTrue (is_over rs.symbols (round rs.rules c))
  pub names : (rs : Rules) (c : Configuration) → IsRuleSet rs → IsTrue (is_over rs.symbols c) → HasNames c → HasNames (round rs.rules c)

pub amounts_after : AmountLaws → (f : ℕ → ℕ) (rs : Rules) (numbers : List ℕ) (made : List (List ℕ)) (c : Configuration) → IsRuleSet rs → IsTrue (is_over rs.symbols c) → HasNames c
    → FireAsRounds rs.rules numbers made c
    → amount f (iterate rs.rules (length made) c) + all_spent f rs.rules numbers made ≡ amount f c + all_made f rs.rules numbers made
amounts_after laws f rs numbers [] c set over named fire = refl
amounts_after laws f rs numbers (fired ∷ more) c set over named fire =
    let here = laws.fires f rs c set over named in
    let rest = amounts_after laws f rs numbers more (round rs.rules c) set (laws.over rs c set over) (laws.names rs c set over named) fire.1 in
    let rules : List ℕ = map (rule_number numbers) fired in
    let spent = sum_by-IsPermutation (amount_spent f rs.rules) rules (rules_of rs.rules c.equations) fire.0 in
    let made = sum_by-IsPermutation (amount_made f rs.rules) rules (rules_of rs.rules c.equations) fire.0 in
    let spent_all = sum_by-cons (λ (is : List ℕ). sum_by (amount_spent f rs.rules) (map (rule_number numbers) is)) fired more in
    let made_all = sum_by-cons (λ (is : List ℕ). sum_by (amount_made f rs.rules) (map (rule_number numbers) is)) fired more in
    let same = ap (amount f) (round_first rs.rules (length more) c) in
    omega (arith, here, rest, spent, made, spent_all, made_all, same)
