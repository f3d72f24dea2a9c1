use Rattle.std.specs.Prelude.{◌≡◌, ℕ, map}
use Rattle.std.specs.List.{AllByRecursion}
use Rattle.ic_rules.specs.Renaming.{renamed}
use Rattle.ic_rules.specs.Rule.{Rule, rule_names}

-- Exchanging the sides of a rule and renaming its names one-to-one gives the rule back.
pub record IsOwnMirror (r : Rule) : Type 0 where
  pub rename : ℕ → ℕ
  pub one_to_one : AllByRecursion
      (λ m. AllByRecursion (λ n. rename m ≡ rename n → m ≡ n) (rule_names r)) (rule_names r)
  pub left : map (renamed rename) r.right_args ≡ r.left_args
  pub right : map (renamed rename) r.left_args ≡ r.right_args
