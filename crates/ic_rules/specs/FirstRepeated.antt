use Rattle.std.specs.Prelude.{◌≡◌, ℕ, List, ◌∷◌, ◌++◌, true, None, length}
use Rattle.std.specs.List.{list_any}
use Rattle.ic_rules.specs.Rule.{Rule, same_pair}
use Rattle.ic_rules.specs.RuleSet.{repeated_after}

-- The rule at this place, counted from the first of the rules seen before, has an unordered pair of symbols that
-- an earlier one has, and no rule between has the pair of an earlier one.
pub record IsFirstRepeated (seen rs : List Rule) (i : ℕ) : Type 0 where
  pub before : List Rule
  pub rule : Rule
  pub after : List Rule
  pub parts : rs ≡ before ++ rule ∷ after
  pub counted : length (seen ++ before) ≡ i
  pub again : list_any (same_pair rule) (seen ++ before) ≡ true
  pub single : repeated_after seen before ≡ None
