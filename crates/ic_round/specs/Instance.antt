-- A copy of a rule with fresh names.
use Rattle.std.specs.Prelude.{ℕ, ◌+◌, map}
use Rattle.ic_rules.specs.Renaming.{renamed}
use Rattle.ic_rules.specs.Rule.{Rule}

-- a rule with each name k turned into base + k (the copy: Lafont 1990; its numbers: this project's
-- choice)
abbrev pub inst : Rule → ℕ → Rule
inst r base = record r {
  left_args = map (renamed (λ k. base + k)) r.left_args;
  right_args = map (renamed (λ k. base + k)) r.right_args;
}
