-- Rules as bytes (this project's choice).
use Rattle.std.specs.Prelude.{ℕ, List, ◌∷◌, ◌++◌, length}
use Rattle.std.specs.List.{flat_map}
use Rattle.ic_rules.specs.Rule.{Rule}
use Rattle.ic_codec.specs.Numbers.{two_bytes}
use Rattle.ic_codec.specs.Terms.{tree_bytes}

-- a rule is its symbols, each in one byte, then its left arguments, then its right ones
abbrev pub rule_bytes : Rule → List ℕ
rule_bytes r =
    r.left ∷ r.right ∷ (flat_map tree_bytes r.left_args ++ flat_map tree_bytes r.right_args)

-- rules are how many there are, in two bytes, then each of them in order
abbrev pub rules_bytes : List Rule → List ℕ
rules_bytes rs = two_bytes (length rs) ++ flat_map rule_bytes rs
