use Rattle.std.specs.Prelude.{◌≡◌, ℕ, List}
use Rattle.std.specs.List.{position_from}
use Rattle.std.specs.declared.cmp.Ordering.{Ordering}
use Rattle.std.specs.Ordering.{nat_cmp, ordering_then}
use Rattle.std.specs.BTreeMap.{BTreeMap, get}
use Rattle.ic_rules.specs.declared.rule_set.SymbolPair.{SymbolPair}
use Rattle.ic_rules.specs.Rule.{Rule, stands_for}

-- the order of pairs of symbols
abbrev pub pair_cmp : SymbolPair → SymbolPair → Ordering
pair_cmp p q = ordering_then (nat_cmp p.first q.first) (nat_cmp p.second q.second)

-- the map has the place of the rule of each pair of symbols, as they stand
pub record ArePlaces (places : BTreeMap SymbolPair ℕ) (rs : List Rule) : Type 0 where
  pub each : (p : SymbolPair)
      → get pair_cmp places p ≡ position_from (stands_for p.first p.second) 0 rs
