use Rattle.std.specs.Prelude.{◌≡◌, ℕ, List, ◌∷◌, [], ◌++◌, Bool, true, false, not, None, IsTrue, length, map, slice_get}
use Rattle.std.specs.List.{flat_map, AllByRecursion}
use Rattle.ic_term.specs.Symbol.{Symbol, has_arity}
use Rattle.ic_rules.specs.Renaming.{are_paired}
use Rattle.ic_rules.specs.Rule.{Rule, rule_names, rule_agents, numbered, is_lopsided}
use Rattle.ic_rules.specs.RuleSet.{Rules, are_few, first_repeated, IsRuleOver}
use Rattle.ic_rules.specs.FirstRepeated.{IsFirstRepeated}
use Rattle.ic_rules.specs.declared.rule_set.RuleFault.{RuleFault}
use Rattle.ic_rules.specs.declared.rule_set.RuleFault.TheVariants.{Limit, Arity, NameCount, Twice, Lopsided, Memory}

-- The first rule of a list that a test finds is at this place.
pub record IsFirst (p : Rule → Bool) (rs : List Rule) (i : ℕ) : Type 0 where
  pub before : List Rule
  pub rule : Rule
  pub after : List Rule
  pub parts : rs ≡ before ++ rule ∷ after
  pub counted : length before ≡ i
  pub found : p rule ≡ true
  pub none_before : AllByRecursion (λ r. p r ≡ false) before

-- This symbol is that of the first agent of a list that is unknown or has another arity.
pub record IsFirstUnfit (ss : List Symbol) (agents : List (ℕ × ℕ)) (s : ℕ) : Type 0 where
  pub before : List (ℕ × ℕ)
  pub arity : ℕ
  pub after : List (ℕ × ℕ)
  pub parts : agents ≡ before ++ (s, arity) ∷ after
  pub unfit : has_arity arity (slice_get ss s) ≡ false
  pub fit_before : AllByRecursion (λ a. IsTrue (has_arity a.1 (slice_get ss a.0))) before

-- each name of each rule occurs exactly twice
abbrev pub AreCounted : List Rule → Type 0
AreCounted rs = AllByRecursion (λ r. IsTrue (are_paired (rule_names r))) rs

-- Rules are refused for a fault where it is found, and no fault that is tried before it is.
abbrev pub IsRefusal : List Symbol → List Rule → RuleFault → Type 0
IsRefusal ss rs Limit = are_few rs ≡ false
IsRefusal ss rs (Arity s) = IsTrue (are_few rs) × IsFirstUnfit ss (flat_map rule_agents rs) s
IsRefusal ss rs (NameCount i) =
    IsTrue (are_few rs) × AllByRecursion (IsRuleOver ss) rs
    × IsFirst (λ r. not (are_paired (rule_names r))) rs i
IsRefusal ss rs (Twice i) =
    IsTrue (are_few rs) × AllByRecursion (IsRuleOver ss) rs × AreCounted rs
    × IsFirstRepeated [] rs i
IsRefusal ss rs (Lopsided i) =
    IsTrue (are_few rs) × AllByRecursion (IsRuleOver ss) rs × AreCounted rs
    × (first_repeated rs ≡ None)
    × IsFirst (λ r. is_lopsided (numbered r)) rs i
IsRefusal ss rs Memory = ⊥

-- Rules are taken where no fault is found: their names are numbered, and all else stays.
pub record IsTaken (ss : List Symbol) (rs : List Rule) (set : Rules) : Type 0 where
  pub made : set ≡ record { symbols = ss; rules = map numbered rs }
  pub few : IsTrue (are_few rs)
  pub over : AllByRecursion (IsRuleOver ss) rs
  pub counted : AreCounted rs
  pub single : first_repeated rs ≡ None
  pub level : AllByRecursion (λ r. is_lopsided (numbered r) ≡ false) rs
