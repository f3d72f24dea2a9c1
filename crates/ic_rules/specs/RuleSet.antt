use Rattle.std.specs.Prelude.{◌≡◌, ℕ, ◌≤◌, List, [], ◌∷◌, ◌++◌, Bool, true, false, ◌&&◌, not, Option, None, Some, Result, Ok, Err, length, map, sum_by, nat_le, slice_get, if◌then◌else◌}
use Rattle.std.specs.List.{flat_map, list_all, list_any, position_from, AllByRecursion}
use Rattle.std.specs.Prelude.{◌<◌, ◌||◌, IfSome, IsTrue}
use Rattle.ic_term.specs.Symbol.{Symbol, has_arity, is_tree_over, symbols_eq}
use Rattle.std.specs.Cmp.Lexicographic.{pointwise}
use Rattle.ic_term.specs.declared.limits.TheConstants.{MAX_SYMBOLS}
use Rattle.ic_rules.specs.Renaming.{are_paired}
use Rattle.ic_rules.specs.Rule.{Rule, rule_names, rule_nodes, rule_agents, numbered, is_lopsided, stands_for, same_pair, rule_eq, IsRule}
use Rattle.ic_rules.specs.declared.limits.TheConstants.{MAX_RULES, MAX_RULE_NODES, MAX_WIDE_RULES}
use Rattle.ic_rules.specs.declared.rule_set.RuleFault.{RuleFault}
use Rattle.ic_rules.specs.declared.rule_set.RuleFault.TheVariants.{Limit, Arity, NameCount, Twice, Lopsided}

-- A rule set as plain data: symbols, and rules over them (Lafont 1990).
pub record Rules : Type 0 where
  pub symbols : List Symbol
  pub rules : List Rule

-- neither the rules nor the nodes of one rule's arguments are too many (this project's choice)
abbrev pub are_few : List Rule → Bool
are_few rs = nat_le (length rs) MAX_WIDE_RULES
    && list_all (λ r. nat_le (rule_nodes r) MAX_RULE_NODES) rs

-- the symbol of the first agent of a list that is unknown or has another arity
abbrev pub unfit_among : List Symbol → List (ℕ × ℕ) → Option ℕ
unfit_among ss [] = None
unfit_among ss (a ∷ bs) = if has_arity a.1 (slice_get ss a.0) then unfit_among ss bs else Some a.0

-- the symbol of the first agent of the rules that is unknown or has another arity
abbrev pub first_unfit : List Symbol → List Rule → Option ℕ
first_unfit ss rs = unfit_among ss (flat_map rule_agents rs)

-- the symbols of a rule are known, and each agent has as many arguments as its arity
pub record IsRuleOver (ss : List Symbol) (r : Rule) : Type 0 where
  pub left : IsTrue (has_arity (length r.left_args) (slice_get ss r.left))
  pub right : IsTrue (has_arity (length r.right_args) (slice_get ss r.right))
  pub left_args : IsTrue (list_all (is_tree_over ss) r.left_args)
  pub right_args : IsTrue (list_all (is_tree_over ss) r.right_args)

-- the first rule with a name that doesn't occur exactly twice
abbrev pub first_uncounted : List Rule → Option ℕ
first_uncounted rs = position_from (λ r. not (are_paired (rule_names r))) 0 rs

-- the first rule, after earlier ones, whose unordered pair an earlier one has
abbrev pub repeated_after : List Rule → List Rule → Option ℕ
repeated_after earlier [] = None
repeated_after earlier (r ∷ rs) = if list_any (same_pair r) earlier then Some (length earlier)
    else repeated_after (earlier ++ r ∷ []) rs

-- the first rule whose unordered pair an earlier rule has
abbrev pub first_repeated : List Rule → Option ℕ
first_repeated rs = repeated_after [] rs

-- the first rule of a symbol with itself that isn't its own swap
abbrev pub first_lopsided : List Rule → Option ℕ
first_lopsided rs = position_from is_lopsided 0 (map numbered rs)

-- what comes where nothing is refused, or the refusal
abbrev pub unless : {A : Type 0} → Option ℕ → (ℕ → RuleFault) → Result A RuleFault
    → Result A RuleFault
unless None fault answer = answer
unless (Some n) fault answer = Err (fault n)

-- The rule set of rules as they are written, their names numbered, or the first refusal: limits, arities, names that
-- don't occur exactly twice, pairs of symbols with two rules, lopsided rules (the order is this project's choice).
abbrev pub built : List Symbol → List Rule → Result Rules RuleFault
built ss rs =
    if are_few rs then
    unless (first_unfit ss rs) Arity (unless (first_uncounted rs) NameCount
    (unless (first_repeated rs) Twice (unless (first_lopsided rs) Lopsided
    (Ok (record { symbols = ss; rules = map numbered rs })))))
    else Err Limit

-- What each rule set keeps: that its rules are rules, at most one per unordered pair of symbols (Lafont
-- 1990), and arities and limits.
pub record IsRuleSet (rs : Rules) : Type 0 where
  pub each : AllByRecursion IsRule rs.rules
  pub few : are_few rs.rules ≡ true
  pub fitting : first_unfit rs.symbols rs.rules ≡ None
  pub single : first_repeated rs.rules ≡ None

-- The rules of what is served: few symbols, few rules, and few nodes of all arguments together (this project's
-- choice).
pub record AreServed (rs : Rules) : Type 0 where
  pub symbols : length rs.symbols ≤ MAX_SYMBOLS
  pub rules : length rs.rules ≤ MAX_RULES
  pub nodes : sum_by rule_nodes rs.rules ≤ MAX_RULE_NODES

-- a rule that was found, and whether the pair was turned round
abbrev pub found_or : Bool → Option ℕ → Option (ℕ × Bool) → Option (ℕ × Bool)
found_or turned (Some i) other = Some (i, turned)
found_or turned None other = other

-- the rule of a pair of symbols: its place, and whether the pair is turned round
abbrev pub rule_for : List Rule → ℕ → ℕ → Option (ℕ × Bool)
rule_for rs a b = found_or false (position_from (stands_for a b) 0 rs)
    (found_or true (position_from (stands_for b a) 0 rs) None)

-- the rule is of this unordered pair of symbols
abbrev pub has_pair : ℕ → ℕ → Rule → Bool
has_pair a b r = stands_for a b r || stands_for b a r

-- the symbols of a rule are these two, in this order; if `turned`, in the other order alone
abbrev pub StandsTurned : ℕ → ℕ → Bool → Rule → Type 0
StandsTurned a b false r = stands_for a b r ≡ true
StandsTurned a b true r = (stands_for b a r ≡ true) × (stands_for a b r ≡ false)

-- there is a rule at this place, and it is of this pair of symbols
pub record IsRuleFor (rs : List Rule) (a b i : ℕ) (turned : Bool) : Type 0 where
  pub there : i < length rs
  pub of_pair : IfSome (slice_get rs i) (StandsTurned a b turned)

-- whether two rule sets are the same: the same symbols and the same rules, in the same order
abbrev pub rules_eq : Rules → Rules → Bool
rules_eq r s = symbols_eq r.symbols s.symbols && pointwise rule_eq r.rules s.rules
