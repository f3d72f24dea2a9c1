-- `built` takes exactly the rule sets.
use Rattle.std.proofs.Common.{◌≡◌, ◌↔◌, ℕ, ◌+◌, Bool, true, false, not, cond, List, [], ◌∷◌, Option, None, Some, Result, Ok, Err, map, refl, sym, ap, ◌∙◌, subst}
use Rattle.std.specs.List.{position_from, AllByRecursion}
use Rattle.std.proofs.lemmas.Bool.{not-false}
use Rattle.ic_term.specs.Symbol.{Symbol}
use Rattle.ic_rules.specs.Renaming.{are_paired}
use Rattle.ic_rules.specs.Rule.{Rule, IsRule, IsNumbered, rule_names, numbered, is_lopsided}
use Rattle.ic_rules.specs.RuleSet.{Rules, IsRuleSet, are_few, first_unfit, first_uncounted, first_repeated, first_lopsided, unless, built}
use Rattle.ic_rules.specs.declared.rule_set.RuleFault.{RuleFault}
use Rattle.ic_rules.specs.declared.rule_set.RuleFault.TheVariants.{Limit, Arity, NameCount, Twice, Lopsided}
use Rattle.ic_rules.specs.lemmas.NumberingLaws.{map-numbered-same, numbered-IsNumbered}
use Rattle.ic_rules.proofs.RuleLemmas.{numbered_is_rule}
use Rattle.ic_rules.proofs.RuleSetLemmas.{IsRuleSet-numbered}

-- none of rules that pass a test is found by its opposite
none_found : (p : Rule → Bool) (j : ℕ) (rs : List Rule) → AllByRecursion (λ r. p r ≡ false) rs → position_from p j rs ≡ None
none_found p j [] all = refl
none_found p j (r ∷ rs) all = rw all.0 (none_found p (j + 1) rs all.1)

counted : (rs : List Rule) → AllByRecursion IsRule rs → AllByRecursion (λ r. not (are_paired (rule_names r)) ≡ false) rs
counted [] all = tt
counted (r ∷ rs) all = (ap not all.0.paired, counted rs all.1)

in_order : (rs : List Rule) → AllByRecursion IsRule rs → AllByRecursion IsNumbered rs
in_order [] all = tt
in_order (r ∷ rs) all = (all.0.in_order, in_order rs all.1)

level : (rs : List Rule) → AllByRecursion IsRule rs → AllByRecursion (λ r. is_lopsided r ≡ false) rs
level [] all = tt
level (r ∷ rs) all = (all.0.level, level rs all.1)

pub takes : (rs : Rules) → IsRuleSet rs → built rs.symbols rs.rules ≡ Ok rs
takes rs is =
    let same = map-numbered-same rs.rules (in_order rs.rules is.each) in
    let uncounted : first_uncounted rs.rules ≡ None = none_found _ 0 rs.rules (counted rs.rules is.each) in
    let lopsided : first_lopsided rs.rules ≡ None = ap (position_from is_lopsided 0) same ∙ none_found is_lopsided 0 rs.rules (level rs.rules is.each) in
    rw (is.few, is.fitting, uncounted, is.single, lopsided) (λ i. Ok (record { symbols = rs.symbols; rules = same i }))

pub none-cons : (p : Rule → Bool) (j : ℕ) (r : Rule) (rs : List Rule) → position_from p j (r ∷ rs) ≡ None → (p r ≡ false) × (position_from p (j + 1) rs ≡ None)
none-cons p j r rs none = by_test (p r) refl none
  where
    by_test : (b : Bool) → p r ≡ b → cond b (Some j) (position_from p (j + 1) rs) ≡ None → (p r ≡ false) × (position_from p (j + 1) rs ≡ None)
    by_test true e n = cc
    by_test false e n = (e, n)

each_rule : (rs : List Rule) (j : ℕ) → position_from (λ r. not (are_paired (rule_names r))) j rs ≡ None → position_from is_lopsided j (map numbered rs) ≡ None → AllByRecursion IsRule (map numbered rs)
each_rule [] j uncounted lopsided = tt
each_rule (r ∷ rs) j uncounted lopsided =
    let paired = none-cons (λ r. not (are_paired (rule_names r))) j r rs uncounted in
    let level = none-cons is_lopsided j (numbered r) (map numbered rs) lopsided in
    (numbered_is_rule r.left r.right r.left_args r.right_args (not-false _ paired.0) (numbered r) refl refl refl level.0, each_rule rs (j + 1) paired.1 level.1)

abbrev rules_or : Rules → Result Rules RuleFault → Rules
rules_or d (Ok rs) = rs
rules_or d (Err e) = d

-- what `built` found of rules that it takes
pub record Tests (ss : List Symbol) (rs : List Rule) (v : Rules) : Type 0 where
  pub made : record { symbols = ss; rules = map numbered rs } ≡ v
  pub few : are_few rs ≡ true
  pub fitting : first_unfit ss rs ≡ None
  pub counted : first_uncounted rs ≡ None
  pub single : first_repeated rs ≡ None
  pub level : first_lopsided rs ≡ None

pub tests_of : (ss : List Symbol) (rs : List Rule) (v : Rules) → built ss rs ≡ Ok v → Tests ss rs v
tests_of ss rs v is = by_cases (are_few rs) (first_unfit ss rs) (first_uncounted rs) (first_repeated rs) (first_lopsided rs) refl refl refl refl refl is
  where
    made : Rules
    made = record { symbols = ss; rules = map numbered rs }

    by_cases : (few : Bool) (unfit uncounted repeated lopsided : Option ℕ) → are_few rs ≡ few → first_unfit ss rs ≡ unfit → first_uncounted rs ≡ uncounted
        → first_repeated rs ≡ repeated → first_lopsided rs ≡ lopsided
        → cond few (unless unfit Arity (unless uncounted NameCount (unless repeated Twice (unless lopsided Lopsided (Ok made))))) (Err Limit) ≡ Ok v → Tests ss rs v
    by_cases true None None None None f u c r l e = record { made = ap (rules_or made) e; few = f; fitting = u; counted = c; single = r; level = l }
    by_cases true (Some n) c r l ef eu ec er el e = cc
    by_cases true None (Some n) r l ef eu ec er el e = cc
    by_cases true None None (Some n) l ef eu ec er el e = cc
    by_cases true None None None (Some n) ef eu ec er el e = cc
    by_cases false u c r l ef eu ec er el e = cc

pub taken : (rs : Rules) → built rs.symbols rs.rules ≡ Ok rs → IsRuleSet rs
taken rs is =
    let tests = tests_of rs.symbols rs.rules rs is in
    subst IsRuleSet tests.made (IsRuleSet-numbered rs.symbols rs.rules (each_rule rs.rules 0 tests.counted tests.level) tests.few tests.fitting tests.single)

-- the first of rules and the others, kept by numbering
pub each_numbered : (rs : List Rule) → map numbered rs ≡ rs → AllByRecursion IsNumbered rs
each_numbered [] same = tt
each_numbered (r ∷ rs) same = (subst IsNumbered (ap (first_rule r) same) (numbered-IsNumbered r), each_numbered rs (ap other_rules same))
  where
    first_rule : Rule → List Rule → Rule
    first_rule d [] = d
    first_rule d (q ∷ qs) = q

    other_rules : List Rule → List Rule
    other_rules [] = []
    other_rules (q ∷ qs) = qs

-- rules are left as they are written exactly where each is numbered
pub left_as_written : (ss : List Symbol) (rs : List Rule) (v : Rules) → built ss rs ≡ Ok v → (v.rules ≡ rs) ↔ AllByRecursion IsNumbered rs
left_as_written ss rs v is =
    let made : map numbered rs ≡ v.rules = ap (λ (w : Rules). w.rules) (tests_of ss rs v is).made in
    ((λ same. each_numbered rs (made ∙ same)), (λ all. sym made ∙ map-numbered-same rs all))
