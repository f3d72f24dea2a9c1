-- What is refused has its fault, and none that is tried before it; what is taken has none.
use Rattle.std.proofs.Common.{◌≡◌, ℕ, suc, ◌+◌, Bool, true, false, not, cond, List, [], ◌∷◌, Option, None, Some, Result, Ok, Err, map, slice_get, refl, sym, ap, ◌∙◌, arith, subst, unwrap_or}
use Rattle.std.specs.List.{flat_map, position_from, AllByRecursion}
use Rattle.std.proofs.lemmas.Bool.{not-false}
use Rattle.ic_term.specs.Symbol.{Symbol, has_arity}
use Rattle.ic_rules.specs.Renaming.{are_paired}
use Rattle.ic_rules.specs.Rule.{Rule, rule_names, rule_agents, numbered, is_lopsided}
use Rattle.ic_rules.specs.RuleSet.{Rules, are_few, unfit_among, first_unfit, first_uncounted, first_repeated, first_lopsided, unless, built}
use Rattle.ic_rules.specs.lemmas.FitLaws.{first_unfit-None}
use Rattle.ic_rules.specs.Refusals.{IsFirst, IsFirstUnfit, AreCounted, IsRefusal, IsTaken}
use Rattle.ic_rules.specs.declared.rule_set.RuleFault.{RuleFault}
use Rattle.ic_rules.specs.declared.rule_set.RuleFault.TheVariants.{Limit, Arity, NameCount, Twice, Lopsided}
use Rattle.ic_rules.proofs.FirstPlaces.{first_repeated-Some}
use Rattle.ic_rules.proofs.TakenRules.{none-cons, tests_of}

-- the rule that is found is the first
first_at : (p : Rule → Bool) (j k : ℕ) (rs : List Rule) → position_from p j rs ≡ Some k → (i : ℕ) × ((k ≡ j + i) × IsFirst p rs i)
first_at p j k [] found = cc
first_at p j k (r ∷ rs) found = at (p r) refl found (first_at p (j + 1) k rs)
  where
    at : (b : Bool) → p r ≡ b → cond b (Some j) (position_from p (j + 1) rs) ≡ Some k
        → (position_from p (j + 1) rs ≡ Some k → (i : ℕ) × ((k ≡ j + 1 + i) × IsFirst p rs i)) → (i : ℕ) × ((k ≡ j + i) × IsFirst p (r ∷ rs) i)
    at true is e below =
        let same : j ≡ k = ap (λ o. unwrap_or o 0) e in
        (0, (omega (arith, same), record { before = []; rule = r; after = rs; parts = refl; counted = refl; found = is; none_before = tt }))
    at false is e below =
        let rest = below e in
        let first = rest.1.1 in (
          suc rest.0,
          (
            omega (arith, rest.1.0),
            record {
              before = r ∷ first.before;
              rule = first.rule;
              after = first.after;
              parts = ap (λ l. r ∷ l) first.parts;
              counted = ap suc first.counted;
              found = first.found;
              none_before = (is, first.none_before);
            },
          ),
        )

first_of : (p : Rule → Bool) (k : ℕ) (rs : List Rule) → position_from p 0 rs ≡ Some k → IsFirst p rs k
first_of p k rs found =
    let at = first_at p 0 k rs found in
    let same : at.0 ≡ k = omega (arith, at.1.0) in
    subst (IsFirst p rs) same at.1.1

-- the rules numbered first, and then tested
position-numbered : (p : Rule → Bool) (j : ℕ) (rs : List Rule) → position_from p j (map numbered rs) ≡ position_from (λ r. p (numbered r)) j rs
position-numbered p j [] = refl
position-numbered p j (r ∷ rs) = ap (cond (p (numbered r)) (Some j)) (position-numbered p (j + 1) rs)

none_first : (p : Rule → Bool) (j : ℕ) (rs : List Rule) → position_from p j rs ≡ None → AllByRecursion (λ r. p r ≡ false) rs
none_first p j [] none = tt
none_first p j (r ∷ rs) none = let parts = none-cons p j r rs none in (parts.0, none_first p (j + 1) rs parts.1)

-- the agent that is found is the first that is unfit
first_unfit-Some : (ss : List Symbol) (xs : List (ℕ × ℕ)) (s : ℕ) → unfit_among ss xs ≡ Some s → IsFirstUnfit ss xs s
first_unfit-Some ss [] s found = cc
first_unfit-Some ss (a ∷ xs) s found = at (has_arity a.1 (slice_get ss a.0)) refl found (first_unfit-Some ss xs s)
  where
    at : (b : Bool) → has_arity a.1 (slice_get ss a.0) ≡ b → cond b (unfit_among ss xs) (Some a.0) ≡ Some s
        → (unfit_among ss xs ≡ Some s → IsFirstUnfit ss xs s) → IsFirstUnfit ss (a ∷ xs) s
    at true fits e below =
        let rest = below e in
        record { before = a ∷ rest.before; arity = rest.arity; after = rest.after; parts = ap (λ l. a ∷ l) rest.parts; unfit = rest.unfit; fit_before = (fits, rest.fit_before) }
    at false unfit e below =
        let same : a.0 ≡ s = ap (λ o. unwrap_or o 0) e in
        record {
          before = [];
          arity = a.1;
          after = xs;
          parts = ap (λ n. (n, a.1) ∷ xs) same;
          unfit = subst (λ n. has_arity a.1 (slice_get ss n) ≡ false) same unfit;
          fit_before = tt;
        }

each_counted : (rs : List Rule) (j : ℕ) → position_from (λ r. not (are_paired (rule_names r))) j rs ≡ None → AreCounted rs
each_counted [] j none = tt
each_counted (r ∷ rs) j none =
    let parts = none-cons (λ r. not (are_paired (rule_names r))) j r rs none in
    (not-false (are_paired (rule_names r)) parts.0, each_counted rs (j + 1) parts.1)

abbrev fault_or : {T : Type 0} → RuleFault → Result T RuleFault → RuleFault
fault_or d (Ok v) = d
fault_or d (Err e) = e

abbrev refusal : RuleFault → Result Rules RuleFault
refusal fault = Err fault

pub refused : (ss : List Symbol) (rs : List Rule) (fault : RuleFault) → built ss rs ≡ Err fault → IsRefusal ss rs fault
refused ss rs fault is = by_cases (are_few rs) (first_unfit ss rs) (first_uncounted rs) (first_repeated rs) (first_lopsided rs) refl refl refl refl refl is
  where
    made : Rules
    made = record { symbols = ss; rules = map numbered rs }

    is_of : (found : RuleFault) → refusal found ≡ Err fault → IsRefusal ss rs found → IsRefusal ss rs fault
    is_of found e is_refused = subst (IsRefusal ss rs) (ap (fault_or found) e) is_refused

    by_cases : (few : Bool) (unfit uncounted repeated lopsided : Option ℕ) → are_few rs ≡ few → first_unfit ss rs ≡ unfit → first_uncounted rs ≡ uncounted
        → first_repeated rs ≡ repeated → first_lopsided rs ≡ lopsided
        → cond few (unless unfit Arity (unless uncounted NameCount (unless repeated Twice (unless lopsided Lopsided (Ok made))))) (Err Limit) ≡ Err fault
        → IsRefusal ss rs fault
    by_cases false u c r l ef eu ec er el e = is_of Limit e ef
    by_cases true (Some n) c r l ef eu ec er el e = is_of (Arity n) e (ef, first_unfit-Some ss (flat_map rule_agents rs) n eu)
    by_cases true None (Some n) r l ef eu ec er el e = is_of (NameCount n) e (ef, (first_unfit-None ss rs).0 eu, first_of (λ r. not (are_paired (rule_names r))) n rs ec)
    by_cases true None None (Some n) l ef eu ec er el e = is_of (Twice n) e (ef, (first_unfit-None ss rs).0 eu, each_counted rs 0 ec, first_repeated-Some rs n er)
    by_cases true None None None (Some n) ef eu ec er el e =
        is_of (Lopsided n) e (ef, (first_unfit-None ss rs).0 eu, each_counted rs 0 ec, er, first_of (λ r. is_lopsided (numbered r)) n rs (sym (position-numbered is_lopsided 0 rs) ∙ el))
    by_cases true None None None None ef eu ec er el e = cc

pub taken_rules : (ss : List Symbol) (rs : List Rule) (set : Rules) → built ss rs ≡ Ok set → IsTaken ss rs set
taken_rules ss rs set is =
    let tests = tests_of ss rs set is in
    record {
      made = sym tests.made;
      few = tests.few;
      over = (first_unfit-None ss rs).0 tests.fitting;
      counted = each_counted rs 0 tests.counted;
      single = tests.single;
      level = none_first (λ r. is_lopsided (numbered r)) 0 rs (sym (position-numbered is_lopsided 0 rs) ∙ tests.level);
    }
