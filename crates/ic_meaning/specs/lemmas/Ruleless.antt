-- Lemmas: two symbols without a plan have no rule.
use Rattle.std.proofs.Common.{◌≡◌, ℕ, zero, suc, ◌<◌, ◌==◌, List, [], ◌∷◌, Bool, true, false, Option, None, Some, IfSome, length, slice_get, refl, sym, ap, ◌∙◌, arith, subst as transport, true≢false as true_false}
use Rattle.std.proofs.lemmas.Bool.{and_parts}
use Rattle.std.proofs.lemmas.List.{length-map}
use Rattle.std.proofs.lemmas.Option.{slice_get_within}
use Rattle.std.specs.Cmp.{unsigned_Decides}
use Rattle.ic_term.specs.Symbol.{Symbol, has_arity}
use Rattle.ic_rules.specs.Rule.{Rule}
use Rattle.ic_rules.specs.RuleSet.{Rules, IsRuleSet, rule_for, StandsTurned}
use Rattle.ic_rules.specs.lemmas.FitLaws.{rule_over_at}
use Rattle.ic_rules.specs.lemmas.FindLaws.{rule_for-found}
use Rattle.ic_machine.specs.Plan.{Planned, Plans, number_of, plan_at, plan_of}
use Rattle.ic_meaning.specs.Plans.{IsPlanOf, IsOfRule, ArePlansOf}

-- two symbols without a plan have no rule
pub known_symbol : (ss : List Symbol) (s k : ℕ) → has_arity k (slice_get ss s) ≡ true → s < length ss
known_symbol ss s k is = at (slice_get ss s) refl is
  where
    at : (o : Option Symbol) → slice_get ss s ≡ o → has_arity k o ≡ true → s < length ss
    at None e h = absurd (true_false (sym h))
    at (Some x) e h = slice_get_within ss s x e

pub no_rule : (rs : Rules) (numbers : List ℕ) (p : Plans) (a b : ℕ) → IsRuleSet rs → ArePlansOf rs numbers p
    → (a < length p.arities → b < length p.arities → plan_of p a b ≡ None) → rule_for rs.rules a b ≡ None
no_rule rs numbers p a b set plans none = at (rule_for rs.rules a b) refl
  where
    count : length p.arities ≡ length rs.symbols
    count = ap length plans.arities ∙ length-map rs.symbols (λ s. s.arity)

    symbols_known : (turned : Bool) (r : Rule) → StandsTurned a b turned r → (r.left < length p.arities) × (r.right < length p.arities) → (a < length p.arities) × (b < length p.arities)
    symbols_known false r stands known =
        let both = and_parts (r.left == a) (r.right == b) stands in
        let left = (unsigned_Decides r.left a).0 both.0 in
        let right = (unsigned_Decides r.right b).0 both.1 in
        (transport (λ (k : ℕ). k < length p.arities) left known.0, transport (λ (k : ℕ). k < length p.arities) right known.1)
    symbols_known true r stands known =
        let both = and_parts (r.left == b) (r.right == a) stands.0 in
        let left = (unsigned_Decides r.left b).0 both.0 in
        let right = (unsigned_Decides r.right a).0 both.1 in
        (transport (λ (k : ℕ). k < length p.arities) right known.1, transport (λ (k : ℕ). k < length p.arities) left known.0)

    planned_so : plan_of p a b ≡ None → (i j : ℕ) (turned : Bool) → number_of p a b ≡ Some i → IsPlanOf rs numbers p i j turned → ⊥
    planned_so absent i j turned e of =
        let is : plan_of p a b ≡ Some of.plan = ap (plan_at p.plans) e ∙ of.plan_there in
        some_none is absent
      where
        some_none : {x : Planned} {o : Option Planned} → o ≡ Some x → o ≡ None → ⊥
        some_none e f = let both = sym e ∙ f in cc

    with_number : plan_of p a b ≡ None → (o : Option ℕ) (j : ℕ) (turned : Bool) → number_of p a b ≡ o → IsOfRule rs numbers p o (Some (j, turned)) → ⊥
    with_number absent None j turned e of = of
    with_number absent (Some i) j turned e of = planned_so absent i j turned e of

    with_rule : (j : ℕ) (turned : Bool) (o : Option Rule) → rule_for rs.rules a b ≡ Some (j, turned) → slice_get rs.rules j ≡ o → ⊥
    with_rule j turned None e there = past rs.rules j (rule_for-found rs.rules a b j turned e).there there
      where
        some_apart : {r : Rule} → Some r ≡ None → ⊥
        some_apart e = cc

        past : (rs : List Rule) (j : ℕ) → j < length rs → slice_get rs j ≡ None → ⊥
        past [] j low none = absurd (omega arith)
        past (r ∷ rs) zero low none = some_apart none
        past (r ∷ rs) (suc j) low none = past rs j (omega arith) none
    with_rule j turned (Some r) e there =
        let same_count = count in
        let over = rule_over_at rs.symbols rs.rules j r set.fitting there in
        let at_rule : IfSome (Some r) (StandsTurned a b turned) = rw there at (rule_for-found rs.rules a b j turned e).of_pair in
        let left = known_symbol rs.symbols r.left (length r.left_args) over.left in
        let right = known_symbol rs.symbols r.right (length r.right_args) over.right in
        let known = symbols_known turned r at_rule ((let h : r.left < length p.arities = omega arith in h), (let h : r.right < length p.arities = omega arith in h)) in
        with_number (none known.0 known.1) (number_of p a b) j turned refl (transport (IsOfRule rs numbers p (number_of p a b)) e (plans.each a b known.0 known.1))

    at : (q : Option (ℕ × Bool)) → rule_for rs.rules a b ≡ q → rule_for rs.rules a b ≡ None
    at None e = e
    at (Some (j, turned)) e = absurd (with_rule j turned (slice_get rs.rules j) e refl)
