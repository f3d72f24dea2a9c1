-- The plans of pairs of symbols: one more, and what they are once those of all rules are there.
use Rattle.std.proofs.Common.{◌≡◌, ℕ, zero, suc, ◌+◌, ◌<◌, ◌==◌, ◌&&◌, ◌||◌, List, [], ◌∷◌, ◌++◌, Bool, true, false, cond, Option, None, Some, is_some, length, map, take, slice_get, refl, sym, ap, subst, ◌∙◌, arith}
use Rattle.std.specs.Prelude.{IfSome, IsSome}
use Rattle.std.specs.Option.{option_map}
use Rattle.std.specs.List.{AllByRecursion}
use Rattle.std.specs.Cmp.{unsigned_Decides}
use Rattle.std.proofs.lemmas.Bool.{and_from, and_parts, false≢true}
use Rattle.std.proofs.lemmas.Option.{none-some, same_Some, slice_get_within}
use Rattle.std.proofs.lemmas.List.{length-append}
use Rattle.std.proofs.lemmas.Map.Keys.{any_passes_from_place}
use Rattle.ic_term.specs.Symbol.{Symbol, has_arity, symbol_arity}
use Rattle.ic_rules.specs.Rule.{Rule, stands_for}
use Rattle.ic_rules.specs.RuleSet.{Rules, IsRuleSet, rule_for, has_pair, StandsTurned}
use Rattle.ic_rules.specs.lemmas.FindLaws.{rule_for-found, rule_for-none}
use Rattle.ic_rules.specs.lemmas.FitLaws.{rule_over_at}
use Rattle.ic_machine.specs.Plan.{Planned, Plans, IsPlan, number_of, place_of, plan_of}
use Rattle.ic_machine.specs.lemmas.PairLaws.{found_on, no_number, pair_same, place_pushed, plans_added, same_pair}
use Rattle.ic_meaning.specs.Plans.{IsOfRule, ArePlansOf, StandsFor, met_as}
use Rattle.ic_plans.specs.inner.Entries.{arities_of, ArePlanned, HasPlans, Continues}
use Rattle.ic_plans.specs.inner.Registers.{IsPlanFor}
use Rattle.ic_plans.proofs.RegisterLemmas.{all_there, there_front, there_last}
use Rattle.ic_plans.proofs.MetLemmas.{met_arguments}
use Rattle.ic_plans.proofs.PlanLemmas.{arity_there}
use Rattle.ic_confluence.specs.lemmas.Actives.{at_place}

-- ---- lists

if_there : {X : Type 0} (P : X → Type 0) (o : Option X) (x : X) → o ≡ Some x → IfSome o P → P x
if_there P o x is holds = subst (λ p. IfSome p P) is holds

pub if_some : {X : Type 0} (P : X → Type 0) (o : Option X) (x : X) → o ≡ Some x → P x → IfSome o P
if_some P o x is holds = subst (λ p. IfSome p P) (sym is) holds

-- the arity of one symbol more
pub arities_more : (ss : List Symbol) (i n : ℕ) → symbol_arity ss i ≡ Some n → map (λ (s : Symbol). s.arity) (take (i + 1) ss) ≡ map (λ (s : Symbol). s.arity) (take i ss) ++ n ∷ []
arities_more [] i n is = absurd (none-some n is)
arities_more (s ∷ ss) zero n is = ap (λ m. m ∷ []) (same_Some s.arity n is)
arities_more (s ∷ ss) (suc i) n is =
    let next : suc i + 1 ≡ suc (i + 1) = omega arith in
    ap (λ k. map (λ (s : Symbol). s.arity) (take k (s ∷ ss))) next ∙ ap (λ l. s.arity ∷ l) (arities_more ss i n is)

-- ---- a plan more

-- a rule is found for its symbols, as they stand and turned round
pub rule_some : (rs : List Rule) (i a b : ℕ) (r : Rule) → slice_get rs i ≡ Some r → has_pair a b r ≡ true → IsSome (rule_for rs a b)
rule_some rs i a b r there so = by (rule_for rs a b) refl
  where
    by : (o : Option (ℕ × Bool)) → rule_for rs a b ≡ o → IsSome o
    by (Some found) is = refl
    by None is = absurd (false≢true (sym (rule_for-none rs a b is) ∙ any_passes_from_place (has_pair a b) rs i r there so))

pub own_pair : (r : Rule) → (has_pair r.left r.right r ≡ true) × (has_pair r.right r.left r ≡ true)
own_pair r = (ap (λ t. t || stands_for r.right r.left r) stands, by (stands_for r.right r.left r))
  where
    stands : stands_for r.left r.right r ≡ true
    stands = and_from (r.left == r.left) (r.right == r.right) ((unsigned_Decides r.left r.left).1 refl) ((unsigned_Decides r.right r.right).1 refl)

    by : (b : Bool) → (b || stands_for r.left r.right r) ≡ true
    by true = refl
    by false = stands

-- what has a number in a list has one in a longer list
pub number_kept : (a b : ℕ) (xs ys : List (ℕ × ℕ)) → Continues xs ys → IsSome (place_of a b xs) → IsSome (place_of a b ys)
number_kept a b xs ys on some = by (place_of a b xs) refl some
  where
    by : (o : Option ℕ) → place_of a b xs ≡ o → IsSome o → IsSome (place_of a b ys)
    by None is some = absurd (false≢true some)
    by (Some i) is some =
        subst (λ o. IsSome o) (sym (ap (place_of a b) on.is ∙ found_on (λ q. q.0 == a && q.1 == b) xs on.more 0 i is)) refl

module _ (rs : Rules) (numbers : List ℕ) (p : Plans) (a b number : ℕ) (turned : Bool) (plan : Planned)
    (set : IsRuleSet rs) (so_far : ArePlanned rs numbers p) (la : a < length p.arities) (lb : b < length p.arities) (none : plan_of p a b ≡ None)
    (found : rule_for rs.rules a b ≡ Some (number, turned))
    (planned : IfSome (slice_get rs.rules number) (λ r. IsPlanFor (arities_of rs) (met_as turned r) plan)) where
  abbrev more : Plans
  more = record { arities = p.arities; pairs = p.pairs ++ (a, b) ∷ []; plans = p.plans ++ plan ∷ [] }

  rule : (r : Rule) × (slice_get rs.rules number ≡ Some r)
  rule = at_place rs.rules number (rule_for-found rs.rules a b number turned found).there

  made : IsPlanFor (arities_of rs) (met_as turned rule.0) plan
  made = if_there (λ r. IsPlanFor (arities_of rs) (met_as turned r) plan) (slice_get rs.rules number) rule.0 rule.1 planned

  pub fits : (left right : ℕ) → slice_get p.arities a ≡ Some left → slice_get p.arities b ≡ Some right → IsPlan p.arities (left + right) plan
  fits left right first second =
      let of = rule_for-found rs.rules a b number turned found in
      let stands = if_there (StandsTurned a b turned) (slice_get rs.rules number) rule.0 rule.1 of.of_pair in
      let same = so_far.arities in
      let first_too = ap (λ l. slice_get l a) (sym same) ∙ first in
      let second_too = ap (λ l. slice_get l b) (sym same) ∙ second in
      subst (λ l. IsPlan l (left + right) plan) (sym same)
      (subst (λ n. IsPlan (arities_of rs) n plan)
      (met_arguments rs.symbols rule.0 a b left right turned (rule_over_at rs.symbols rs.rules number rule.0 set.fitting rule.1) stands first_too second_too) made.plan)

  -- it stands for the rule of its pair
  of_new : (i : ℕ) → i ≡ length p.pairs → IsOfRule rs (numbers ++ number ∷ []) more (Some i) (Some (number, turned))
  of_new i last =
      let counted = so_far.counted in
      let as_many = so_far.sound.counted in
      let last_number : i ≡ length numbers = omega (arith, last, counted, as_many) in
      let last_plan : i ≡ length p.plans = omega (arith, last, as_many) in
      record {
        number = ap (slice_get (numbers ++ number ∷ [])) last_number ∙ there_last numbers number;
        of_rule = rule.0;
        rule_there = rule.1;
        plan = plan;
        plan_there = ap (slice_get (p.plans ++ plan ∷ [])) last_plan ∙ there_last p.plans plan;
        stands = subst (λ l. StandsFor l (met_as turned rule.0) plan) (sym so_far.arities) made.stands;
      }

  -- the others stand for the rules that they stood for
  of_old : (i : ℕ) (o : Option (ℕ × Bool)) → IsOfRule rs numbers p (Some i) o → IsOfRule rs (numbers ++ number ∷ []) more (Some i) o
  of_old i None of = absurd of
  of_old i (Some (n, t)) of = record {
    number = there_front numbers (number ∷ []) i n of.number;
    of_rule = of.of_rule;
    rule_there = of.rule_there;
    plan = of.plan;
    plan_there = there_front p.plans (plan ∷ []) i of.plan of.plan_there;
    stands = of.stands;
  }

  of_any : (x y i : ℕ) → number_of more x y ≡ Some i → IsOfRule rs (numbers ++ number ∷ []) more (Some i) (rule_for rs.rules x y)
  of_any x y i is = by (a == x && b == y) refl (sym (place_pushed p.pairs a b (no_number p a b so_far.sound none) x y) ∙ is)
    where
      by : (c : Bool) → (a == x && b == y) ≡ c → cond (a == x && b == y) (Some (length p.pairs)) (number_of p x y) ≡ Some i
          → IsOfRule rs (numbers ++ number ∷ []) more (Some i) (rule_for rs.rules x y)
      by true e at =
          let same = same_pair a b x y e in
          let last = same_Some (length p.pairs) i (ap (λ c. cond c (Some (length p.pairs)) (number_of p x y)) (sym e) ∙ at) in
          let is_found : Some (number, turned) ≡ rule_for rs.rules x y = sym ((λ j. rule_for rs.rules (same.0 j) (same.1 j)) ∙ found) in
          subst (IsOfRule rs (numbers ++ number ∷ []) more (Some i)) is_found (of_new i (sym last))
      by false e at =
          let old : number_of p x y ≡ Some i = ap (λ c. cond c (Some (length p.pairs)) (number_of p x y)) (sym e) ∙ at in
          of_old i (rule_for rs.rules x y) (so_far.entries x y i old)

  pub planned_more : ArePlanned rs (numbers ++ number ∷ []) more
  planned_more = record {
    arities = so_far.arities;
    counted = (let c = so_far.counted in omega (arith, c, length-append numbers (number ∷ []), length-append p.plans (plan ∷ [])));
    sound = plans_added p a b plan so_far.sound la lb none fits;
    entries = of_any;
  }

  -- and its pair has its number
  pub number_new : IsSome (number_of more a b)
  number_new =
      let none_there = no_number p a b so_far.sound none in
      subst (λ o. IsSome o) (sym (place_pushed p.pairs a b none_there a b ∙ ap (λ c. cond c (Some (length p.pairs)) (number_of p a b)) (pair_same a b a b refl refl))) refl

-- ---- what a function has of these

pub none_mapped : {X Y : Type 0} (f : X → Y) (o : Option X) → is_some o ≡ false → option_map f o ≡ None
none_mapped f None none = refl
none_mapped f (Some x) none = absurd (false≢true (sym none))

-- a symbol of a rule is known
pub known_symbol : (rs : Rules) (p : Plans) (s n : ℕ) → p.arities ≡ arities_of rs → has_arity n (slice_get rs.symbols s) ≡ true → s < length p.arities
known_symbol rs p s n same known = subst (λ l. s < length l) (sym same) (slice_get_within (arities_of rs) s n (arity_there rs.symbols s n known))

-- ---- all of them

pub are_plans_of : (rs : Rules) (numbers : List ℕ) (p : Plans) → ArePlanned rs numbers p → AllByRecursion (HasPlans p) rs.rules → ArePlansOf rs numbers p
are_plans_of rs numbers p so_far all = record { arities = so_far.arities; each = λ a b low high. at a b (number_of p a b) refl }
  where
    stood : (a b : ℕ) (turned : Bool) (r : Rule) → StandsTurned a b turned r → HasPlans p r → IsSome (number_of p a b)
    stood a b false r stands plans =
        let both = and_parts (r.left == a) (r.right == b) stands in
        let left = (unsigned_Decides r.left a).0 both.0 in
        let right = (unsigned_Decides r.right b).0 both.1 in
        subst (λ o. IsSome o) (λ i. number_of p (left i) (right i)) plans.0
    stood a b true r stands plans =
        let both = and_parts (r.left == b) (r.right == a) stands.0 in
        let left = (unsigned_Decides r.left b).0 both.0 in
        let right = (unsigned_Decides r.right a).0 both.1 in
        subst (λ o. IsSome o) (λ i. number_of p (right i) (left i)) plans.1

    at_none : (a b : ℕ) → number_of p a b ≡ None → (q : Option (ℕ × Bool)) → rule_for rs.rules a b ≡ q → IsOfRule rs numbers p None q
    at_none a b none None is = tt
    at_none a b none (Some (n, turned)) is =
        let of = rule_for-found rs.rules a b n turned is in
        let rule = at_place rs.rules n of.there in
        let stands = if_there (StandsTurned a b turned) (slice_get rs.rules n) rule.0 rule.1 of.of_pair in
        let plans = all_there (HasPlans p) rs.rules n rule.0 all rule.1 in
        false≢true (subst (λ o. IsSome o) none (stood a b turned rule.0 stands plans))

    at : (a b : ℕ) (o : Option ℕ) → number_of p a b ≡ o → IsOfRule rs numbers p o (rule_for rs.rules a b)
    at a b (Some i) is = so_far.entries a b i is
    at a b None is = at_none a b is (rule_for rs.rules a b) refl

-- the plans of both of its pairs are there, and those of the rules before
pub plans_more : (p q : Plans) (rules : List Rule) → Continues p.pairs q.pairs → AllByRecursion (HasPlans p) rules → AllByRecursion (HasPlans q) rules
plans_more p q [] on all = tt
plans_more p q (r ∷ rules) on all = (
  (number_kept r.left r.right p.pairs q.pairs on all.0.0, number_kept r.right r.left p.pairs q.pairs on all.0.1),
  plans_more p q rules on all.1,
)
