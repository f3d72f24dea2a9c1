-- Lemmas: where a machine stops.
use Rattle.std.proofs.Common.{◌≡◌, ℕ, zero, suc, ◌<◌, ◌≤◌, ◌^◌, List, [], ◌∷◌, ◌++◌, Some, length, map, slice_get, slice_index_or, refl, sym, ap, ◌∙◌, ◌==◌, arith, subst as transport}
use Rattle.std.specs.List.{AllByRecursion}
use Rattle.std.specs.Prelude.{◌↔◌, ◌+◌, Contains, IsTrue}
use Rattle.std.proofs.lemmas.List.{length-map}
use Rattle.ic_term.specs.Configuration.{Configuration, IsWide, configuration_names, occurrences}
use Rattle.ic_term.specs.Symbol.{is_over}
use Rattle.ic_rules.specs.RuleSet.{Rules, IsRuleSet}
use Rattle.ic_rules.specs.System.{SystemParts}
use Rattle.ic_round.specs.Naming.{HasNames}
use Rattle.ic_machine.specs.Net.{Net, pieces, IsPair, IsStuck}
use Rattle.ic_machine.specs.Plan.{Planned, Plans, ArePlans, IsPlan}
use Rattle.ic_machine.specs.Runs.{IsStart, Ran}
use Rattle.ic_meaning.specs.Plans.{ArePlansOf, StandsForNet, rule_number}
use Rattle.ic_in_place.specs.declared.running.Bounds.{Bounds}
use Rattle.ic_in_place.specs.declared.running.End.{End}
use Rattle.ic_in_place.specs.declared.running.End.TheVariants.{Quiet, Steps, Nodes, Limit, Memory}
use Rattle.ic_in_place.specs.Holding.{AreGiven, AreCompiled, HasRun, Holds}
use Rattle.ic_in_place.specs.Running.{RunsOn}
use Rattle.ic_in_place.proofs.Counted.{summed_told}
use Rattle.ic_in_place.specs.Summing.{IsSummed}
use Rattle.ic_in_place.proofs.Onward.{all_of_both}
use Rattle.ic_machine.specs.lemmas.RunsOn.{ran_steps}
use Rattle.ic_arena.specs.Piece.{Piece}
use Rattle.ic_machine.specs.Steps.{Step, Steps as StepsOf, no_step, one_more, turns, puts, meets, joins, fires}
use Rattle.std.proofs.lemmas.List.Sums.{count_by-le-length}
use Rattle.std.proofs.lemmas.Option.{slice_get_within}
use Rattle.ic_in_place.specs.Stopping.{arities_of, IsSound, IsBegun, StopsBy, HasCome}

pub names_of_configuration : (c : Configuration) → IsWide c → HasNames c
names_of_configuration c is = record { below = is.below; twice = is.twice }

contained : (xs : List ℕ) (x k : ℕ) → k < length xs → slice_index_or xs k x ≡ x → slice_get xs k ≡ Some x
contained [] x k low is = absurd (omega (arith, low))
contained (y ∷ ys) x zero low is = ap Some is
contained (y ∷ ys) x (suc k) low is = contained ys x k (omega (arith, low)) is

found_within : (xs : List ℕ) (x k : ℕ) → slice_get xs k ≡ Some x → (k < length xs) × (slice_index_or xs k x ≡ x)
found_within [] x k is = cc
found_within (y ∷ ys) x zero is = (omega arith, cc)
found_within (y ∷ ys) x (suc k) is = let later = found_within ys x k is in (omega (arith, later.0), later.1)

-- the names that occur once, as they are found in their list
pub given_found : (given : List ℕ) (c : Configuration) → ((x : ℕ) → (occurrences x (configuration_names c) ≡ 1) ↔ Contains given x) → AreGiven given c
given_found given c are x = (
  (λ once. let at = (are x).0 once in (at.0, contained given x at.0 at.1 at.2)),
  (λ found. let at = found_within given x found.0 found.1 in (are x).1 (found.0, at.0, at.1)),
)

pub all_low : (xs ys : List ℕ) (next bound : ℕ) → next ≤ bound → AllByRecursion (λ x. x < next) (xs ++ ys) → AllByRecursion (λ x. x < bound) xs
all_low [] ys next bound low all = tt
all_low (x ∷ xs) ys next bound low all = (omega (arith, low, all.0), all_low xs ys next bound low all.1)

-- what the law says that this one builds on
abbrev pub LawOfReached : Type 0
LawOfReached = (rs : Rules) (numbers : List ℕ) (p : Plans) (c : Configuration) (given : List ℕ) (plan : Planned) (operands : List ℕ) (m : Net)
    → IsRuleSet rs → IsTrue (is_over rs.symbols c) → HasNames c → AreCompiled rs numbers p c given plan operands
    → (run : HasRun p (length given) plan operands m) → Holds rs p c given (map (rule_number numbers) run.ran.fired) m

-- a run that goes on, by as many interactions as are left of those that may be made, stops by the bounds of all
pub by_end : (bounds : Bounds) (steps : ℕ) (p : Plans) (old m : Net) (end : End) → bounds.steps ≡ old.interactions + steps
    → RunsOn p steps end old m → StopsBy bounds p m end
by_end bounds steps p old m Quiet all runs = transport (AllByRecursion (IsStuck p)) (sym (runs.quiet refl)) tt
by_end bounds steps p old m Steps all runs = let made = runs.all refl in (omega (arith, made, all), runs.more refl)
by_end bounds steps p old m Nodes all runs = omega (arith, all, runs.early refl)
by_end bounds steps p old m Limit all runs = omega (arith, all, runs.limited refl)
by_end bounds steps p old m Memory all runs = tt

-- each plan that fired is there
known_step : (p : Plans) (xs ys : List Piece) (fired : List ℕ) → Step p fired xs ys → AllByRecursion (λ i. i < length p.plans) fired
known_step p xs ys fired (turns a b is) = tt
known_step p xs ys fired (puts a b is) = tt
known_step p xs ys fired (meets a b is) = tt
known_step p xs ys fired (joins a b is) = tt
known_step p xs ys fired (fires i a b is) = (slice_get_within p.plans i is.plan is.has_plan, tt)

pub known_plans : (p : Plans) (xs ys : List Piece) (fired : List ℕ) → StepsOf p fired xs ys → AllByRecursion (λ i. i < length p.plans) fired
known_plans p xs ys fired (no_step a b is) = tt
known_plans p xs ys fired (one_more is js a b c one more) =
    all_of_both (λ i. i < length p.plans) is js (known_plans p a b is one) (known_step p b c js more)

abbrev zeros_of : List Planned → List ℕ
zeros_of ps = map (λ plan. 0) ps

pub no_count : (ps : List Planned) (i : ℕ) → slice_index_or (zeros_of ps) i 0 ≡ 0
no_count [] i = refl
no_count (p ∷ ps) zero = refl
no_count (p ∷ ps) (suc i) = no_count ps i

-- the plans of a system and of its configuration
pub compiled_so : (s : SystemParts) (numbers : List ℕ) (p : Plans) (given : List ℕ) (plan : Planned) (operands : List ℕ)
    → IsSound s → p.arities ≡ arities_of s → ArePlans p → ArePlansOf s.rules numbers p
    → IsStart (arities_of s) (length given) plan operands → StandsForNet (arities_of s) given s.config plan operands
    → ((x : ℕ) → (occurrences x (configuration_names s.config) ≡ 1) ↔ Contains given x) → AreCompiled s.rules numbers p s.config given plan operands
compiled_so s numbers p given plan operands sound arities plans of_rules start stands are =
    let count : length (arities_of s) ≡ length s.rules.symbols = length-map s.rules.symbols (λ x. x.arity) in
    record {
      plans = plans;
      of_rules = of_rules;
      few = omega (arith, ap (length {A = ℕ}) arities, count, sound.few);
      is_plan = transport (λ (a : List ℕ). IsPlan a (length given) plan) (sym arities) start.plan;
      stands = transport (λ (a : List ℕ). StandsForNet a given s.config plan operands) (sym arities) stands;
      free = given_found given s.config are;
    }

-- where a machine stops that has run from a beginning and holds this, within bounds, and what the stop says
unfoldable pub come_from : (s : SystemParts) (bounds : Bounds) (numbers : List ℕ) (p : Plans) (given : List ℕ) (plan : Planned) (operands : List ℕ) (old m : Net) (end : End)
    → IsSound s → p.arities ≡ arities_of s → StandsForNet (arities_of s) given s.config plan operands
    → AreCompiled s.rules numbers p s.config given plan operands
    → IsBegun p (length given) plan operands old → (ran : Ran p old m) → Holds s.rules p s.config given (map (rule_number numbers) ran.fired) m
    → m.interactions ≤ bounds.steps → StopsBy bounds p m end → AllByRecursion IsPair m.pending
    → (by_rule : List ℕ) → IsSummed (length s.rules.rules) numbers m.counts by_rule → length numbers ≡ length p.plans → m.interactions < 2 ^ 64
    → HasCome s bounds given by_rule m end
come_from s bounds numbers p given plan operands old m end sound arities stands compiled begun ran held few_made ended pairs by_rule summed numbered low =
    let many = length-map ran.fired (rule_number numbers) in
    let known = known_plans p (pieces old) (pieces m) ran.fired (ran_steps p old m ran) in
    let zeros : (i : ℕ) → slice_index_or old.counts i 0 ≡ 0 = (λ i. ap (λ (l : List ℕ). slice_index_or l i 0) begun.counts ∙ no_count p.plans i) in
    let plans_count : length old.counts ≡ length p.plans = ap (length {A = ℕ}) begun.counts ∙ length-map p.plans (λ plan. 0) in
    let by_rules = (λ (i : ℕ). summed_told i numbers m.counts ran.fired (transport (λ (n : ℕ). AllByRecursion (λ k. k < n) ran.fired) (sym numbered) known)
    (λ k there. let before = zeros k in let each = ran.counts.each k (omega (arith, there, numbered, plans_count)) in omega (arith, before, each))) in
    let few = (λ (i : ℕ). count_by-le-length (λ j. j == i) (map (rule_number numbers) ran.fired)) in
    record {
      sound = sound;
      below = all_low given stands.names s.config.next (2 ^ 62) sound.next stands.below;
      plans = p;
      rule_numbers = numbers;
      plan = plan;
      operands = operands;
      compiled = compiled;
      arities = arities;
      own_arities = ran.arities ∙ begun.arities ∙ arities;
      pairs = pairs;
      fired = map (rule_number numbers) ran.fired;
      held = held;
      counted = omega (arith, ran.counted, begun.none, many);
      counts = record {
        all = summed.all;
        each = (λ i there. let told = by_rules i in summed.each i there (omega (arith, told, few i)) ∙ told);
      };
      within = few_made;
      aside = transport (AllByRecursion (IsStuck p)) (sym (ran.aside ∙ ap (λ es. es ++ ran.more) begun.aside)) ran.stuck;
      ended = ended;
    }

pub stopped_so : LawOfReached → (s : SystemParts) (bounds : Bounds) (numbers : List ℕ) (p : Plans) (given : List ℕ) (plan : Planned) (operands : List ℕ) (old m : Net) (end : End)
    → IsSound s → p.arities ≡ arities_of s → ArePlans p → ArePlansOf s.rules numbers p
    → IsStart (arities_of s) (length given) plan operands → StandsForNet (arities_of s) given s.config plan operands
    → ((x : ℕ) → (occurrences x (configuration_names s.config) ≡ 1) ↔ Contains given x)
    → IsBegun p (length given) plan operands old → Ran p old m → RunsOn p bounds.steps end old m → AllByRecursion IsPair m.pending
    → (by_rule : List ℕ) → IsSummed (length s.rules.rules) numbers m.counts by_rule → length numbers ≡ length p.plans → m.interactions < 2 ^ 64
    → HasCome s bounds given by_rule m end
stopped_so law s bounds numbers p given plan operands old m end sound arities plans of_rules start stands are begun ran runs pairs by_rule summed numbered low =
    let compiled = compiled_so s numbers p given plan operands sound arities plans of_rules start stands are in
    let run : HasRun p (length given) plan operands m = record {
      first = old;
      starts = begun.starts;
      separate = begun.separate;
      aside = begun.aside;
      ran = ran;
    } in
    come_from s bounds numbers p given plan operands old m end sound arities stands compiled begun ran
    (law s.rules numbers p s.config given plan operands m sound.rules sound.over sound.names compiled run)
    (omega (arith, runs.within, begun.none)) (by_end bounds bounds.steps p old m end (omega (arith, begun.none)) runs) pairs by_rule summed numbered low
