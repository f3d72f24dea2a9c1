-- Lemmas: where a machine stops that has all that parts had.
use Rattle.std.proofs.Common.{◌≡◌, ◌⊎◌, inl, inr, ℕ, zero, suc, ◌<◌, ◌≤◌, ◌==◌, ◌^◌, List, [], ◌∷◌, ◌++◌, Some, count_by, length, map, slice_get, slice_index_or, refl, sym, ap, ◌∙◌, arith, subst as transport}
use Rattle.std.specs.List.{flat_map, AllByRecursion}
use Rattle.std.specs.Prelude.{◌↔◌, Contains}
use Rattle.std.proofs.lemmas.List.{length-map}
use Rattle.std.proofs.lemmas.List.Sums.{count_by-le-length}
use Rattle.ic_term.specs.Configuration.{Configuration, configuration_names, occurrences}
use Rattle.ic_rules.specs.System.{SystemParts}
use Rattle.ic_arena.specs.declared.word.TheConstants.{GIVEN}
use Rattle.ic_machine.specs.Moving.{Ends, worth}
use Rattle.ic_machine.specs.Net.{Net, IsPair, IsStuck}
use Rattle.ic_machine.specs.Plan.{ArePlans, IsPlan, Planned, Plans}
use Rattle.ic_machine.specs.Runs.{IsStart, Ran}
use Rattle.ic_meaning.specs.Plans.{ArePlansOf, StandsForNet, rule_number}
use Rattle.ic_in_place.specs.declared.running.Bounds.{Bounds}
use Rattle.ic_in_place.specs.declared.running.End.{End}
use Rattle.ic_in_place.specs.Counting.{AreCounts}
use Rattle.ic_in_place.specs.Holding.{AreCompiled, AreGiven}
use Rattle.ic_in_place.specs.Stopping.{arities_of, HasCome, IsBegun, IsSound, StopsBy}
use Rattle.ic_in_place.specs.Summing.{IsSummed}
use Rattle.ic_workers.specs.Parts.{Part}
use Rattle.ic_workers.specs.declared.desk.Desk.{Desk}
use Rattle.ic_workers.specs.inner.HandsOn.{Come, IsAllOf}
use Rattle.ic_workers.specs.inner.Keeping.{parts_at, slot, slots_at}
use Rattle.ic_workers.specs.inner.Sent.{HasAll}
use Rattle.ic_workers.proofs.Begun.{first_part}
use Rattle.ic_workers.proofs.Counted.{summed_told}
use Rattle.ic_workers.proofs.Desks.{new_ends, own_numbers}
use Rattle.ic_workers.proofs.Workings.{come_on}
use Rattle.ic_workers.proofs.Lists.{all_of_both, flat_of_map}

-- ---- how plans were compiled

contained : (xs : List ℕ) (x k : ℕ) → k < length xs → slice_index_or xs k x ≡ x → slice_get xs k ≡ Some x
contained [] x k low is = absurd (omega (arith, low))
contained (y ∷ ys) x zero low is = ap Some is
contained (y ∷ ys) x (suc k) low is = contained ys x k (omega (arith, low)) is

found_within : (xs : List ℕ) (x k : ℕ) → slice_get xs k ≡ Some x → (k < length xs) × (slice_index_or xs k x ≡ x)
found_within [] x k is = cc
found_within (y ∷ ys) x zero is = (omega arith, cc)
found_within (y ∷ ys) x (suc k) is = let later = found_within ys x k is in (omega (arith, later.0), later.1)

-- the names that occur once, as they are found in their list
given_found : (given : List ℕ) (c : Configuration) → ((x : ℕ) → (occurrences x (configuration_names c) ≡ 1) ↔ Contains given x) → AreGiven given c
given_found given c are x = (
  (λ once. let at = (are x).0 once in (at.0, contained given x at.0 at.1 at.2)),
  (λ found. let at = found_within given x found.0 found.1 in (are x).1 (found.0, at.0, at.1)),
)

pub few_so : (s : SystemParts) (p : Plans) → IsSound s → p.arities ≡ arities_of s → length p.arities < GIVEN
few_so s p sound arities =
    let count : length (arities_of s) ≡ length s.rules.symbols = length-map s.rules.symbols (λ x. x.arity) in
    omega (arith, ap (length {A = ℕ}) arities, count, sound.few)

pub compiled_so : (s : SystemParts) (numbers : List ℕ) (p : Plans) (given : List ℕ) (plan : Planned) (operands : List ℕ)
    → IsSound s → p.arities ≡ arities_of s → ArePlans p → ArePlansOf s.rules numbers p → IsStart (arities_of s) (length given) plan operands
    → StandsForNet (arities_of s) given s.config plan operands → ((x : ℕ) → (occurrences x (configuration_names s.config) ≡ 1) ↔ Contains given x)
    → AreCompiled s.rules numbers p s.config given plan operands
compiled_so s numbers p given plan operands sound arities plans of_rules start stands are = record {
  plans = plans;
  of_rules = of_rules;
  few = few_so s p sound arities;
  is_plan = transport (λ (a : List ℕ). IsPlan a (length given) plan) (sym arities) start.plan;
  stands = transport (λ (a : List ℕ). StandsForNet a given s.config plan operands) (sym arities) stands;
  free = given_found given s.config are;
}

-- ---- the first part

abbrev zeros_of : List Planned → List ℕ
zeros_of ps = map (λ plan. 0) ps

zeros : (ps : List Planned) (i : ℕ) → slice_index_or (zeros_of ps) i 0 ≡ 0
zeros [] i = refl
zeros (p ∷ ps) zero = refl
zeros (p ∷ ps) (suc i) = zeros ps i

-- nothing has fired where a machine begins
pub no_counts : (p : Plans) (given : ℕ) (plan : Planned) (operands : List ℕ) (m : Net) → IsBegun p given plan operands m
    → (i : ℕ) → slice_index_or m.counts i 0 ≡ 0
no_counts p given plan operands m begun i = ap (λ (l : List ℕ). slice_index_or l i 0) begun.counts ∙ zeros p.plans i

pub first_worth : (x : ℕ) → (worth x (new_ends 0) ≡ 0) ⊎ (worth x (new_ends 0) ≡ 2)
first_worth x = elim (own_numbers 0 x (omega arith)) [
  | inl none ↦ inl none
  | inr its ↦ inr its.0
]

-- What a machine has of all parts to which those of a desk came, it has of the part that the desk began with.
pub all_of_first : (p : Plans) (d e : Desk) (m n : Net) (b : Ends) → slots_at d ≡ (first_part m b ∷ []) ∷ [] → Come p (parts_at d) (parts_at e)
    → IsAllOf p (parts_at e) n → IsAllOf p (first_part m b ∷ []) n
all_of_first p d e m n b slots come all =
    let parts : parts_at d ≡ first_part m b ∷ [] = sym (flat_of_map slot d.parts.items) ∙ ap (flat_map (λ (qs : List Part). qs)) slots in
    record {
      part = all.part;
      is = all.is;
      come = transport (λ (qs : List Part). Come p qs (all.part ∷ [])) parts (come_on p (parts_at d) (parts_at e) (all.part ∷ []) come all.come);
    }

-- ---- the last run

all_low : (xs ys : List ℕ) (next bound : ℕ) → next ≤ bound → AllByRecursion (λ x. x < next) (xs ++ ys) → AllByRecursion (λ x. x < bound) xs
all_low [] ys next bound low all = tt
all_low (x ∷ xs) ys next bound low all = (omega (arith, low, all.0), all_low xs ys next bound low all.1)

-- rules fired as often as is summed
pub counts_so : (rules : ℕ) (numbers counts by_rule fired : List ℕ) → IsSummed rules numbers counts by_rule → AllByRecursion (λ i. i < length numbers) fired
    → ((i : ℕ) → i < length numbers → slice_index_or counts i 0 ≡ count_by (λ j. j == i) fired) → length fired < 2 ^ 64
    → AreCounts rules (map (rule_number numbers) fired) by_rule
counts_so rules numbers counts by_rule fired summed known each low = record {
  all = summed.all;
  each = λ i there.
      let told = summed_told i numbers counts fired known each in
      let few = count_by-le-length (λ j. j == i) (map (rule_number numbers) fired) in
      let many = length-map fired (rule_number numbers) in
      summed.each i there (omega (arith, told, few, many, low)) ∙ told;
}

-- A machine has all that parts had, and has run on from there until it stopped.
pub come_so : (s : SystemParts) (bounds : Bounds) (numbers : List ℕ) (p : Plans) (given : List ℕ) (plan : Planned) (operands : List ℕ) (m n : Net) (end : End)
    → IsSound s → p.arities ≡ arities_of s → AreCompiled s.rules numbers p s.config given plan operands → m.arities ≡ p.arities → AllByRecursion (IsStuck p) m.aside
    → (now : HasAll s.rules numbers p s.config given n) → Ran p m n → n.interactions ≤ bounds.steps → AllByRecursion IsPair n.pending → StopsBy bounds p n end
    → (by_rule : List ℕ) → IsSummed (length s.rules.rules) numbers n.counts by_rule → length numbers ≡ length p.plans → n.interactions < 2 ^ 64
    → HasCome s bounds given by_rule n end
come_so s bounds numbers p given plan operands m n end sound arities compiled own stuck now ran within pairs ended by_rule summed numbered low =
    let many = length-map now.fired (rule_number numbers) in
    let known : AllByRecursion (λ i. i < length numbers) now.fired =
    transport (λ (k : ℕ). AllByRecursion (λ i. i < k) now.fired) (sym numbered) now.known in
    let made = now.made in
    record {
      sound = sound;
      below = all_low given compiled.stands.names s.config.next (2 ^ 62) sound.next compiled.stands.below;
      plans = p;
      rule_numbers = numbers;
      plan = plan;
      operands = operands;
      compiled = compiled;
      arities = arities;
      own_arities = ran.arities ∙ (own ∙ arities);
      fired = map (rule_number numbers) now.fired;
      held = now.holds;
      counted = omega (arith, made, many);
      counts = counts_so (length s.rules.rules) numbers n.counts by_rule now.fired summed known (λ k there. now.counts k (omega (arith, there, numbered)))
          (omega (arith, made, low));
      within = within;
      pairs = pairs;
      aside = transport (AllByRecursion (IsStuck p)) (sym ran.aside) (all_of_both (IsStuck p) m.aside ran.more stuck ran.stuck);
      ended = ended;
    }
