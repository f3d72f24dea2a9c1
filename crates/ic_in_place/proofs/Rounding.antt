-- Lemmas: a machine that has made rounds of a system.
use Rattle.std.proofs.Common.{◌≡◌, ℕ, suc, ◌<◌, ◌≤◌, ◌^◌, List, [], length, map, refl, ap, arith}
use Rattle.std.specs.List.{AllByRecursion}
use Rattle.std.specs.Prelude.{◌↔◌, Contains, IsTrue}
use Rattle.ic_term.specs.Configuration.{Configuration, configuration_names, occurrences}
use Rattle.ic_term.specs.Symbol.{is_over}
use Rattle.ic_rules.specs.RuleSet.{Rules, IsRuleSet}
use Rattle.ic_round.specs.Naming.{HasNames}
use Rattle.ic_round.specs.Rounds.{iterate}
use Rattle.ic_rules.specs.System.{SystemParts}
use Rattle.ic_machine.specs.Net.{Net, IsPair}
use Rattle.ic_machine.specs.Plan.{Planned, Plans, ArePlans}
use Rattle.ic_machine.specs.Runs.{IsStart}
use Rattle.ic_meaning.specs.Plans.{ArePlansOf, StandsForNet, rule_number}
use Rattle.ic_meaning.specs.First.{LinksPairsFirst}
use Rattle.ic_meaning.specs.Generations.{FireAsRounds}
use Rattle.ic_in_place.specs.declared.running.Bounds.{Bounds}
use Rattle.ic_in_place.specs.declared.running.End.{End}
use Rattle.ic_in_place.specs.declared.running.End.TheVariants.{Quiet, Steps, Nodes, Limit, Memory}
use Rattle.ic_in_place.specs.Holding.{AreCompiled, Holds, IsNetOf}
use Rattle.ic_in_place.specs.Rounds.{EndsAfter, HasRounded}
use Rattle.ic_in_place.specs.Stopping.{arities_of, IsBegun, IsSound, StopsBy}
use Rattle.ic_in_place.specs.Summing.{IsSummed}
use Rattle.ic_in_place.specs.Told.{RoundOver}
use Rattle.ic_in_place.proofs.Stopping.{come_from, compiled_so}

-- bounds of interactions by which rounds end so after so many
bounds_at : End → (nodes interactions : ℕ) → Bounds
bounds_at Quiet nodes n = record { steps = n; nodes = nodes }
bounds_at Steps nodes n = record { steps = n; nodes = nodes }
bounds_at Nodes nodes n = record { steps = suc n; nodes = nodes }
bounds_at Limit nodes n = record { steps = suc n; nodes = nodes }
bounds_at Memory nodes n = record { steps = suc n; nodes = nodes }

few_at : (end : End) (nodes n : ℕ) → n ≤ (bounds_at end nodes n).steps
unfolding bounds_at
few_at Quiet nodes n = omega arith
few_at Steps nodes n = omega arith
few_at Nodes nodes n = omega arith
few_at Limit nodes n = omega arith
few_at Memory nodes n = omega arith

stops_at : (p : Plans) (pairs most rounds nodes : ℕ) (end : End) (first m : Net) → EndsAfter p pairs most rounds end first m
    → StopsBy (bounds_at end nodes m.interactions) p m end
unfolding bounds_at
stops_at p pairs most rounds nodes Quiet first m ends = ends.quiet refl
stops_at p pairs most rounds nodes Steps first m ends = (refl, ends.more refl)
stops_at p pairs most rounds nodes Nodes first m ends = omega arith
stops_at p pairs most rounds nodes Limit first m ends = omega arith
stops_at p pairs most rounds nodes Memory first m ends = tt

-- what the law of rounds says
abbrev pub LawOfRounded : Type 0
LawOfRounded = (rs : Rules) (numbers : List ℕ) (p : Plans) (c : Configuration) (given : List ℕ) (plan : Planned) (operands : List ℕ) (pairs most rounds : ℕ) (end : End) (first m : Net)
    → IsRuleSet rs → IsTrue (is_over rs.symbols c) → HasNames c → AreCompiled rs numbers p c given plan operands
    → IsBegun p (length given) plan operands first → LinksPairsFirst p.arities (length given) plan pairs → (ends : EndsAfter p pairs most rounds end first m)
    → (held : Holds rs p c given (map (rule_number numbers) ends.ran.fired) m) × (ends.since.fired ≡ [] → IsNetOf held.numbers m (iterate rs.rules rounds c))
    × FireAsRounds rs.rules numbers ends.made c

pub rounded_so : LawOfRounded → (s : SystemParts) (most rounds nodes : ℕ) (numbers : List ℕ) (p : Plans) (given : List ℕ) (plan : Planned) (operands : List ℕ) (pairs : ℕ)
    (old m : Net) (end : End) → IsSound s → p.arities ≡ arities_of s → ArePlans p → ArePlansOf s.rules numbers p
    → IsStart (arities_of s) (length given) plan operands → StandsForNet (arities_of s) given s.config plan operands
    → ((x : ℕ) → (occurrences x (configuration_names s.config) ≡ 1) ↔ Contains given x) → LinksPairsFirst p.arities (length given) plan pairs
    → IsBegun p (length given) plan operands old → (ends : EndsAfter p pairs most rounds end old m) → AllByRecursion IsPair m.pending
    → (by_rule : List ℕ) → IsSummed (length s.rules.rules) numbers m.counts by_rule → length numbers ≡ length p.plans → m.interactions < 2 ^ 64
    → (P : List ℕ → ℕ → List RoundOver → Type 0) → P numbers (length ends.since.fired) ends.told
    → (rounded : HasRounded s most rounds given by_rule m end) × P rounded.come.rule_numbers (length rounded.ends.since.fired) rounded.ends.told
unfolding come_from
rounded_so law s most rounds nodes numbers p given plan operands pairs old m end sound arities plans of_rules start stands are firsts begun ends all_pairs by_rule summed numbered low P holds =
    let compiled = compiled_so s numbers p given plan operands sound arities plans of_rules start stands are in
    let held = law s.rules numbers p s.config given plan operands pairs most rounds end old m sound.rules sound.over sound.names compiled begun firsts ends in (
      record {
        bounds = bounds_at end nodes m.interactions;
        come = come_from s (bounds_at end nodes m.interactions) numbers p given plan operands old m end sound arities stands compiled begun ends.ran held.0
            (few_at end nodes m.interactions) (stops_at p pairs most rounds nodes end old m ends) all_pairs by_rule summed numbered low;
        first = old;
        begun = begun;
        pairs = pairs;
        firsts = firsts;
        ends = ends;
        net = λ over. held.1 (ends.whole over);
        rules = held.2;
        counted = ap (map (rule_number numbers)) ends.all_fired;
        numbered = numbered;
      },
      holds,
    )
