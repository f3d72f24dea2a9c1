-- Lemmas: what a machine holds that has all that parts had, and has run since.
use Rattle.std.proofs.Common.{◌++◌, ◌==◌, ◌∙◌, ◌∷◌, ◌≡◌, ℕ, List, [], arith, cond, length, map, refl, slice_index_or, subst as transport, sym}
use Rattle.std.proofs.lemmas.List.{length-append, map-append}
use Rattle.std.proofs.lemmas.List.Sums.{sum_by-append, sum_by-cons}
use Rattle.std.specs.Prelude.{IsTrue}
use Rattle.ic_arena.specs.declared.word.Word.{Word}
use Rattle.ic_machine.specs.Net.{Net, pieces}
use Rattle.ic_machine.specs.Plan.{ArePlans, Plans}
use Rattle.ic_machine.specs.Runs.{Ran}
use Rattle.ic_machine.specs.Steps.{Steps}
use Rattle.ic_machine.specs.lemmas.RunsOn.{ran_steps}
use Rattle.ic_meaning.specs.Nets.{AreNetPieces, net_of}
use Rattle.ic_meaning.specs.Plans.{ArePlansOf, rule_number}
use Rattle.ic_meaning.specs.Words.{Numbers}
use Rattle.ic_reaching.specs.Reaching.{Reaches}
use Rattle.ic_round.specs.Naming.{HasNames}
use Rattle.ic_rules.specs.RuleSet.{IsRuleSet, Rules}
use Rattle.ic_term.specs.Configuration.{Configuration}
use Rattle.ic_term.specs.Symbol.{is_over}
use Rattle.ic_workers.proofs.Given.{StepLaws}
use Rattle.ic_workers.proofs.Known.{known_both, known_plans}
use Rattle.ic_workers.proofs.Led.{come_led, given_on}
use Rattle.ic_workers.proofs.Whole.{whole_holds}
use Rattle.ic_workers.specs.inner.HandsOn.{IsAllOf}
use Rattle.ic_in_place.specs.Holding.{AreGiven}
use Rattle.ic_workers.specs.Parts.{Hold, Part}
use Rattle.ic_workers.specs.inner.Sent.{HasAll}

-- What parts had that held the configuration, one machine has.
pub all_has : StepLaws → (rs : Rules) (numbers : List ℕ) (p : Plans) (c : Configuration) (given : List ℕ) (first : Part) (m : Net)
    → IsRuleSet rs → IsTrue (is_over rs.symbols c) → HasNames c → ArePlans p → ArePlansOf rs numbers p → AreGiven given c
    → Hold rs p c given [] (first ∷ []) → first.net.interactions ≡ 0 → ((i : ℕ) → slice_index_or first.net.counts i 0 ≡ 0)
    → length first.net.counts ≡ length p.plans
    → IsAllOf p (first ∷ []) m → HasAll rs numbers p c given m
all_has laws rs numbers p c given first m set over named plans of_rules free held none empty counted all =
    let led = come_led laws rs numbers p c given [] (first ∷ []) (all.part ∷ []) set over named plans of_rules free held (counted, tt)
    all.come in
    let holds = whole_holds laws rs p c given (map (rule_number numbers) led.fired) all.part set over named free led.hold in
    transport (HasAll rs numbers p c given) all.is (record {
      fired = led.fired;
      holds = holds;
      made = (let so_far = led.made in
          let one = sum_by-cons (λ (q : Part). q.net.interactions) all.part [] in
          let two = sum_by-cons (λ (q : Part). q.net.interactions) first [] in
          omega (arith, so_far, one, two, none));
      known = led.known;
      counts = λ i low. (let so_far = led.counts i low in
          let one = sum_by-cons (λ (q : Part). slice_index_or q.net.counts i 0) all.part [] in
          let two = sum_by-cons (λ (q : Part). slice_index_or q.net.counts i 0) first [] in
          let nothing_yet = empty i in
          omega (arith, so_far, one, two, nothing_yet));
      counted = led.counted.0;
    })

-- It does after it has run.
pub ran_has : StepLaws → (rs : Rules) (numbers : List ℕ) (p : Plans) (c : Configuration) (given : List ℕ) (m n : Net)
    → IsRuleSet rs → IsTrue (is_over rs.symbols c) → HasNames c → ArePlans p → ArePlansOf rs numbers p → AreGiven given c
    → (has : HasAll rs numbers p c given m) → (run : Ran p m n) → (now : HasAll rs numbers p c given n) × (now.fired ≡ has.fired ++ run.fired)
ran_has laws rs numbers p c given m n set over named plans of_rules free has ran =
    let held = has.holds in
    let numbering : Numbers = held.numbers in
    let steps : Steps p ran.fired (pieces m) (pieces n) = ran_steps p m n ran in
    let are : AreNetPieces numbering.arities m.interface (pieces m) =
    transport (λ (l : List ℕ). AreNetPieces l m.interface (pieces m)) (sym held.arities) held.are_pieces in
    let more : List ℕ = has.fired ++ ran.fired in
    let fired_are : map (rule_number numbers) has.fired ++ map (rule_number numbers) ran.fired ≡ map (rule_number numbers) more =
    sym (map-append (rule_number numbers) has.fired ran.fired) in
    let reached_old : Reaches rs.rules c (net_of numbering m.interface (pieces n)) (map (rule_number numbers) has.fired ++ map (rule_number numbers) ran.fired) =
    laws.reached rs numbers p numbering c m.interface ran.fired (pieces m) (pieces n) (map (rule_number numbers) has.fired) set over named plans of_rules held.sound held.arities
    are held.reached steps in
    let d : Configuration = net_of numbering n.interface (pieces n) in
    let reached : Reaches rs.rules c d (map (rule_number numbers) more) =
    transport (λ (i : List Word). Reaches rs.rules c (net_of numbering i (pieces n)) (map (rule_number numbers) more)) (sym ran.interface)
    (transport (λ (l : List ℕ). Reaches rs.rules c (net_of numbering m.interface (pieces n)) l) fired_are reached_old) in (
      record {
        fired = more;
        holds = record {
          numbers = numbering;
          sound = held.sound;
          arities = held.arities;
          names = held.names;
          are_pieces = transport (λ (i : List Word). AreNetPieces p.arities i (pieces n)) (sym ran.interface)
              (laws.kept p m.interface ran.fired (pieces m) (pieces n) plans held.are_pieces steps);
          has_names = laws.names rs.rules c d (map (rule_number numbers) more) reached;
          reached = reached;
          free = given_on laws rs c d given (map (rule_number numbers) more) set over named free reached;
        };
        made = (let so_far = has.made in let here = ran.counted in let both = length-append has.fired ran.fired in omega (arith, so_far, here, both));
        known = known_both p has.fired ran.fired has.known (known_plans p (pieces m) (pieces n) ran.fired steps);
        counts = λ i low. (let so_far = has.counts i low in
            let long = has.counted in
            let here = ran.counts.each i (omega (arith, low, long)) in
            let both = sum_by-append (λ (j : ℕ). cond {A = ℕ} (j == i) 1 0) has.fired ran.fired in
            omega (arith, so_far, here, both));
        counted = ran.counts.all ∙ has.counted;
      },
      refl,
    )
