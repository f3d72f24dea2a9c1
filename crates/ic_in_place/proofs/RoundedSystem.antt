-- Lemmas: what is told of a system that was reduced by rounds.
use Rattle.std.proofs.Common.{◌≡◌, ◌⊎◌, inl, inr, ℕ, zero, suc, ◌≤◌, ◌<◌, List, Option, Some, length, arith, subst as transport}
use Rattle.std.specs.Prelude.{IsTrue}
use Rattle.ic_term.specs.Configuration.{Configuration}
use Rattle.ic_term.specs.Symbol.{is_over}
use Rattle.ic_rules.specs.RuleSet.{Rules, IsRuleSet}
use Rattle.ic_rules.specs.System.{SystemParts}
use Rattle.ic_round.specs.Naming.{HasNames}
use Rattle.ic_round.specs.Quiet.{IsQuiet}
use Rattle.ic_round.specs.Rounds.{iterate}
use Rattle.ic_reaching.specs.OneNet.{SameButNext}
use Rattle.ic_reaching.specs.Reaching.{Reaches}
use Rattle.ic_machine.specs.Net.{Net}
use Rattle.ic_in_place.specs.Counting.{TellsNameSteps}
use Rattle.ic_in_place.specs.Holding.{IsNetOf}
use Rattle.ic_in_place.specs.Reducing.{IsPutTogether, IsReached, Writes}
use Rattle.ic_in_place.specs.Rounds.{CountsRounds, GoOn, HasRounded, IsRoundedTo, MayEnd}
use Rattle.ic_in_place.specs.declared.reducing.Reduced.{Reduced}
use Rattle.ic_in_place.specs.declared.running.End.{End}
use Rattle.ic_in_place.specs.declared.running.End.TheVariants.{Quiet, Steps}
use Rattle.ic_in_place.proofs.LineByRounds.{LineLaws, net, same}
use Rattle.ic_in_place.proofs.MadeRounds.{Made, may_cut, may_some, may_within}
use Rattle.ic_in_place.proofs.RoundsEnough.{EnoughLaws, ended_quiet, first, later, quiet, steps, within}
use Rattle.ic_in_place.proofs.RoundsFired.{PartLaw, begun_so, early_so, of_rounds}

-- what is quiet after rounds is the net that was reached
abbrev pub RoundsLaw : Type 0
RoundsLaw = (rs : Rules) (n : ℕ) (c d : Configuration) (fired : List ℕ) → IsRuleSet rs → IsTrue (is_over rs.symbols c) → HasNames c
    → Reaches rs.rules c d fired → IsQuiet rs.rules d → IsQuiet rs.rules (iterate rs.rules n c) → SameButNext d (iterate rs.rules n c)

module _ (lines : LineLaws) (laws : EnoughLaws) (in_rounds : RoundsLaw) (s : SystemParts) (most rounds : ℕ) (answer : Configuration) (end : End) (interactions : ℕ) (by_rule : List ℕ) (told : Option ℕ)
    (e : Made s most rounds answer end interactions by_rule told) where
  needed : (n : ℕ) → n < rounds → IsQuiet s.rules.rules (iterate s.rules.rules n s.config) → ⊥
  needed zero low is = first laws s most rounds answer end interactions by_rule told e (omega (arith, low)) is
  needed (suc n) low is = later laws s most rounds answer end interactions by_rule told e (suc n) (omega arith) low is

  same_net : (end ≡ Quiet) ⊎ (end ≡ Steps) → 1 ≤ most → SameButNext answer (iterate s.rules.rules rounds s.config)
  same_net (inl at) some =
      let sound = e.rounded.come.sound in
      in_rounds s.rules rounds s.config answer e.reached.fired sound.rules sound.over sound.names e.reached.reached
      (ended_quiet laws s most rounds answer end interactions by_rule told e at).0 (quiet laws s most rounds answer end interactions by_rule told e at some)
  same_net (inr at) some =
      let all = (steps laws s most rounds answer end interactions by_rule told e at).0 in
      same lines laws.together s most rounds answer end interactions by_rule told e (inr at) (omega (arith, all, some))

-- what is read back of a machine that has made rounds, by how often each rule fired and by its end
abbrev pub ReadSo : SystemParts → (enough most taken : ℕ) → (given : List ℕ) → Net → Reduced → (by_rule : List ℕ) → End → Type 0
ReadSo s enough most taken given m reduced by_rule end = (rounded : HasRounded s most taken given by_rule m end) × (answer : Configuration)
    × IsReached s rounded.bounds answer reduced.end reduced.interactions reduced.by_rule.items × IsPutTogether answer
    × TellsNameSteps s.rules.rules s.config reduced.interactions (length answer.equations) reduced.end reduced.name_steps
    × Writes s.rules.symbols reduced.words.items reduced.terms reduced.equations answer
    × IsNetOf rounded.come.held.numbers m answer × GoOn (Some enough) taken end (length rounded.ends.since.fired) rounded.ends.told

pub read_so : (s : SystemParts) (enough most taken : ℕ) (given : List ℕ) (m : Net) (reduced : Reduced) (is js : List ℕ) (end last : End) → is ≡ js → end ≡ last
    → ReadSo s enough most taken given m reduced is end → ReadSo s enough most taken given m reduced js last
read_so s enough most taken given m reduced is js end last counts ends read =
    transport (λ (e : End). ReadSo s enough most taken given m reduced js e) ends
    (transport (λ (l : List ℕ). ReadSo s enough most taken given m reduced l end) counts read)

pub rounded_to : LineLaws → EnoughLaws → RoundsLaw → PartLaw → (s : SystemParts) (rounds enough most taken made : ℕ) (given : List ℕ) (m : Net) (reduced : Reduced)
    → MayEnd rounds (Some enough) most reduced.interactions → reduced.interactions ≡ m.interactions → ReadSo s enough most taken given m reduced reduced.by_rule.items reduced.end
    → CountsRounds reduced.end reduced.interactions reduced.name_steps taken made → IsRoundedTo s rounds enough made reduced
rounded_to lines laws in_rounds part s rounds enough most taken made given m reduced may same read count =
    let answer = read.1 in
    let e : Made s most made answer reduced.end reduced.interactions reduced.by_rule.items reduced.name_steps = record {
      given = given;
      machine = m;
      taken = taken;
      rounded = read.0;
      reached = read.2;
      name_steps = read.4;
      net = read.6;
      count = count;
    } in
    record {
      bounds = read.0.bounds;
      answer = answer;
      reached = read.2;
      together = read.3;
      writes = read.5;
      made = record {
        within = omega (
          arith,
          within laws s most made answer reduced.end reduced.interactions reduced.by_rule.items reduced.name_steps e,
          may_within rounds most reduced.interactions (Some enough) may,
        );
        some = λ at one.
            let all = (steps laws s most made answer reduced.end reduced.interactions reduced.by_rule.items reduced.name_steps e at).0 in
            omega (arith, all, may_some rounds most reduced.interactions (Some enough) may one);
        needed = needed lines laws in_rounds s most made answer reduced.end reduced.interactions reduced.by_rule.items reduced.name_steps e;
        net = λ either. net lines laws.together s most made answer reduced.end reduced.interactions reduced.by_rule.items reduced.name_steps e either;
        same = λ either one. same_net lines laws in_rounds s most made answer reduced.end reduced.interactions reduced.by_rule.items reduced.name_steps e either
            (may_some rounds most reduced.interactions (Some enough) may one);
      };
      early = early_so s most made answer reduced.end reduced.interactions reduced.by_rule.items reduced.name_steps e enough read.7;
      begun = begun_so s most made answer reduced.end reduced.interactions reduced.by_rule.items reduced.name_steps e enough read.7 same;
      fired = of_rounds s most made answer reduced.end reduced.interactions reduced.by_rule.items reduced.name_steps e same part;
      name_steps = read.4;
      all = λ at. may_cut rounds most reduced.interactions enough made may (steps laws s most made answer reduced.end reduced.interactions reduced.by_rule.items reduced.name_steps e at).0;
    }
