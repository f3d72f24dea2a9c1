-- Lemmas: a round keeps configurations over their symbols, and is what the results of a plan's
-- works lead to.
use Rattle.std.proofs.Common.{◌≡◌, ◌≤◌, ℕ, List, Bool, true, false, Result, Ok, Err, map, nat_le, cond, refl, sym, ap, ◌∙◌, arith, subst}
use Rattle.std.proofs.lemmas.Grind.{common_steps}
use Rattle.std.specs.List.{AllByRecursion, list_all}
use Rattle.std.specs.List.Sorted.{IsPermutation}
use Rattle.ic_term.specs.Symbol.{is_over, is_tree_over, is_pair_over}
use Rattle.ic_term.specs.Configuration.{Configuration, IsConfiguration, configuration_nodes}
use Rattle.ic_term.specs.declared.limits.TheConstants.{MAX_NODES, MAX_NEXT}
use Rattle.ic_rules.specs.Rule.{Rule}
use Rattle.ic_rules.specs.RuleSet.{Rules, IsRuleSet}
use Rattle.ic_round.specs.Firing.{fired}
use Rattle.ic_settle.specs.Settling.{settled}
use Rattle.ic_round.specs.Rounds.{round, fits, is_small, names_suffice, unless_unfit}
use Rattle.ic_round.specs.Works.{PlainFired, result_of}
use Rattle.ic_round.specs.Gathering.{gathered}
use Rattle.ic_round.specs.Plans.{PlainPlan, planned}
use Rattle.ic_round.specs.Completing.{Completes}
use Rattle.ic_round.specs.declared.gather_fault.GatherFault.{GatherFault}
use Rattle.ic_round.specs.declared.round_fault.RoundFault.{RoundFault}
use Rattle.ic_round.specs.declared.round_fault.RoundFault.TheVariants.{Overgrown, NamesOut}
use Rattle.std.proofs.lemmas.Bool.{and_parts}
use Rattle.ic_round.specs.lemmas.SoundRules.{HasSoundRule, sound_rules}
use Rattle.ic_round.specs.lemmas.FiredNames.{fired_below, fired_twice}
use Rattle.ic_round.specs.lemmas.OverSymbols.{fired_over}
use Rattle.ic_round.specs.lemmas.AnyOrder.{any_order}
use Rattle.ic_round.specs.lemmas.SettledLemmas.{settled_is, settled_over}

-- ---- firing

pub sound_over : (rs : Rules) (c : Configuration) → IsRuleSet rs → is_over rs.symbols c ≡ true → AllByRecursion (HasSoundRule rs.rules) c.equations
sound_over rs c set over =
    sound_rules rs.symbols rs.rules c.equations set.fitting set.each (and_parts (list_all (is_tree_over rs.symbols) c.interface) (list_all (is_pair_over rs.symbols) c.equations) over).1

pub fired_is : (rs : List Rule) (c : Configuration) → AllByRecursion (HasSoundRule rs) c.equations → IsConfiguration c
    → configuration_nodes (fired rs c) ≤ MAX_NODES → (fired rs c).next ≤ MAX_NEXT → IsConfiguration (fired rs c)
fired_is rs c sound is small low = record {
  nodes = small;
  interface = is.interface;
  next = low;
  below = fired_below rs c sound is;
  twice = fired_twice rs c sound is;
}

at_most : (m n : ℕ) → nat_le m n ≡ true → m ≤ n
at_most m n e = grind (arith, common_steps, e)

pub fired_is_configuration : (rs : Rules) (c : Configuration) → IsRuleSet rs → IsConfiguration c → is_over rs.symbols c ≡ true
    → fits rs.rules c ≡ true → IsConfiguration (fired rs.rules c)
fired_is_configuration rs c set valid over fit =
    let both = and_parts (is_small rs.rules c) (names_suffice rs.rules c) fit in
    fired_is rs.rules c (sound_over rs c set over) valid (at_most _ MAX_NODES both.0) (at_most _ MAX_NEXT both.1)

pub fired_is_over : (rs : Rules) (c : Configuration) → IsRuleSet rs → is_over rs.symbols c ≡ true → is_over rs.symbols (fired rs.rules c) ≡ true
fired_is_over rs c set over = fired_over rs.symbols rs.rules c set.fitting over

-- ---- the round

pub round_is_configuration : (rs : Rules) (c : Configuration) → IsRuleSet rs → IsConfiguration c → is_over rs.symbols c ≡ true
    → fits rs.rules c ≡ true → IsConfiguration (round rs.rules c)
round_is_configuration rs c set valid over fit = settled_is (fired rs.rules c) (fired_is_configuration rs c set valid over fit)

pub round_is_over : (rs : Rules) (c : Configuration) → IsRuleSet rs → is_over rs.symbols c ≡ true → is_over rs.symbols (round rs.rules c) ≡ true
round_is_over rs c set over = settled_over rs.symbols (fired rs.rules c) (fired_is_over rs c set over)

-- ---- from a plan to the round

abbrev answer_if : Bool → Bool → PlainPlan → Result PlainPlan RoundFault
answer_if small named plan = cond small (cond named (Ok plan) (Err NamesOut)) (Err Overgrown)

fits_where : (small named : Bool) (a b : PlainPlan) → Ok a ≡ answer_if small named b → (a ≡ b) × ((small ≡ true) × (named ≡ true))
fits_where true true a b e = (cc, (refl, refl))
fits_where true false a b e = cc
fits_where false named a b e = cc

same_ok : (r : Result Configuration GatherFault) (a b : Configuration) → r ≡ Ok a → r ≡ Ok b → a ≡ b
same_ok r a b e f = let both = sym e ∙ f in cc

-- From a plan, by results of its works in any order, to what a round answers.
pub plan_completes : (rs : List Rule) (c : Configuration) (plan : PlainPlan) (fs : List PlainFired) → Ok plan ≡ unless_unfit rs c (planned rs c)
    → IsConfiguration (fired rs c) → IsPermutation (map (result_of rs) plan.works) fs → Completes rs c plan.rest fs
plan_completes rs c plan fs answer valid same =
    let fit = fits_where (is_small rs c) (names_suffice rs c) plan (planned rs c) answer in
    let P : PlainPlan → Type 0 = λ q. IsPermutation (map (result_of rs) q.works) fs in
    let gathers = ap (λ (q : PlainPlan). gathered q.rest fs) fit.0 ∙ any_order rs c fs (subst P fit.0 same) in
    let Q : Configuration → Type 0 = IsConfiguration in
    record {
      gathers = gathers;
      valid = λ d e. subst Q (same_ok _ _ _ gathers e) valid;
      settles = λ d e. ap settled (same_ok _ _ _ (sym e) gathers);
      answer = λ d e. rw (fit.1.0, fit.1.1) (ap (λ f. Ok (settled f)) (same_ok _ _ _ (sym e) gathers));
    }
