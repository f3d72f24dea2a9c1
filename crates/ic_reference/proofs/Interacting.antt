-- What is known of an interaction at a place whose equation has a rule.
use Rattle.std.proofs.Common.{◌≡◌, ℕ, ◌+◌, ◌≤◌, ◌<◌, List, ◌∷◌, ◌++◌, Bool, true, false, cond, not, Option, None, Some, IfSome, is_some, Ok, Err, [], slice_get, take, drop, sum_by, nat_le, refl, sym, ap, ◌∙◌, arith, subst}
use Rattle.std.proofs.lemmas.Bool.{and_parts}
use Rattle.std.proofs.lemmas.Grind.{common_steps}
use Rattle.std.proofs.lemmas.List.Sums.{sum_by-append}
use Rattle.std.specs.List.{list_all}
use Rattle.std.specs.Option.{option_map_or}
use Rattle.ic_term.specs.Tree.{Tree, Pair, pair_nodes}
use Rattle.ic_term.specs.Symbol.{is_over, is_tree_over, is_pair_over}
use Rattle.ic_term.specs.Configuration.{Configuration, IsConfiguration, configuration_nodes, nodes_in}
use Rattle.ic_term.specs.declared.limits.TheConstants.{MAX_NODES, MAX_NEXT}
use Rattle.ic_rules.specs.Rule.{Rule}
use Rattle.ic_rules.specs.RuleSet.{Rules, IsRuleSet}
use Rattle.ic_round.specs.Firing.{Active, rule_of_sides, active_pair, products_by, count_of, names_taken, fired_pair}
use Rattle.ic_round.specs.lemmas.Sizes.{fired_nodes}
use Rattle.ic_round.specs.Steps.{Interaction}
use Rattle.ic_round.specs.Works.{suits, work_at}
use Rattle.ic_reference.specs.SingleSteps.{interacted_by, interacted, is_within}
use Rattle.ic_reference.specs.StepAnswers.{stepped_within}
use Rattle.ic_reference.specs.inner.Replacing.{fired_at}
use Rattle.ic_reference.specs.declared.steps.StepFault.TheVariants.{Limit}
use Rattle.ic_settle.specs.lemmas.SubstitutionLaws.{and_both}
use Rattle.ic_settle.specs.lemmas.MiddleLaws.{nodes-middle, over-middle}
use Rattle.ic_round.specs.lemmas.FiredNames.{Fires, fires}
use Rattle.ic_round.specs.lemmas.ActiveRules.{active_by, nodes-any_base}
use Rattle.ic_round.specs.lemmas.SoundRules.{sound_rule}
use Rattle.ic_round.specs.lemmas.NamesLemmas.{replaced_names}
use Rattle.ic_round.specs.lemmas.OverSymbols.{over_pair, over_replaced}
use Rattle.ic_round.specs.lemmas.Planned.{one_suits}
use Rattle.ic_reference.proofs.FiringAt.{fired_pair-active}
use Rattle.ic_reference.proofs.StandsAt.{stands}
use Rattle.ic_reference.proofs.StepLemmas.{interacted-at}

-- ---- equations in the place of one

nodes-replaced : (ts : List Tree) (before out after : List Pair) → nodes_in ts (before ++ (out ++ after)) ≡ nodes_in ts (before ++ after) + sum_by pair_nodes out
nodes-replaced ts before out after =
    rw (sum_by-append pair_nodes before (out ++ after), sum_by-append pair_nodes out after, sum_by-append pair_nodes before after) (omega arith)

-- a configuration stays one
kept : (rs : List Rule) (c : Configuration) (before : List Pair) (p : Pair) (after out : List Pair) (taken : ℕ) → Fires rs c.next p out taken
    → IsConfiguration c → c.equations ≡ before ++ p ∷ after
    → nodes_in c.interface (before ++ (out ++ after)) ≤ MAX_NODES → c.next + taken ≤ MAX_NEXT
    → IsConfiguration (record { interface = c.interface; equations = before ++ (out ++ after); next = c.next + taken })
kept rs c before p after out taken fired valid split small low =
    let named = replaced_names rs c before p after out taken fired split (record { below = valid.below; twice = valid.twice }) in
    record { nodes = small; interface = valid.interface; next = low; below = named.below; twice = named.twice }

-- ---- within the limits or not

test_true : (m n : ℕ) → m ≤ n → nat_le m n ≡ true
test_true m n h = grind (arith, common_steps)

test_false : (m n : ℕ) → n < m → nat_le m n ≡ false
test_false m n h = grind (arith, common_steps)

pub within : (d : Configuration) → configuration_nodes d ≤ MAX_NODES → d.next ≤ MAX_NEXT → is_within d ≡ true
within d small low = and_both (test_true (configuration_nodes d) MAX_NODES small) (test_true d.next MAX_NEXT low)

pub too_large : (d : Configuration) → MAX_NODES < configuration_nodes d → is_within d ≡ false
too_large d h = rw (test_false (configuration_nodes d) MAX_NODES h) refl

pub too_high : (d : Configuration) → MAX_NEXT < d.next → is_within d ≡ false
too_high d h = at (nat_le (configuration_nodes d) MAX_NODES) refl
  where
    at : (b : Bool) → nat_le (configuration_nodes d) MAX_NODES ≡ b → is_within d ≡ false
    at true e = rw (e, test_false d.next MAX_NEXT h) refl
    at false e = rw e refl

-- ---- the step

pub record CanInteract (rs : Rules) (c : Configuration) (place : ℕ) (p : Pair) : Type 0 where
  pub active : Active
  pub is : active_pair rs.rules p ≡ Some active
  pub found : interacted rs.rules c place ≡ Some (interacted_by rs.rules c place active)
  pub step : Interaction rs.rules c (interacted_by rs.rules c place active) place
  pub nodes : configuration_nodes (interacted_by rs.rules c place active) + pair_nodes p ≡ configuration_nodes c + fired_nodes rs.rules p
  pub next : (interacted_by rs.rules c place active).next ≡ c.next + names_taken rs.rules p
  pub valid : configuration_nodes (interacted_by rs.rules c place active) ≤ MAX_NODES → c.next + names_taken rs.rules p ≤ MAX_NEXT
      → IsConfiguration (interacted_by rs.rules c place active)
  pub over : is_over rs.symbols (interacted_by rs.rules c place active) ≡ true
  pub suits : c.next + names_taken rs.rules p ≤ MAX_NEXT → suits rs.rules (work_at place c.next active) ≡ true

-- the equation at a place is over the symbols and small
pub small_there : (c : Configuration) (place : ℕ) (p : Pair) → slice_get c.equations place ≡ Some p → pair_nodes p ≤ configuration_nodes c
small_there c place p there =
    let before = take place c.equations in
    let after = drop (place + 1) c.equations in
    let all = ap (nodes_in c.interface) (stands c.equations place p there).parts in
    let here = nodes-middle c.interface before p after in
    omega arith

pub over_there : (rs : Rules) (c : Configuration) (place : ℕ) (p : Pair) → slice_get c.equations place ≡ Some p → is_over rs.symbols c ≡ true
    → (list_all (is_pair_over rs.symbols) (take place c.equations ++ drop (place + 1) c.equations) ≡ true) × (is_pair_over rs.symbols p ≡ true)
over_there rs c place p there over =
    let parts = and_parts (list_all (is_tree_over rs.symbols) c.interface) (list_all (is_pair_over rs.symbols) c.equations) over in
    let split = ap (list_all (is_pair_over rs.symbols)) (sym (stands c.equations place p there).parts) in
    over-middle rs.symbols (take place c.equations) p (drop (place + 1) c.equations) (split ∙ parts.1)

pub can_interact : (rs : Rules) (c : Configuration) (place : ℕ) (p : Pair) (i : ℕ) (turned : Bool) → IsRuleSet rs → IsConfiguration c → is_over rs.symbols c ≡ true
    → slice_get c.equations place ≡ Some p → rule_of_sides rs.rules p.left p.right ≡ Some (i, turned) → CanInteract rs c place p
can_interact rs c place p i turned set valid over there found =
    let a = active_by rs.rules p i turned found in
    let before = take place c.equations in
    let after = drop (place + 1) c.equations in
    let out = products_by rs.rules c.next a.0 in
    let split = (stands c.equations place p there).parts in
    let overs = over_there rs c place p there over in
    let sound = sound_rule rs.symbols rs.rules p set.fitting set.each overs.1 in
    let is : active_pair rs.rules p ≡ Some a.0 = a.1.0 in
    let taken : names_taken rs.rules p ≡ count_of rs.rules a.0.rule = ap (λ o. option_map_or (λ b. count_of rs.rules b.rule) o 0) is in
    let pieces : fired_pair rs.rules c.next p ≡ out = fired_pair-active rs.rules c.next p a.0 is in
    let both = interacted-at rs.rules c place p a.0 there is in
    let fired : Fires rs.rules c.next p out (count_of rs.rules a.0.rule) =
    subst (λ (x : List Pair × ℕ). Fires rs.rules c.next p x.0 x.1) (λ j. (pieces j, taken j)) (fires rs.rules c.next p sound) in
    record {
      active = a.0;
      is = is;
      found = both.0;
      step = both.1;
      nodes =
          let all = ap (nodes_in c.interface) split in
          let here = nodes-middle c.interface before p after in
          let now = nodes-replaced c.interface before out after in
          let count = ap (sum_by pair_nodes) (sym pieces) ∙ nodes-any_base rs.rules p c.next in
          omega arith;
      next = ap (λ n. c.next + n) (sym taken);
      valid = λ small low. kept rs.rules c before p after out (count_of rs.rules a.0.rule) fired valid split small (omega arith);
      over =
          let parts = and_parts (list_all (is_tree_over rs.symbols) c.interface) (list_all (is_pair_over rs.symbols) c.equations) over in
          let more = ap (list_all (is_pair_over rs.symbols)) (sym pieces) ∙ over_pair rs.symbols rs.rules c.next p set.fitting overs.1 (active_pair rs.rules p) refl in
          and_both parts.0 (over_replaced rs.symbols before out after overs.0 more);
      suits = λ low. one_suits rs.rules place c.next p a.0 sound is (omega arith);
    }

-- an equation whose sides have a rule, as the program finds out
pub interacts : (rs : Rules) (c : Configuration) (place : ℕ) (p : Pair) (found : Option (ℕ × Bool)) (none : Bool) → is_some found ≡ not none → none ≡ false
    → IfSome found (λ _. IsRuleSet rs) → found ≡ rule_of_sides rs.rules p.left p.right → IsConfiguration c → is_over rs.symbols c ≡ true
    → slice_get c.equations place ≡ Some p → CanInteract rs c place p
interacts rs c place p None none tested there_is set rule valid over there = let bad : false ≡ true = tested ∙ ap not there_is in cc
interacts rs c place p (Some (i, turned)) none tested there_is set rule valid over there = can_interact rs c place p i turned set valid over there (sym rule)

-- the parts that the program puts together are the configuration after the step
pub interacted-made : (rs : Rules) (c : Configuration) (place : ℕ) (p : Pair) (can : CanInteract rs c place p) (ts : List Tree) (es all : List Pair) (base n : ℕ)
    → slice_get c.equations place ≡ Some p → ts ≡ c.interface → es ≡ c.equations → base ≡ c.next → all ≡ fired_at rs.rules base es place
    → n ≡ c.next + names_taken rs.rules p → record { interface = ts; equations = all; next = n } ≡ interacted_by rs.rules c place can.active
interacted-made rs c place p can ts es all base n there same_terms same_equations same_base whole same_next =
    let before = take place c.equations in
    let after = drop (place + 1) c.equations in
    let here = ap (λ o. before ++ (option_map_or (fired_pair rs.rules c.next) o [] ++ after)) there in
    let out = ap (λ qs. before ++ (qs ++ after)) (fired_pair-active rs.rules c.next p can.active can.is) in
    let equations = whole ∙ (λ j. fired_at rs.rules (same_base j) (same_equations j) place) ∙ here ∙ out in
    let next = same_next ∙ sym can.next in
    λ j. record { interface = same_terms j; equations = equations j; next = next j }

-- its answers
pub answer-within : (rs : Rules) (c : Configuration) (place : ℕ) (p : Pair) (can : CanInteract rs c place p) → configuration_nodes (interacted_by rs.rules c place can.active) ≤ MAX_NODES
    → c.next + names_taken rs.rules p ≤ MAX_NEXT → stepped_within (interacted rs.rules c place) ≡ Ok (interacted_by rs.rules c place can.active)
answer-within rs c place p can small low =
    let d = interacted_by rs.rules c place can.active in
    let next = can.next in
    let fits = within d small (omega arith) in
    ap stepped_within can.found ∙ ap (λ b. cond b (Ok d) (Err Limit)) fits

pub answer-limit : (rs : Rules) (c : Configuration) (place : ℕ) (p : Pair) (can : CanInteract rs c place p) → is_within (interacted_by rs.rules c place can.active) ≡ false
    → stepped_within (interacted rs.rules c place) ≡ Err Limit
answer-limit rs c place p can large =
    let d = interacted_by rs.rules c place can.active in
    ap stepped_within can.found ∙ ap (λ b. cond b (Ok d) (Err Limit)) large

pub none_found : (found : Option (ℕ × Bool)) (none : Bool) → is_some found ≡ not none → none ≡ true → found ≡ None
none_found None none tested absent = refl
none_found (Some x) none tested absent = let bad : true ≡ false = tested ∙ ap not absent in cc
