use Rattle.std.proofs.Common.{ℕ, List, Some, min}
use Rattle.ic_term.specs.Tree.{Tree, Pair, pair_nodes}
use Rattle.ic_rules.specs.RuleSet.{Rules}
use Rattle.ic_reference.specs.inner.Replacing.{fired_at}
use Rattle.std.proofs.Common.{◌≡◌, ◌+◌, ◌≤◌, false, None, Ok, map, length, slice_get, sym, ap, ◌∙◌, subst, arith}
use Rattle.std.proofs.lemmas.List.{length-map}
use Rattle.std.proofs.lemmas.Option.{same_Some}
use Rattle.ic_term.specs.Term.{tree, pair}
use Rattle.ic_term.specs.Symbol.{is_over}
use Rattle.ic_term.specs.Configuration.{Configuration, IsConfiguration, configuration_nodes}
use Rattle.ic_term.specs.declared.limits.TheConstants.{MAX_NODES, MAX_NEXT}
use Rattle.ic_round.specs.Firing.{oriented, active_pair, names_taken}
use Rattle.ic_round.specs.Works.{suits, work_at}
use Rattle.ic_round.specs.Steps.{Interaction}
use Rattle.ic_reference.specs.SingleSteps.{interacted_by, is_within}
use Rattle.ic_reference.specs.inner.Replacing.{IsReady}
use Rattle.ic_reference.proofs.Applying.{pair_at}
use Rattle.ic_reference.proofs.StepLemmas.{interacted-inert, no_interaction}
use Rattle.ic_round.specs.lemmas.Words.{u64_MAX}
use Rattle.ic_reference.proofs.Interacting.{CanInteract, small_there, over_there, too_large, too_high, interacts, interacted-made, answer-within, answer-limit, none_found}
use Rattle.ic_reference.proofs.steps.interact_at.Goals as goal
use Rattle.ic_reference.proofs.steps.interact_at.Goals.{In-Some, After-saturating_add-next, After-from_parts, Joined-then-nodes-gt-MAX_NODES, then-nodes-gt-MAX_NODES-via-then-nodes-gt-MAX_NODES, then-nodes-gt-MAX_NODES-via-else-nodes-gt-MAX_NODES+then-next-gt-MAX_NEXT}

-- the equation at the place
there : (c : In-Some) → slice_get c.args.config.now.equations c.args.place ≡ Some (pair c.in-Some.equation.now)
there c =
    pair_at c.equations.result.now c.args.place c.args.config.now.equations c.in-Some.equation.now c.equations.ensures.equations
    c.in-Some.ensures.lookup.3.0 c.in-Some.ensures.lookup.1

small : (c : In-Some) → pair_nodes (pair c.in-Some.equation.now) ≤ configuration_nodes c.args.config.now
small c = small_there c.args.config.now c.args.place (pair c.in-Some.equation.now) (there c)

pub returns-then-is_none-clause-not_there : goal.returns-then-is_none-clause-not_there
returns-then-is_none-clause-not_there c same =
    let rs = c.args.rules.now.rules in
    let e = c.in-Some.equation.now in
    let at = there (goal.at.returns-then-is_none-clause-not_there c).In-Some in
    let none = none_found c.rule_of.result c.is_none.result c.is_none.ensures c.if-is_none.true in
    let inert : active_pair rs (pair e) ≡ None = ap (oriented (tree e.left) (tree e.right)) (sym c.rule_of.ensures.rule ∙ none) in
    no_interaction rs c.args.config.now c.args.place (interacted-inert rs c.args.config.now c.args.place (pair e) at inert)

pub fired_size_of-size-requires-clause-over : goal.fired_size_of-size-requires-clause-over
fired_size_of-size-requires-clause-over c =
    (over_there c.args.rules.now c.args.config.now c.args.place (pair c.in-Some.equation.now) (there (goal.at.fired_size_of-size-requires-clause-over c).In-Some) c.requires).1

pub fired_size_of-size-requires-clause-small : goal.fired_size_of-size-requires-clause-small
fired_size_of-size-requires-clause-small c =
    omega (arith, small (goal.at.fired_size_of-size-requires-clause-small c).In-Some, c.equations.ensures.sound.nodes)

pub overflow_sub-nodes : goal.overflow_sub-nodes
overflow_sub-nodes c = omega (arith, c.nodes.ensures.nodes, c.nodes-2.ensures, small (goal.at.overflow_sub-nodes c).In-Some)

-- What is known of the interaction and of the size of what comes of it.
record Sized (rs : Rules) (config : Configuration) (place : ℕ) (p : Pair) (nodes next : ℕ) : Type 0 where
  can : CanInteract rs config place p
  here : slice_get config.equations place ≡ Some p
  all_nodes : nodes ≡ min (configuration_nodes (interacted_by rs.rules config place can.active)) u64_MAX
  last : next ≡ min (config.next + names_taken rs.rules p) u64_MAX

sized : (c : After-saturating_add-next)
    → Sized c.args.rules.now c.args.config.now c.args.place (pair c.in-Some.equation.now) c.saturating_add-nodes.result c.saturating_add-next.result
sized c =
    let at = pair_at c.equations.result.now c.args.place c.args.config.now.equations c.in-Some.equation.now c.equations.ensures.equations
    c.in-Some.ensures.lookup.3.0 c.in-Some.ensures.lookup.1 in
    let can = interacts c.args.rules.now c.args.config.now c.args.place (pair c.in-Some.equation.now) c.rule_of.result c.is_none.result c.is_none.ensures c.if-is_none.false
    c.rule_of.ensures.sound c.rule_of.ensures.rule c.equations.ensures.sound c.requires at in
    let all = c.nodes.ensures.nodes in
    let this = c.nodes-2.ensures in
    let fewer = small_there c.args.config.now c.args.place (pair c.in-Some.equation.now) at in
    let few = c.equations.ensures.sound.nodes in
    let size = c.fired_size_of-size.ensures.nodes in
    let sum = c.saturating_add-nodes.ensures in
    let names = c.fired_size_of-size.ensures.names in
    let start = c.next.ensures.next in
    let next = c.saturating_add-next.ensures in
    let count = can.nodes in
    record { can = can; here = at; all_nodes = omega arith; last = omega arith }

-- what the program puts together is the configuration after the step, within the limits
record Built (rs : Rules) (config : Configuration) (place : ℕ) (p : Pair) (can : CanInteract rs config place p) (built : Configuration) : Type 0 where
  same : built ≡ interacted_by rs.rules config place can.active
  small : configuration_nodes (interacted_by rs.rules config place can.active) ≤ MAX_NODES
  low : config.next + names_taken rs.rules p ≤ MAX_NEXT

built : (rs : Rules) (config : Configuration) (place : ℕ) (p : Pair) (nodes next : ℕ) (s : Sized rs config place p nodes next) (copy : Configuration) (ts : List Tree) (es all : List Pair) (base : ℕ)
    → nodes ≤ MAX_NODES → next ≤ MAX_NEXT → copy ≡ config → ts ≡ copy.interface → es ≡ copy.equations → base ≡ copy.next → all ≡ fired_at rs.rules base es place
    → Built rs config place p s.can (record { interface = ts; equations = all; next = next })
built rs config place p nodes next s copy ts es all base few under copied terms equations same_base fired =
    let count = s.all_nodes in
    let last = s.last in
    let new_next : next ≡ config.next + names_taken rs.rules p = omega arith in
    record {
      same = interacted-made rs config place p s.can ts es all base next s.here (terms ∙ ap (λ (d : Configuration). d.interface) copied)
          (equations ∙ ap (λ (d : Configuration). d.equations) copied) (same_base ∙ ap (λ (d : Configuration). d.next) copied) fired new_next;
      small = omega arith;
      low = omega arith;
    }

-- after the interaction a limit is passed
large : (c : Joined-then-nodes-gt-MAX_NODES) (p : Pair) (s : Sized c.args.rules.now c.args.config.now c.args.place p c.saturating_add-nodes.result c.saturating_add-next.result)
    → is_within (interacted_by c.args.rules.now.rules c.args.config.now c.args.place s.can.active) ≡ false
large c p s =
    let count = s.all_nodes in
    let last = s.last in
    let is = s.can.next in
    let d = interacted_by c.args.rules.now.rules c.args.config.now c.args.place s.can.active in
    elim c.then-nodes-gt-MAX_NODES.branch [
      | then-nodes-gt-MAX_NODES-via-then-nodes-gt-MAX_NODES w ↦ let past = w.if-nodes-gt-MAX_NODES.true in too_large d (omega arith)
      | then-nodes-gt-MAX_NODES-via-else-nodes-gt-MAX_NODES+then-next-gt-MAX_NEXT w ↦ let past = w.if-next-gt-MAX_NEXT.true in too_high d (omega arith)
    ]

pub returns-then-nodes-gt-MAX_NODES-clause-exact : goal.returns-then-nodes-gt-MAX_NODES-clause-exact
returns-then-nodes-gt-MAX_NODES-clause-exact c =
    let s = sized (goal.at.returns-then-nodes-gt-MAX_NODES-clause-exact c).After-saturating_add-next in
    sym (answer-limit c.args.rules.now c.args.config.now c.args.place (pair c.in-Some.equation.now) s.can (large c _ s))

pub returns-then-nodes-gt-MAX_NODES-clause-limit : goal.returns-then-nodes-gt-MAX_NODES-clause-limit
returns-then-nodes-gt-MAX_NODES-clause-limit c same =
    let s = sized (goal.at.returns-then-nodes-gt-MAX_NODES-clause-limit c).After-saturating_add-next in
    record { after = _; step = s.can.step; large = large c _ s }

pub fire_at-requires-clause-there : goal.fire_at-requires-clause-there
fire_at-requires-clause-there c =
    let parts = c.into_parts-interface.ensures in
    let copied = c.in_ok-copy.ensures in
    let equations : map pair c.into_parts-interface.result.1.items ≡ c.args.config.now.equations = parts.equations ∙ ap (λ (d : Configuration). d.equations) copied in
    let within = c.in-Some.ensures.lookup.3.0 in
    let same = ap length (equations ∙ sym c.equations.ensures.equations) in
    omega (arith, length-map c.into_parts-interface.result.1.items pair, length-map c.equations.result.now pair)

pub fire_at-requires-clause-ready : goal.fire_at-requires-clause-ready
fire_at-requires-clause-ready c =
    let rs = c.args.rules.now.rules in
    let s = sized (goal.at.fire_at-requires-clause-ready c).After-saturating_add-next in
    let parts = c.into_parts-interface.ensures in
    let copied = c.in_ok-copy.ensures in
    let equations : map pair c.into_parts-interface.result.1.items ≡ c.args.config.now.equations = parts.equations ∙ ap (λ (d : Configuration). d.equations) copied in
    let base : c.into_parts-interface.result.2 ≡ c.args.config.now.next = parts.next ∙ ap (λ (d : Configuration). d.next) copied in
    let top = c.if-next-gt-MAX_NEXT.false in
    let last = s.last in
    let suitable = s.can.suits (omega arith) in
    let ready : IsReady rs c.into_parts-interface.result.2 c.args.place (pair c.in-Some.equation.now) =
    λ a is. (λ j. suits rs (work_at c.args.place (base j) (same_Some a s.can.active (sym is ∙ s.can.is) j))) ∙ suitable in
    rw (ap (λ es. slice_get es c.args.place) equations ∙ s.here) ready

pub from_parts-requires : goal.from_parts-requires
from_parts-requires c =
    let s = sized (goal.at.from_parts-requires c).After-saturating_add-next in
    let parts = c.into_parts-interface.ensures in
    let most = c.if-nodes-gt-MAX_NODES.false in
    let top = c.if-next-gt-MAX_NEXT.false in
    let b = built _ _ _ _ _ _ s _ _ _ (map pair c.in_ok-equations.equations.items) _ (omega arith) (omega arith) c.in_ok-copy.ensures parts.interface parts.equations parts.next c.in_ok-equations.ensures in
    let P : Configuration → Type 0 = IsConfiguration in
    subst P (sym b.same) (s.can.valid b.small b.low)

-- the result is the configuration after the interaction
made : (c : After-from_parts) (p : Pair) (s : Sized c.args.rules.now c.args.config.now c.args.place p c.saturating_add-nodes.result c.saturating_add-next.result)
    → Built c.args.rules.now c.args.config.now c.args.place p s.can c.from_parts.result
made c p s =
    let parts = c.into_parts-interface.ensures in
    let most = c.if-nodes-gt-MAX_NODES.false in
    let top = c.if-next-gt-MAX_NEXT.false in
    let b = built _ _ _ _ _ _ s _ _ _ (map pair c.in_ok-equations.equations.items) _ (omega arith) (omega arith) c.in_ok-copy.ensures parts.interface parts.equations parts.next c.in_ok-equations.ensures in
    record { same = c.from_parts.ensures ∙ b.same; small = b.small; low = b.low }

pub returns-clause-exact : goal.returns-clause-exact
returns-clause-exact c =
    let s = sized (goal.at.returns-clause-exact c).After-saturating_add-next in
    let m = made c _ s in
    ap (λ (d : Configuration). Ok d) m.same ∙ sym (answer-within c.args.rules.now c.args.config.now c.args.place (pair c.in-Some.equation.now) s.can m.small m.low)

pub returns-clause-step : goal.returns-clause-step
returns-clause-step c =
    let s = sized (goal.at.returns-clause-step c).After-saturating_add-next in
    let P : Configuration → Type 0 = λ d. Interaction c.args.rules.now.rules c.args.config.now d c.args.place in
    subst P (sym (made c _ s).same) s.can.step

pub returns-clause-over : goal.returns-clause-over
returns-clause-over c =
    let s = sized (goal.at.returns-clause-over c).After-saturating_add-next in
    ap (is_over c.args.rules.now.symbols) (made c _ s).same ∙ s.can.over
