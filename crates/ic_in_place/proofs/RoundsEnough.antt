-- Lemmas: rounds of a system are made as long as a step is possible.
use Rattle.std.proofs.Common.{◌≡◌, ◌⊎◌, inl, inr, ℕ, ◌+◌, ◌^◌, ◌≤◌, ◌<◌, List, [], ◌∷◌, ◌++◌, Bool, true, false, Option, None, Some, length, sum_by, refl, sym, ap, ◌∙◌, arith, subst as transport}
use Rattle.std.proofs.lemmas.List.Sums.{sum_by-cons}
use Rattle.std.proofs.lemmas.List.Sorted.{length_permutation}
use Rattle.std.specs.Prelude.{IsPermutation, IsTrue, SomeIff}
use Rattle.ic_term.specs.Tree.{Tree, name, agent, nodes, Pair, pair_nodes}
use Rattle.ic_term.specs.Configuration.{Configuration, configuration_nodes}
use Rattle.ic_term.specs.Symbol.{is_over}
use Rattle.ic_rules.specs.Rule.{Rule}
use Rattle.ic_rules.specs.RuleSet.{Rules, IsRuleSet}
use Rattle.ic_settle.specs.NameSteps.{NameStep}
use Rattle.ic_round.specs.Naming.{HasNames}
use Rattle.ic_round.specs.Quiet.{IsQuiet}
use Rattle.ic_round.specs.Rounds.{iterate}
use Rattle.ic_round.specs.Steps.{Interaction, interaction}
use Rattle.ic_round.specs.lemmas.NameStepLemmas.{name_step}
use Rattle.ic_confluence.specs.Kinds.{Kind, naming, firing, Chain}
use Rattle.ic_confluence.specs.Sameness.{Same}
use Rattle.ic_reaching.specs.OneNet.{OneNet, SameButNext}
use Rattle.ic_reaching.specs.Reaching.{Reaches, rules_fired}
use Rattle.ic_rules.specs.System.{SystemParts}
use Rattle.ic_machine.specs.Net.{pieces}
use Rattle.ic_meaning.specs.Nets.{net_of}
use Rattle.ic_in_place.specs.Counting.{AreNameSteps, TellsNameSteps, name_steps}
use Rattle.ic_in_place.specs.Reducing.{CanInteract, EndsBy, IsPutTogether}
use Rattle.ic_in_place.specs.Rounds.{stands_still}
use Rattle.ic_in_place.specs.declared.running.End.{End}
use Rattle.ic_in_place.specs.declared.running.End.TheVariants.{Quiet, Steps, Nodes, Limit, Memory}
use Rattle.ic_in_place.proofs.LineByRounds.{a_round_is_settled, settled_nets}
use Rattle.ic_in_place.proofs.MadeRounds.{Made}
use Rattle.ic_in_place.proofs.RoundsNeeded.{later_rounds_are_needed, quiet_as}
use Rattle.ic_in_place.proofs.Still.{none_still, quiet_still, still_or_not, still_quiet}

-- what the laws say that this one builds on
pub record EnoughLaws : Type 0 where
  pub alike : (rs : Rules) (c d : Configuration) → IsRuleSet rs → IsTrue (is_over rs.symbols c) → HasNames c → Same c d → IsQuiet rs.rules c → IsQuiet rs.rules d
  pub other_way : (c d : Configuration) → OneNet c d → OneNet d c
  pub through : (c d e : Configuration) → OneNet c d → OneNet d e → OneNet c e
  pub equations : (c d : Configuration) → SameButNext c d → length d.equations ≡ length c.equations
  pub itself : (rs : List Rule) (c : Configuration) → HasNames c → Reaches rs c c []
  pub net : (rs : List Rule) (c d e : Configuration) (fired : List ℕ) → Reaches rs c d fired → OneNet d e → Reaches rs c e fired
  pub names : (rs : List Rule) (c d : Configuration) (fired : List ℕ) → Reaches rs c d fired → HasNames d
  pub over : (rs : Rules) (c d : Configuration) (fired : List ℕ) → IsRuleSet rs → IsTrue (is_over rs.symbols c) → HasNames c → Reaches rs.rules c d fired → IsTrue (is_over rs.symbols d)
  pub interaction : (rs : Rules) (c d e : Configuration) (fired : List ℕ) (place : ℕ) → IsRuleSet rs → IsTrue (is_over rs.symbols c) → HasNames c → Reaches rs.rules c d fired
      → (step : Interaction rs.rules d e place) → Reaches rs.rules c e (fired ++ step.active.rule ∷ [])
  pub every_order : (rs : Rules) (c d e : Configuration) (fired : List ℕ) (kinds : List Kind) → IsRuleSet rs → IsTrue (is_over rs.symbols c) → HasNames c
      → Reaches rs.rules c d fired → IsQuiet rs.rules d → Chain rs.rules kinds c e → IsQuiet rs.rules e → SameButNext d e × IsPermutation fired (rules_fired kinds)
  pub told : (rs : Rules) (c e : Configuration) (interactions left : ℕ) (told : Option ℕ) (kinds : List Kind) → IsRuleSet rs → IsTrue (is_over rs.symbols c) → HasNames c
      → TellsNameSteps rs.rules c interactions left Quiet told → Chain rs.rules kinds c e → IsQuiet rs.rules e
      → SomeIff told (name_steps kinds + interactions + left < 2 ^ 64) (name_steps kinds)
  pub together : (c d : Configuration) → HasNames c → IsPutTogether c → NameStep c d → ⊥

-- ---- where no step is possible, none is taken

quiet_chain : (rs : List Rule) (kinds : List Kind) (c d : Configuration) → IsQuiet rs c → Chain rs kinds c d → kinds ≡ []
quiet_chain rs [] c d quiet chain = refl
quiet_chain rs (naming ∷ kinds) c d quiet chain = absurd (quiet chain.0 (name_step rs c chain.0 chain.1))
quiet_chain rs (firing i ∷ kinds) c d quiet chain = absurd (quiet chain.0 (interaction c chain.0 chain.1.0 chain.1.1))

quiet_reaches : (rs : List Rule) (c d : Configuration) (fired : List ℕ) → IsQuiet rs c → Reaches rs c d fired → fired ≡ []
quiet_reaches rs c d fired quiet r = sym r.interactions ∙ ap rules_fired (quiet_chain rs r.kinds c r.end quiet r.chain)

no_last : (is : List ℕ) (i : ℕ) → is ++ i ∷ [] ≡ [] → ⊥
no_last [] i same = cc
no_last (j ∷ is) i same = cc

no_kinds : (kinds : List Kind) → name_steps kinds ≡ 0 → rules_fired kinds ≡ [] → kinds ≡ []
no_kinds [] named fired = refl
no_kinds (naming ∷ kinds) named fired = absurd (omega (arith, named))
no_kinds (firing i ∷ kinds) named fired = absurd (cc fired)

none_in : (is : List ℕ) → length is ≡ 0 → is ≡ []
none_in [] same = refl
none_in (i ∷ is) same = absurd (omega (arith, same))

-- what is one net with a quiet configuration can't interact
no_interaction : EnoughLaws → (rs : Rules) (d a : Configuration) → IsRuleSet rs → IsTrue (is_over rs.symbols d) → OneNet d a → IsQuiet rs.rules d → CanInteract rs.rules a → ⊥
no_interaction laws rs d a set over net quiet can =
    let r : Reaches rs.rules d a [] = laws.net rs.rules d d a [] (laws.itself rs.rules d net.names) net in
    let next = laws.interaction rs d a can.0 [] can.1 set over net.names r can.2 in
    no_last [] can.2.active.rule (quiet_reaches rs.rules d can.0 ([] ++ can.2.active.rule ∷ []) quiet next)

-- ---- few equations

some_nodes : (t : Tree) → 1 ≤ nodes t
some_nodes (name n) = omega arith
some_nodes (agent s ts) = omega arith

pairs_within : (es : List Pair) → length es ≤ sum_by pair_nodes es
pairs_within [] = omega arith
pairs_within (p ∷ es) =
    let rest = pairs_within es in
    let here = some_nodes p.left in
    let all = sum_by-cons pair_nodes p es in
    omega (arith, rest, here, all)

told_so : (o : Option ℕ) (P : Type 0) (v : ℕ) → SomeIff o P v → P → o ≡ Some v
told_so None P v isnt p = absurd (isnt p)
told_so (Some x) P v so p = ap (λ (k : ℕ). Some k) so.1

told_as : (o : Option ℕ) (P : Type 0) (v n : ℕ) → SomeIff o P n → o ≡ Some v → n ≡ v
told_as None P v n so is = absurd (cc is)
told_as (Some x) P v n so is = let same : x ≡ n = so.1 in let inner : x ≡ v = cc in sym same ∙ inner

-- ---- of a system

module _ (laws : EnoughLaws) (s : SystemParts) (most rounds : ℕ) (answer : Configuration) (end : End) (interactions : ℕ) (by_rule : List ℕ) (told : Option ℕ)
    (e : Made s most rounds answer end interactions by_rule told) where
  abbrev c : Configuration
  c = s.config

  abbrev rs : Rules
  rs = s.rules

  -- whether the text stands still, by this end
  abbrev still_by : End → Bool
  still_by at = stands_still at interactions told

  stood : (still_by end ≡ true) ⊎ (still_by end ≡ false)
  stood = still_or_not end interactions told

  made_all : 1 ≤ rounds → rounds ≡ e.taken
  made_all one = by stood
    where
      by : (still_by end ≡ true) ⊎ (still_by end ≡ false) → rounds ≡ e.taken
      by (inl is) = let none = e.count.none is in absurd (omega (arith, none, one))
      by (inr isnt) = e.count.all isnt

  pub within : rounds ≤ most
  within = by stood
    where
      by : (still_by end ≡ true) ⊎ (still_by end ≡ false) → rounds ≤ most
      by (inl is) = let none = e.count.none is in omega (arith, none)
      by (inr isnt) = let all = e.count.all isnt in let low = e.rounded.ends.within in omega (arith, all, low)

  pub later : (n : ℕ) → 1 ≤ n → n < rounds → IsQuiet rs.rules (iterate rs.rules n c) → ⊥
  later n one low quiet =
      let all = made_all (omega (arith, one, low)) in
      let many = e.rounded.ends.count in
      later_rounds_are_needed rs.rules e.rounded.come.rule_numbers e.rounded.ends.made c n e.rounded.rules e.rounded.ends.firing one (omega (arith, low, all, many)) quiet

  pub ended_quiet : end ≡ Quiet → IsQuiet rs.rules answer × IsPutTogether answer
  ended_quiet at = transport (EndsBy rs.rules e.rounded.bounds answer interactions) at e.reached.ended

  ended_more : end ≡ Steps → (interactions ≡ e.rounded.bounds.steps) × CanInteract rs.rules answer × IsPutTogether answer
  ended_more at = transport (EndsBy rs.rules e.rounded.bounds answer interactions) at e.reached.ended

  told_steps : end ≡ Quiet → TellsNameSteps rs.rules c interactions (length answer.equations) Quiet told
  told_steps at = transport (λ (x : End). TellsNameSteps rs.rules c interactions (length answer.equations) x told) at e.name_steps

  pub first : 1 ≤ rounds → IsQuiet rs.rules c → ⊥
  first one quiet = by end refl
    where
      fired : e.reached.fired ≡ []
      fired = quiet_reaches rs.rules c answer e.reached.fired quiet e.reached.reached

      none : interactions ≡ 0
      none = e.reached.counted ∙ ap (length {A = ℕ}) fired

      few : end ≡ Quiet → length answer.equations ≤ 2147483648
      few at =
          let same = laws.every_order rs c answer c e.reached.fired [] e.rounded.come.sound.rules e.rounded.come.sound.over e.rounded.come.sound.names e.reached.reached (ended_quiet at).0 refl quiet in
          let many = laws.equations answer c same.0 in
          let low : configuration_nodes c ≤ 2147483648 = e.rounded.come.sound.nodes in
          let pairs = pairs_within c.equations in
          omega (arith, many, low, pairs)

      told_of : still_by end ≡ true → ⊥
      told_of still = let made = e.count.none still in omega (arith, made, one)

      by : (x : End) → end ≡ x → ⊥
      by Quiet at =
          let so = laws.told rs c c interactions (length answer.equations) told [] e.rounded.come.sound.rules e.rounded.come.sound.over e.rounded.come.sound.names (told_steps at) refl quiet in
          let low = few at in
          let zero_steps = told_so told (0 + interactions + length answer.equations < 2 ^ 64) 0 so (omega (arith, none, low)) in
          told_of (ap still_by at ∙ quiet_still interactions told none zero_steps)
      by Steps at =
          let can = (ended_more at).1 in
          let next = laws.interaction rs c answer can.0 e.reached.fired can.1 e.rounded.come.sound.rules e.rounded.come.sound.over e.rounded.come.sound.names e.reached.reached can.2 in
          no_last e.reached.fired can.2.active.rule (quiet_reaches rs.rules c can.0 (e.reached.fired ++ can.2.active.rule ∷ []) quiet next)
      by Nodes at = told_of (ap still_by at ∙ none_still interactions none)
      by Limit at = told_of (ap still_by at ∙ none_still interactions none)
      by Memory at = told_of (ap still_by at ∙ none_still interactions none)

  net_after : (end ≡ Quiet) ⊎ (end ≡ Steps) → OneNet answer (iterate rs.rules e.taken c)
  net_after either =
      let n = e.rounded.come.held.numbers in
      let m = e.machine in
      laws.through answer (net_of n m.interface (pieces m)) (iterate rs.rules e.taken c) (laws.other_way (net_of n m.interface (pieces m)) answer e.net) (e.rounded.net either)

  -- no step was possible at all
  still : end ≡ Quiet → interactions ≡ 0 → told ≡ Some 0 → IsQuiet rs.rules c
  still at none zero_steps =
      let are_told = told_steps at in
      let are : AreNameSteps rs.rules c are_told.0 = are_told.1 in
      let zero_told = told_as told (are_told.0 + interactions + length answer.equations < 2 ^ 64) 0 are_told.0 are_told.2 zero_steps in
      let order = laws.every_order rs c answer are.end e.reached.fired are.kinds e.rounded.come.sound.rules e.rounded.come.sound.over e.rounded.come.sound.names e.reached.reached (ended_quiet at).0 are.chain are.quiet in
      let many = length_permutation e.reached.fired (rules_fired are.kinds) order.1 in
      let counted = e.reached.counted in
      let fired = none_in (rules_fired are.kinds) (omega (arith, many, counted, none)) in
      let kinds : are.kinds ≡ [] = no_kinds are.kinds (are.count ∙ zero_told) fired in
      let same : c ≡ are.end = transport (λ (ks : List Kind). Chain rs.rules ks c are.end) kinds are.chain in
      transport (IsQuiet rs.rules) (sym same) are.quiet

  pub quiet : end ≡ Quiet → 1 ≤ most → IsQuiet rs.rules (iterate rs.rules rounds c)
  quiet at some = by stood
    where
      named : HasNames answer
      named = laws.names rs.rules c answer e.reached.fired e.reached.reached

      by : (still_by end ≡ true) ⊎ (still_by end ≡ false) → IsQuiet rs.rules (iterate rs.rules rounds c)
      by (inl is) =
          let none = still_quiet interactions told (sym (ap still_by at) ∙ is) in
          transport (λ (k : ℕ). IsQuiet rs.rules (iterate rs.rules k c)) (sym (e.count.none is)) (still at none.0 none.1)
      by (inr isnt) =
          let d : Configuration = iterate rs.rules e.taken c in
          let one : 1 ≤ e.taken = e.rounded.ends.some at some in
          let ended = ended_quiet at in
          let same : SameButNext answer d = settled_nets answer d (net_after (inl at)) (λ f step. laws.together answer f named ended.1 step) (λ f step. a_round_is_settled rs.rules e.taken c f one step) in
          let over = laws.over rs c answer e.reached.fired e.rounded.come.sound.rules e.rounded.come.sound.over e.rounded.come.sound.names e.reached.reached in
          transport (λ (k : ℕ). IsQuiet rs.rules (iterate rs.rules k c)) (sym (e.count.all isnt))
          (quiet_as laws.alike rs answer d e.rounded.come.sound.rules over named same ended.0)

  pub steps : end ≡ Steps → (rounds ≡ most) × (IsQuiet rs.rules (iterate rs.rules most c) → ⊥)
  steps at = (made ∙ all, λ quiet. no_interaction laws rs (iterate rs.rules e.taken c) answer e.rounded.come.sound.rules over (laws.other_way answer (iterate rs.rules e.taken c) net) (transport (λ (k : ℕ). IsQuiet rs.rules (iterate rs.rules k c)) (sym all) quiet) (ended_more at).1)
    where
      made : rounds ≡ e.taken
      made = e.count.all (ap still_by at)

      all : e.taken ≡ most
      all = e.rounded.ends.all at

      net : OneNet answer (iterate rs.rules e.taken c)
      net = net_after (inr at)

      over : IsTrue (is_over rs.symbols (iterate rs.rules e.taken c))
      over = laws.over rs c (iterate rs.rules e.taken c) e.reached.fired e.rounded.come.sound.rules e.rounded.come.sound.over e.rounded.come.sound.names (laws.net rs.rules c answer (iterate rs.rules e.taken c) e.reached.fired e.reached.reached net)
