-- Lemmas: what is counted of a system that was reduced by rounds is what they fire, and what fired since.
use Rattle.std.proofs.Common.{◌≡◌, ◌⊎◌, inl, inr, ⊎_elim, ℕ, suc, ◌+◌, ◌-◌, ◌≤◌, ◌<◌, List, [], ◌∷◌, ◌++◌, true, false, Option, Some, length, map, sum_by, refl, sym, ap, ◌∙◌, arith, subst}
use Rattle.std.proofs.lemmas.Bool.{cases_lt}
use Rattle.std.proofs.lemmas.List.{length-append, length-map, map-append}
use Rattle.std.proofs.lemmas.List.Sums.{sum_by-cons}
use Rattle.std.proofs.lemmas.List.Sorted.{IsPermutation-append, IsPermutation-refl, length_permutation}
use Rattle.std.specs.List.{AllByRecursion, concat}
use Rattle.std.specs.Prelude.{IsPermutation, IsTrue}
use Rattle.ic_term.specs.Configuration.{Configuration}
use Rattle.ic_term.specs.Symbol.{is_over}
use Rattle.ic_rules.specs.Rule.{Rule}
use Rattle.ic_rules.specs.RuleSet.{IsRuleSet, Rules}
use Rattle.ic_rules.specs.System.{SystemParts}
use Rattle.ic_round.specs.Naming.{HasNames}
use Rattle.ic_round.specs.Rounds.{iterate, round}
use Rattle.ic_generations.specs.Firings.{rules_of}
use Rattle.ic_arena.specs.declared.word.TheConstants.{GIVEN}
use Rattle.ic_machine.specs.declared.generation.Generation.{Generation}
use Rattle.ic_machine.specs.Generations.{IsWithin}
use Rattle.ic_machine.specs.Net.{IsPair, Net, pieces}
use Rattle.ic_machine.specs.Plan.{ArePlans, IsPlan, Planned, Plans}
use Rattle.ic_machine.specs.Runs.{Starts}
use Rattle.ic_machine.specs.Separate.{IsSeparate}
use Rattle.ic_meaning.specs.First.{LinksPairsFirst}
use Rattle.ic_meaning.specs.Generations.{FireAsRounds}
use Rattle.ic_meaning.specs.InPlace.{AreRounds}
use Rattle.ic_meaning.specs.Plans.{ArePlansOf, StandsForNet, rule_number}
use Rattle.ic_meaning.specs.lemmas.Orders.{all_back, all_front}
use Rattle.ic_in_place.specs.Counting.{AreCounts, AreOfRounds, rules_in}
use Rattle.ic_in_place.specs.Holding.{AreGiven}
use Rattle.ic_in_place.specs.Rounds.{AreTold, GoOn, IsBrokenOff, none_told, one_told, stands_still}
use Rattle.ic_in_place.specs.Told.{RoundOver}
use Rattle.ic_in_place.specs.declared.running.End.{End}
use Rattle.ic_in_place.specs.lemmas.RoundsOn.{rules_first}
use Rattle.ic_in_place.proofs.LineByRounds.{nothing_fired}
use Rattle.ic_in_place.proofs.MadeRounds.{Made}
use Rattle.ic_in_place.proofs.NameSteps.{counts_moved}
use Rattle.ic_in_place.proofs.RoundsNeeded.{over_counted}
use Rattle.ic_in_place.proofs.RoundsTold.{last_fires}
use Rattle.ic_in_place.proofs.Still.{still_none, still_or_not}

-- the plans that fired in rounds are of the rules that fire in them
rounds_rules : (rs : List Rule) (numbers : List ℕ) (made : List (List ℕ)) (c : Configuration) → FireAsRounds rs numbers made c
    → IsPermutation (map (rule_number numbers) (concat made)) (rules_in rs (length made) c)
rounds_rules rs numbers [] c fire = IsPermutation-refl []
rounds_rules rs numbers (fired ∷ made) c fire =
    let here = map (rule_number numbers) fired in
    let rest = map (rule_number numbers) (concat made) in
    let later = rules_in rs (length made) (round rs c) in
    let all = IsPermutation-append here (rules_of rs c.equations) rest later fire.0 (rounds_rules rs numbers made (round rs c) fire.1) in
    subst (λ (l : List ℕ). IsPermutation l (rules_in rs (suc (length made)) c)) (sym (map-append (rule_number numbers) fired (concat made)))
    (subst (λ (l : List ℕ). IsPermutation (here ++ rest) l) (sym (rules_first rs (length made) c)) all)

concat_length : (made : List (List ℕ)) → length (concat made) ≡ sum_by length made
concat_length [] = refl
concat_length (fired ∷ made) =
    let here = length-append fired (concat made) in
    let rest = concat_length made in
    let all = sum_by-cons (length {A = ℕ}) fired made in
    omega (arith, here, rest, all)

-- so many fire in them
rounds_many : (rs : List Rule) (numbers : List ℕ) (made : List (List ℕ)) (c : Configuration) → FireAsRounds rs numbers made c → length (rules_in rs (length made) c) ≡ sum_by length made
rounds_many rs numbers made c fire =
    let moved = length_permutation (map (rule_number numbers) (concat made)) (rules_in rs (length made) c) (rounds_rules rs numbers made c fire) in
    let mapped = length-map (concat made) (rule_number numbers) in
    let all = concat_length made in
    omega (arith, moved, mapped, all)

-- ---- what fires in a round that is broken off

-- what the law says of it
abbrev pub PartLaw : Type 0
PartLaw = (rs : Rules) (numbers given operands : List ℕ) (p : Plans) (c : Configuration) (plan : Planned) (pairs : ℕ) (first m : Net) (over : List (List ℕ)) (now : List ℕ) (g : Generation)
    → IsRuleSet rs → IsTrue (is_over rs.symbols c) → HasNames c → ArePlans p → ArePlansOf rs numbers p → length p.arities < GIVEN
    → IsPlan p.arities (length given) plan → StandsForNet p.arities given c plan operands → AreGiven given c
    → LinksPairsFirst p.arities (length given) plan pairs → Starts p (length given) plan operands first
    → IsSeparate p.arities first.interface (pieces first) → first.aside ≡ [] → AreRounds p first pairs over now g m → AllByRecursion IsPair m.pending
    → FireAsRounds rs.rules numbers over c
    × ((rest : List ℕ) × IsPermutation (map (rule_number numbers) now ++ rest) (rules_of rs.rules (iterate rs.rules (length over) c).equations))

-- ---- each round but the first began before enough interactions were made

at_round : {B : Type 0} (j k taken : ℕ) → j ≡ k → (k < taken) ⊎ B → (j < taken) ⊎ B
at_round j k taken same (inl low) = inl (omega (arith, same, low))
at_round j k taken same (inr b) = inr b

-- also one that was broken off
early_rounds : (p : Plans) (first : Net) (pairs : ℕ) (rs : List Rule) (numbers : List ℕ) (c : Configuration) (n taken : ℕ) (end : End) (since : ℕ) → first.interactions ≡ 0
    → (made : List (List ℕ)) (told : List RoundOver) → AreTold p first pairs made told → FireAsRounds rs numbers made c
    → AllByRecursion (λ o. (o.round < taken) ⊎ IsBrokenOff end since → o.net.interactions < n) told
    → (k : ℕ) → 1 ≤ k → k ≤ length made → (k < taken) ⊎ IsBrokenOff end since → length (rules_in rs k c) < n
early_rounds p first pairs rs numbers c n taken end since none made told none_told fire each k one low few = absurd (omega (arith, one, low))
early_rounds p first pairs rs numbers c n taken end since none made told (one_told over fired so_far m are done between) fire each k one low few =
    let o : RoundOver = record { round = length over + 1; pairs = length fired; net = m } in
    let P : RoundOver → Type 0 = λ x. (x.round < taken) ⊎ IsBrokenOff end since → x.net.interactions < n in
    let all : List (List ℕ) = over ++ fired ∷ [] in
    let before = last_fires rs numbers over fired c fire in
    let earlier = all_front P so_far (o ∷ []) each in
    let own = all_back P so_far (o ∷ []) each in
    let longer : length all ≡ length over + 1 = length-append over (fired ∷ []) in
    ⊎_elim
    (λ last.
    let same : length all ≡ k = omega (arith, longer, last, low) in
    let count = over_counted p first m pairs all done in
    let many = rounds_many rs numbers all c fire in
    let here = own.0 (at_round (length over + 1) k taken (sym longer ∙ same) few) in
    let there : length (rules_in rs (length all) c) < n = omega (arith, here, count, many, none) in
    subst (λ (j : ℕ). length (rules_in rs j c) < n) same there)
    (λ early. early_rounds p first pairs rs numbers c n taken end since none over so_far are before.0 earlier k one early few)
    (cases_lt (length over) k)

-- ---- of a system

module _ (s : SystemParts) (most rounds : ℕ) (answer : Configuration) (end : End) (interactions : ℕ) (by_rule : List ℕ) (told : Option ℕ)
    (e : Made s most rounds answer end interactions by_rule told) where
  abbrev rs : List Rule
  rs = s.rules.rules

  abbrev made : List (List ℕ)
  made = e.rounded.ends.made

  abbrev numbers : List ℕ
  numbers = e.rounded.come.rule_numbers

  abbrev since : List ℕ
  since = map (rule_number numbers) e.rounded.ends.since.fired

  abbrev all_fired : List ℕ
  all_fired = rules_in rs (length made) s.config ++ since

  moved : IsPermutation e.rounded.come.fired all_fired
  moved =
      let fired : e.rounded.come.fired ≡ map (rule_number numbers) (concat made) ++ since =
      e.rounded.counted ∙ map-append (rule_number numbers) (concat made) e.rounded.ends.since.fired in
      subst (λ (l : List ℕ). IsPermutation l all_fired) (sym fired)
      (IsPermutation-append (map (rule_number numbers) (concat made)) (rules_in rs (length made) s.config) since since
      (rounds_rules rs numbers made s.config e.rounded.rules) (IsPermutation-refl since))

  -- with the rest of the next round that is what it fires
  part_of : PartLaw → (rest : List ℕ) × IsPermutation (since ++ rest) (rules_of rs (iterate rs (length made) s.config).equations)
  part_of law = by e.rounded.ends.under_way
    where
      by : (e.rounded.ends.since.fired ≡ []) ⊎ ((g : Generation) × (1 ≤ g.end) × IsWithin g e.machine.pending
          × AreRounds e.rounded.come.plans e.rounded.first e.rounded.pairs made e.rounded.ends.since.fired g e.machine)
          → (rest : List ℕ) × IsPermutation (since ++ rest) (rules_of rs (iterate rs (length made) s.config).equations)
      by (inl none) =
          let all = rules_of rs (iterate rs (length made) s.config).equations in
          (all, subst (λ (l : List ℕ). IsPermutation (map (rule_number numbers) l ++ all) all) (sym none) (IsPermutation-refl all))
      by (inr way) =
          let r = e.rounded in
          let compiled = r.come.compiled in
          (law s.rules numbers e.given r.come.operands r.come.plans s.config r.come.plan r.pairs r.first e.machine made r.ends.since.fired way.0
          r.come.sound.rules r.come.sound.over r.come.sound.names compiled.plans compiled.of_rules compiled.few compiled.is_plan compiled.stands compiled.free
          r.firsts r.begun.starts r.begun.separate r.begun.aside way.3 r.come.pairs).1

  -- so many interactions were made
  all_counted : interactions ≡ e.machine.interactions → interactions ≡ length all_fired
  all_counted same =
      let counted = e.rounded.come.counted in
      let as_many = length_permutation e.rounded.come.fired all_fired moved in
      omega (arith, same, counted, as_many)

  module _ (same : interactions ≡ e.machine.interactions) (law : PartLaw) where
    of_taken : rounds ≡ length made → AreOfRounds rs s.config rounds end interactions by_rule
    of_taken taken =
        let next = part_of law in
        subst (λ (n : ℕ). AreOfRounds rs s.config n end interactions by_rule) (sym taken) (record {
          since = since;
          all = all_counted same;
          counts = counts_moved (length rs) e.rounded.come.fired all_fired by_rule moved e.rounded.come.counts;
          rest = next.0;
          part = next.1;
          whole = λ either. ap (λ (l : List ℕ). map (rule_number numbers) l) (e.rounded.ends.whole either);
        })

    of_none : rounds ≡ 0 → interactions ≡ 0 → AreOfRounds rs s.config rounds end interactions by_rule
    of_none none still =
        let fired = nothing_fired e.rounded.come.fired interactions (same ∙ e.rounded.come.counted) still in
        subst (λ (n : ℕ). AreOfRounds rs s.config n end interactions by_rule) (sym none) (record {
          since = [];
          all = still;
          counts = subst (λ (l : List ℕ). AreCounts (length rs) l by_rule) fired e.rounded.come.counts;
          rest = rules_of rs s.config.equations;
          part = IsPermutation-refl (rules_of rs s.config.equations);
          whole = λ either. refl;
        })

    pub of_rounds : AreOfRounds rs s.config rounds end interactions by_rule
    of_rounds = by (still_or_not end interactions told)
      where
        by : (stands_still end interactions told ≡ true) ⊎ (stands_still end interactions told ≡ false) → AreOfRounds rs s.config rounds end interactions by_rule
        by (inl is) = of_none (e.count.none is) (still_none end interactions told is)
        by (inr isnt) = of_taken (e.count.all isnt ∙ e.rounded.ends.count)

  module _ (enough : ℕ) (early : GoOn (Some enough) e.taken end (length e.rounded.ends.since.fired) e.rounded.ends.told) where
    early_taken : rounds ≡ e.taken → (n : ℕ) → 1 ≤ n → n ≤ rounds → (n < e.taken) ⊎ IsBrokenOff end (length e.rounded.ends.since.fired) → length (rules_in rs n s.config) < enough
    early_taken all n one low later =
        let many = e.rounded.ends.count in
        early_rounds e.rounded.come.plans e.rounded.first e.rounded.pairs rs numbers s.config enough e.taken end (length e.rounded.ends.since.fired) e.rounded.begun.none made e.rounded.ends.told
        e.rounded.ends.are_told e.rounded.rules early n one (omega (arith, low, all, many)) later

    -- none are, or as many as were taken
    taken_or_none : (rounds ≡ 0) ⊎ (rounds ≡ e.taken)
    taken_or_none = by (still_or_not end interactions told)
      where
        by : (stands_still end interactions told ≡ true) ⊎ (stands_still end interactions told ≡ false) → (rounds ≡ 0) ⊎ (rounds ≡ e.taken)
        by (inl is) = inl (e.count.none is)
        by (inr isnt) = inr (e.count.all isnt)

    pub early_so : (n : ℕ) → 1 ≤ n → n < rounds → length (rules_in rs n s.config) < enough
    early_so n one low =
        ⊎_elim (λ none. absurd (omega (arith, none, low))) (λ all. early_taken all n one (omega (arith, low)) (inl (omega (arith, all, low)))) taken_or_none

    pub begun_so : interactions ≡ e.machine.interactions → 1 ≤ rounds → IsBrokenOff end (interactions - length (rules_in rs rounds s.config)) → length (rules_in rs rounds s.config) < enough
    begun_so same one broken = ⊎_elim
        (λ none. absurd (omega (arith, none, one)))
        (λ all.
        let over : length (rules_in rs rounds s.config) ≡ length (rules_in rs (length made) s.config) = ap (λ (n : ℕ). length (rules_in rs n s.config)) (all ∙ e.rounded.ends.count) in
        let long = length-append (rules_in rs (length made) s.config) since in
        let mapped = length-map e.rounded.ends.since.fired (rule_number numbers) in
        let counted = all_counted same in
        let many : interactions - length (rules_in rs rounds s.config) ≡ length e.rounded.ends.since.fired = omega (arith, over, long, mapped, counted) in
        early_taken all rounds one (omega arith) (inr (subst (IsBrokenOff end) many broken)))
        taken_or_none
