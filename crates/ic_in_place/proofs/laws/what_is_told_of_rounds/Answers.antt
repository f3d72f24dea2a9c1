use Rattle.std.proofs.Common.{◌≡◌, ◌≤◌, ⊎_elim, inl, inr, ℕ, List, length, sum_by, arith, sym, ◌∙◌}
use Rattle.ic_text.specs.declared.limits.Limits.{Limits}
use Rattle.ic_in_place.specs.Rounds.{EndsByRounds}
use Rattle.ic_in_place.specs.declared.rounded.Rounded.{Rounded}
use Rattle.ic_in_place.specs.declared.stream.Asked.{Asked}
use Rattle.ic_in_place.proofs.MadeRounds.{made_of}
use Rattle.ic_in_place.proofs.NameSteps.{CountLaws, counts_are_all, fired_within}
use Rattle.ic_in_place.proofs.RoundsFired.{of_rounds}
use Rattle.ic_in_place.proofs.RoundsMade.{as_many_told}
use Rattle.ic_in_place.proofs.RoundsNeeded.{over_counted}
use Rattle.ic_in_place.proofs.RoundsTold.{LeftBeside, LeftLaws, left_of, many_told, told_fired, told_pairs}
use Rattle.ic_in_place.proofs.laws.what_is_told_of_rounds.Goals as goal
use Rattle.ic_in_place.proofs.laws.what_is_told_of_rounds.Goals.{After-equations_left_are_all_but_circles}

module _ (c : After-equations_left_are_all_but_circles) (limits : Limits) (most : ℕ) (asked : Asked) (input line : List ℕ) (reached : Rounded)
    (is : EndsByRounds limits most asked input reached line) where
  left : LeftBeside is.rounded.come.plans is.rounded.first is.rounded.pairs is.system.rules.rules is.system.config
  left =
      let r = is.rounded in
      let laws : LeftLaws = record { rounds = c.rounds_in_place_are_rounds.ensures; left = c.equations_left_are_all_but_circles.ensures } in
      left_of laws is.system.rules r.come.rule_numbers r.come.plans is.system.config is.given r.come.plan r.come.operands r.pairs r.first
      is.ends.rule_set is.ends.over is.ends.names r.come.compiled r.begun r.firsts

  -- as many interactions are told as the machine has made
  as_many : reached.outcome.interactions ≡ is.machine.interactions
  as_many =
      let r = is.rounded in
      let laws : CountLaws = record {
        itself = c.what_is_reached_is_one_net.ensures.itself;
        names = c.what_is_reached_is_one_net.ensures.names;
        over = c.what_is_reached_is_one_net.ensures.over;
        chain = c.what_is_reached_goes_on.ensures.chain;
      } in
      let s = is.system in
      let told = counts_are_all _ is.ends.reached.fired _ (fired_within laws s.rules s.config _ is.ends.reached.fired is.ends.rule_set is.ends.over is.ends.names is.ends.reached.reached)
      is.ends.reached.counts in
      let held = counts_are_all _ r.come.fired _ (fired_within laws s.rules s.config _ r.come.fired is.ends.rule_set is.ends.over is.ends.names r.come.held.reached) r.come.counts in
      is.ends.reached.counted ∙ (sym told ∙ (held ∙ sym r.come.counted))

pub returns-clause-figures : goal.returns-clause-figures
returns-clause-figures c = λ limits most asked input line reached is.
    let r = is.rounded in
    told_fired r.come.plans r.first r.pairs is.system.rules.rules r.come.rule_numbers is.system.config (left c limits most asked input line reached is)
    r.ends.made r.ends.told r.ends.are_told r.rules

pub returns-clause-many : goal.returns-clause-many
returns-clause-many c = λ limits most asked input line reached is.
    let r = is.rounded in
    let same = as_many c limits most asked input line reached is in
    let over = over_counted r.come.plans r.first r.ends.last r.pairs r.ends.made r.ends.over in
    let since = r.ends.since.counted in
    let few : sum_by length r.ends.made ≤ reached.outcome.interactions = omega (arith, same, over, since) in
    many_told reached.outcome is.taken reached.rounds r.ends.made r.ends.told is.count r.ends.count
    (as_many_told r.come.plans r.first r.pairs r.ends.made r.ends.told r.ends.are_told) r.ends.firing
    (told_pairs r.come.plans r.first r.pairs r.ends.made r.ends.told r.ends.are_told) few

pub returns-clause-fired : goal.returns-clause-fired
returns-clause-fired c = λ limits most asked input line reached is.
    of_rounds is.system most reached.rounds is.ends.answer reached.outcome.end reached.outcome.interactions reached.outcome.by_rule.items reached.outcome.name_steps
    (made_of limits most asked input line reached is) (as_many c limits most asked input line reached is) c.what_fires_in_a_round_is_of_it.ensures

pub returns-clause-under_way : goal.returns-clause-under_way
returns-clause-under_way c = λ limits most asked input line reached is.
    ⊎_elim (λ none. inl none) (λ way. inr (omega (arith, way.1, way.2))) is.rounded.ends.under_way
