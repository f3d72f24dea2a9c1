use Rattle.std.proofs.Common.{rules, ◌≡◌, ◌<◌, ◌^◌, ℕ, List, length, ap, ◌∙◌, subst, sym}
use Rattle.ic_rules.specs.RuleSet.{Rules}
use Rattle.ic_machine.specs.Plan.{IsPlan}
use Rattle.ic_meaning.specs.First.{LinksPairsFirst}
use Rattle.ic_in_place.specs.Rounds.{GoOn}
use Rattle.ic_in_place.specs.Stopping.{IsBegun}
use Rattle.ic_in_place.specs.Summing.{IsSummed}
use Rattle.ic_in_place.specs.Told.{RoundOver}
use Rattle.ic_in_place.proofs.Rounding.{rounded_so}
use Rattle.ic_in_place.proofs.rounded.round_compiled.Goals as goal

pub returns-clause-made : goal.returns-clause-made
returns-clause-made g c =
    let p = c.args.program.now in
    let numbers = c.args.numbers.now in
    let first = c.in_ok-machine.first in
    let pairs = c.in_ok-machine.pairs in
    let made = c.in_ok-machine.ensures in
    let begins = made.begins.0 in
    let begun : IsBegun p (length first.given.items) begins.plan begins.operands c.in_ok-machine.machine =
    record { arities = made.arities; starts = begins.starts; aside = made.aside; none = made.interactions; counts = made.counts; separate = made.separate } in
    let run = c.run_by_rounds in
    let by_rule = c.sum_by_rule.new.by_rule.items in
    let counted : length c.in_ok-by_rule.by_rule.items ≡ length c.args.system.now.rules.rules =
    c.in_ok-by_rule.ensures.len ∙ ap length (c.rules-2.ensures.rules ∙ ap (λ (r : Rules). r.rules) (c.deref.ensures ∙ c.rules.ensures.rules)) in
    let summed : IsSummed (length c.args.system.now.rules.rules) numbers run.new.machine.counts by_rule =
    subst (λ (n : ℕ). IsSummed n numbers run.new.machine.counts by_rule) counted
    (subst (λ (cs : List ℕ). IsSummed (length c.in_ok-by_rule.by_rule.items) numbers cs by_rule) c.fired.ensures c.sum_by_rule.ensures) in
    let low : run.new.machine.interactions < 2 ^ 64 = search rules in
    let P : List ℕ → ℕ → List RoundOver → Type 0 = λ ns since told. GoOn c.args.enough c.in_ok-end.rounds c.in_ok-end.end since told × g.S.Rows.tells c.args.system.now ns c.args.rows.now run.new.rows
    (g.W.Write.contents c.args.writer.now) (g.W.Write.contents run.new.writer) told in
    let ended = c.in_ok-end.ensures.ended in
    let rounded = rounded_so c.what_a_machine_holds_after_rounds.ensures c.args.system.now ended.0 c.in_ok-end.rounds c.args.bounds.nodes numbers p first.given.items
    begins.plan begins.operands pairs c.in_ok-machine.machine run.new.machine c.in_ok-end.end c.systems_are_sound.ensures
    c.requires.arities c.requires.sound c.requires.plans begins.start begins.stands made.given
    (subst (λ (a : List ℕ). LinksPairsFirst a (length first.given.items) begins.plan pairs) (sym c.requires.arities) made.begins.1)
    begun ended.2 c.what_a_machine_holds.ensures.pairs by_rule summed c.requires.numbers low P (
      ended.3,
      ended.4 c.args.system.now numbers c.args.rows.now (g.W.Write.contents c.args.writer.now)
          (c.in_ok-begin.ensures.none (g.W.Write.contents c.args.writer.now)),
    ) in
    (ended.0, ended.1, rounded.0, rounded.1.0, rounded.1.1)

pub run_by_rounds-requires-clause-within : goal.run_by_rounds-requires-clause-within
run_by_rounds-requires-clause-within g c =
    let first = c.in_ok-machine.first in
    let pairs = c.in_ok-machine.pairs in
    let begins = c.in_ok-machine.ensures.begins.0 in
    let is_plan = subst (λ (a : List ℕ). IsPlan a (length first.given.items) begins.plan) (sym c.requires.arities) begins.start.plan in
    let firsts = subst (λ (a : List ℕ). LinksPairsFirst a (length first.given.items) begins.plan pairs) (sym c.requires.arities) c.in_ok-machine.ensures.begins.1 in
    c.the_first_pairs_are_pending_first.ensures.within (length first.given.items) c.args.program.now begins.plan begins.operands c.in_ok-machine.machine pairs
    is_plan firsts begins.starts
