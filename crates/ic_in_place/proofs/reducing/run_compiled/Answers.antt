use Rattle.std.proofs.Common.{rules, ◌≡◌, ◌<◌, ◌^◌, ℕ, List, length, ap, sym, ◌∙◌, subst}
use Rattle.ic_rules.specs.RuleSet.{Rules}
use Rattle.ic_machine.specs.Net.{Net}
use Rattle.ic_in_place.specs.Stopping.{HasCome, IsBegun}
use Rattle.ic_in_place.specs.Summing.{IsSummed}
use Rattle.ic_in_place.proofs.Stopping.{stopped_so}
use Rattle.ic_in_place.proofs.reducing.run_compiled.Goals as goal

pub returns : goal.returns
returns g c =
    let p = c.args.program.now in
    let numbers = c.args.numbers.now in
    let first = c.in_ok-machine.first in
    let made = c.in_ok-machine.ensures in
    let begins = made.begins in
    let begun : IsBegun p (length first.given.items) begins.plan begins.operands c.in_ok-machine.machine =
    record { arities = made.arities; starts = begins.starts; aside = made.aside; none = made.interactions; counts = made.counts; separate = made.separate } in
    let run = c.run_in_pieces-end in
    let by_rule = c.sum_by_rule.new.by_rule.items in
    let counted : length c.in_ok-by_rule.by_rule.items ≡ length c.args.system.now.rules.rules =
    c.in_ok-by_rule.ensures.len ∙ ap length (c.rules-2.ensures.rules ∙ ap (λ (r : Rules). r.rules) (c.deref.ensures ∙ c.rules.ensures.rules)) in
    let summed : IsSummed (length c.args.system.now.rules.rules) numbers run.new.machine.counts by_rule =
    subst (λ (n : ℕ). IsSummed n numbers run.new.machine.counts by_rule) counted
    (subst (λ (cs : List ℕ). IsSummed (length c.in_ok-by_rule.by_rule.items) numbers cs by_rule) c.fired.ensures c.sum_by_rule.ensures) in
    let low : run.new.machine.interactions < 2 ^ 64 = search rules in
    subst (λ (m : Net). HasCome c.args.system.now c.args.bounds first.given.items by_rule m run.result) (sym c.take_rounds-by_round.ensures)
    (stopped_so c.what_a_machine_holds_is_reached.ensures.reached c.args.system.now c.args.bounds numbers p first.given.items begins.plan begins.operands
    c.in_ok-machine.machine run.new.machine run.result c.systems_are_sound.ensures
    c.requires.arities c.requires.sound c.requires.plans
    begins.start begins.stands made.given begun run.ensures.ran run.ensures.ends
    run.ensures.pairs by_rule summed c.requires.numbers low)
