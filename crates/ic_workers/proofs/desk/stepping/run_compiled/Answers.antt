use Rattle.std.proofs.Common.{rules, ◌≡◌, ◌+◌, ◌<◌, ◌≤◌, ◌^◌, ℕ, List, length, ap, sym, ◌∙◌, arith, refl, subst}
use Rattle.ic_rules.specs.RuleSet.{Rules}
use Rattle.ic_rules.specs.System.{SystemParts}
use Rattle.ic_machine.specs.Net.{Net}
use Rattle.ic_machine.specs.Plan.{Plans}
use Rattle.ic_machine.specs.Runs.{IsStart}
use Rattle.ic_in_place.specs.Stopping.{HasCome, IsBegun}
use Rattle.ic_in_place.specs.Summing.{IsSummed}
use Rattle.ic_workers.proofs.Begun.{first_part}
use Rattle.ic_workers.proofs.Desks.{kept_begun, new_ends}
use Rattle.ic_workers.proofs.Stopped.{come_so, compiled_so, few_so, first_worth, no_counts}
use Rattle.ic_workers.proofs.desk.stepping.run_compiled.Goals as goal

pub run_parts-requires-clause-fit : goal.run_parts-requires-clause-fit
run_parts-requires-clause-fit g c = λ κs outlives.
    record { sound = c.requires.sound; symbols = few_so c.args.system.now c.args.program.now c.systems_are_sound.ensures c.requires.arities }

pub run_parts-requires-clause-kept : goal.run_parts-requires-clause-kept
run_parts-requires-clause-kept g c = λ κs outlives.
    let made = c.in_ok-machine.ensures in
    let begins = made.begins in
    kept_begun c.args.program.now (length c.in_ok-machine.first.given.items) begins.plan begins.operands c.in_ok-machine.machine
    (record { arities = made.arities; starts = begins.starts; aside = made.aside; none = made.interactions; counts = made.counts; separate = made.separate })

pub returns : goal.returns
returns g c =
    let s : SystemParts = c.args.system.now in
    let p : Plans = c.args.program.now in
    let numbers : List ℕ = c.args.numbers.now in
    let first = c.in_ok-machine.first in
    let made = c.in_ok-machine.ensures in
    let begins = made.begins in
    let begun : IsBegun p (length first.given.items) begins.plan begins.operands c.in_ok-machine.machine =
    record { arities = made.arities; starts = begins.starts; aside = made.aside; none = made.interactions; counts = made.counts; separate = made.separate } in
    let all = c.in_ok-machine-2.machine in
    let run = c.run_in_pieces-end in
    let by_rule = c.sum_by_rule.new.by_rule.items in
    let sound = c.systems_are_sound.ensures in
    let arities = c.requires.arities in
    let compiled = compiled_so s numbers p first.given.items begins.plan begins.operands sound arities c.requires.sound c.requires.plans
    begins.start begins.stands made.given in
    let start = subst (λ (a : List ℕ). IsStart a (length first.given.items) begins.plan begins.operands) (sym arities) begins.start in
    let laws = c.what_parts_come_to_is_reached.ensures in
    let held = laws.begun s.rules p s.config first.given.items begins.plan begins.operands c.in_ok-machine.machine (new_ends 0)
    sound.names compiled.plans compiled.few compiled.is_plan compiled.stands start begun.starts begun.separate begun.arities refl first_worth in
    let has = laws.all s.rules numbers p s.config first.given.items (first_part c.in_ok-machine.machine (new_ends 0)) all
    sound.rules sound.over sound.names compiled.plans c.requires.plans compiled.free held begun.none
    (no_counts p (length first.given.items) begins.plan begins.operands c.in_ok-machine.machine begun)
    (kept_begun p (length first.given.items) begins.plan begins.operands c.in_ok-machine.machine begun).plans
    c.in_ok-machine-2.ensures.all in
    let now = laws.ran s.rules numbers p s.config first.given.items all run.new.machine
    sound.rules sound.over sound.names compiled.plans c.requires.plans compiled.free has run.ensures.ran in
    let kept = c.in_ok-machine-2.ensures.kept in
    let counted : length c.in_ok-by_rule.by_rule.items ≡ length s.rules.rules =
    c.in_ok-by_rule.ensures.len ∙ ap length (c.rules-2.ensures.rules ∙ ap (λ (r : Rules). r.rules) (c.deref.ensures ∙ c.rules.ensures.rules)) in
    let summed : IsSummed (length s.rules.rules) numbers run.new.machine.counts by_rule =
    subst (λ (n : ℕ). IsSummed n numbers run.new.machine.counts by_rule) counted
    (subst (λ (cs : List ℕ). IsSummed (length c.in_ok-by_rule.by_rule.items) numbers cs by_rule) c.fired.ensures c.sum_by_rule.ensures) in
    let low : run.new.machine.interactions < 2 ^ 64 = search rules in
    let below : all.interactions ≤ c.args.bounds.steps = c.in_ok-machine-2.ensures.within in
    let left : c.args.bounds.steps ≡ all.interactions + c.saturating_sub-left.result = omega (arith, below, c.interactions-shared.ensures, c.saturating_sub-left.ensures) in
    subst (λ (m : Net). HasCome s c.args.bounds first.given.items by_rule m run.result) (sym c.take_rounds-by_round.ensures)
    (come_so s c.args.bounds numbers p first.given.items begins.plan begins.operands all run.new.machine run.result
    sound arities compiled kept.0 kept.1 now.0 run.ensures.ran (omega (arith, run.ensures.ends.within, left)) run.ensures.pairs
    (c.a_run_that_goes_on_stops_by_the_bounds_of_all.ensures c.args.bounds c.saturating_sub-left.result p all run.new.machine run.result left run.ensures.ends)
    by_rule summed c.requires.numbers low)
