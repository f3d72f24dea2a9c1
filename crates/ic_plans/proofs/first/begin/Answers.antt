use Rattle.std.proofs.Common.{◌≡◌, ℕ, List, sym, subst, ◌∙◌}
use Rattle.ic_machine.specs.declared.plan.Link.{Link}
use Rattle.ic_machine.specs.Building.{CanBegin}
use Rattle.ic_machine.specs.Runs.{Starts}
use Rattle.ic_plans.proofs.LayLemmas.{begins_with, can_begin}
use Rattle.ic_plans.proofs.first.begin.Goals as goal

pub finish-requires-clause-arities : goal.finish-requires-clause-arities
finish-requires-clause-arities c = c.in_ok-builder.ensures.laid.arities_are ∙ sym c.requires.arities

pub finish-requires-clause-begins : goal.finish-requires-clause-begins
finish-requires-clause-begins c =
    let l = c.in_ok-builder.field-0 in
    subst (λ (ls : List Link). CanBegin ls c.deref-2.result.now l.builder) (sym c.deref.ensures.value)
    (subst (λ (ks : List ℕ). CanBegin l.links.items ks l.builder) (sym c.deref-2.ensures.value)
    (can_begin c.args.system.now l.first.given.items l.first.names l.interface.items l.links.items l.builder c.in_ok-builder.ensures.laid))

pub returns-clause-begins : goal.returns-clause-begins
returns-clause-begins c =
    let l = c.in_ok-builder.field-0 in
    let p = c.args.program.now in
    let n = c.in_ok-machine.machine in
    let starts : (can : CanBegin l.links.items l.interface.items l.builder) → Starts p can.given can.plan l.interface.items n =
    subst (λ (ls : List Link). (can : CanBegin ls l.interface.items l.builder) → Starts p can.given can.plan l.interface.items n) c.deref.ensures.value
    (subst (λ (ks : List ℕ). (can : CanBegin c.deref.result.now ks l.builder) → Starts p can.given can.plan ks n) c.deref-2.ensures.value
    c.in_ok-machine.ensures.starts) in
    begins_with c.args.system.now l.first.given.items l.first.names l.interface.items l.links.items l.builder c.in_ok-builder.ensures.laid p n
    (starts (can_begin c.args.system.now l.first.given.items l.first.names l.interface.items l.links.items l.builder c.in_ok-builder.ensures.laid))
