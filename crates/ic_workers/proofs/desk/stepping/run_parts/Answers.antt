use Rattle.std.proofs.lemmas.Result.{IfOk-weaker}
use Rattle.ic_machine.specs.Plan.{Plans}
use Rattle.ic_machine.specs.Net.{Net, IsStuck}
use Rattle.std.proofs.Common.{◌≡◌, [], ◌∷◌}
use Rattle.std.specs.List.{AllByRecursion}
use Rattle.ic_workers.specs.inner.HandsOn.{IsAllOf}
use Rattle.ic_workers.specs.inner.Keeping.{parts_at, whole, IsDesk}
use Rattle.ic_workers.proofs.Desks.{desk_begun, new_ends}
use Rattle.ic_workers.proofs.Stopped.{all_of_first}
use Rattle.ic_workers.proofs.desk.stepping.run_parts.Goals as goal

pub run_in_parts-requires-clause-desk : goal.run_in_parts-requires-clause-desk
run_in_parts-requires-clause-desk g c = λ κs outlives.
    desk_begun c.args.program.now c.in_ok-desk.desk c.args.machine c.requires.fit c.in_ok-desk.ensures.parts c.in_ok-desk.ensures.made c.requires.kept c.requires.none

pub put_together-requires : goal.put_together-requires
put_together-requires g c = record { desk = (c.args.program.now, c.in_ok-run_in_parts.ensures.desk) }

pub returns-clause-all : goal.returns-clause-all
returns-clause-all g c =
    let p : Plans = c.args.program.now in
    let desk : IsDesk p c.run_in_parts.new.self = c.in_ok-run_in_parts.ensures.desk in
    IfOk-weaker c.put_together.result (λ (m : Net). (q : Plans) → IsDesk q c.run_in_parts.new.self → IsAllOf q (parts_at c.run_in_parts.new.self) m)
    (IsAllOf p (whole c.args.machine ∷ []))
    (λ m law. all_of_first p c.in_ok-desk.desk c.run_in_parts.new.self c.args.machine m (new_ends 0) c.in_ok-desk.ensures.parts c.in_ok-run_in_parts.ensures.come (law p desk))
    c.put_together.ensures.all

pub returns-clause-kept : goal.returns-clause-kept
returns-clause-kept g c =
    let p : Plans = c.args.program.now in
    IfOk-weaker c.put_together.result (λ (m : Net). (q : Plans) → IsDesk q c.run_in_parts.new.self → (m.arities ≡ q.arities) × AllByRecursion (IsStuck q) m.aside)
    (λ (m : Net). (m.arities ≡ p.arities) × AllByRecursion (IsStuck p) m.aside)
    (λ m law. law p c.in_ok-run_in_parts.ensures.desk) c.put_together.ensures.kept
