use Rattle.std.proofs.Common.{get_or, subst}
use Rattle.ic_workers.specs.declared.kept.Hand.{Hand}
use Rattle.ic_workers.specs.inner.Keeping.{HandWorked}
use Rattle.ic_workers.proofs.Workings.{each_worked}
use Rattle.ic_workers.proofs.desk.stepping.run_hands.Goals as goal

pub returns : goal.returns
returns g c = each_worked c.args.program.now c.args.hands.now c.for_each_mut.new.s c.for_each_mut.auto.s (λ i d lt.
    let w = (c.for_each_mut.ensures i d lt).1 in
    subst (λ (h : Hand). HandWorked c.args.program.now h (get_or c.for_each_mut.new.s i d)) w.argument_is
    (subst (λ (h : Hand). HandWorked c.args.program.now w.argument.now h) w.left w.call))
