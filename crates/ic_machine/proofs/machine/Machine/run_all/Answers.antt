use Rattle.std.proofs.Common.{◌≡◌, ◌+◌, Err, ap, arith, refl}
use Rattle.std.proofs.lemmas.Result.{err_from_is_err_and}
use Rattle.ic_machine.specs.declared.machine.MachineFault.TheVariants.{Limit}
use Rattle.ic_machine.proofs.Limits.{same_fault}
use Rattle.ic_machine.specs.lemmas.RunsOn.{ran_none, ran_on}
use Rattle.ic_machine.proofs.machine.Machine.run_all.Goals as goal

pub loop-left-init : goal.loop-left-init
loop-left-init g c = record { ran = ran_none c.args.program.now c.args.self.now; counted = refl }

pub returns-in_err-step-clause-ran : goal.returns-in_err-step-clause-ran
returns-in_err-step-clause-ran g c =
    ran_on c.args.program.now c.args.self.now c.loop-left.self c.step.new.self c.loop-left.invariant.ran c.step.ensures.ran

pub returns-then-not-branch-clause-ran : goal.returns-then-not-branch-clause-ran
returns-then-not-branch-clause-ran g c =
    ran_on c.args.program.now c.args.self.now c.loop-left.self c.step.new.self c.loop-left.invariant.ran c.step.ensures.ran

pub loop-left-preserved : goal.loop-left-preserved
loop-left-preserved g c =
    let once : c.step.new.self.interactions ≡ c.loop-left.self.interactions + 1 =
    c.in_ok-step.ensures.fired (cc (c.if-not-branch.false)) in
    let fired = c.run_spare.ensures.fired in
    let within = c.run_spare.ensures.within in
    let counted = c.loop-left.invariant.counted in
    let some = c.loop-left-test.true in
    record {
      ran = ran_on c.args.program.now c.args.self.now c.step.new.self c.run_spare.new.self
          (ran_on c.args.program.now c.args.self.now c.loop-left.self c.step.new.self c.loop-left.invariant.ran c.step.ensures.ran)
          c.run_spare.ensures.ran;
      counted = omega arith;
    }

pub returns-in_err-is_quiet-clause-ran : goal.returns-in_err-is_quiet-clause-ran
returns-in_err-is_quiet-clause-ran g c =
    ran_on c.args.program.now c.args.self.now c.loop-left.self c.is_quiet.new.self c.loop-left.invariant.ran
    c.is_quiet.ensures.ran

pub returns-then-branch-clause-ran : goal.returns-then-branch-clause-ran
returns-then-branch-clause-ran g c =
    ran_on c.args.program.now c.args.self.now c.loop-left.self c.is_quiet.new.self c.loop-left.invariant.ran
    c.is_quiet.ensures.ran

pub returns-else-branch-clause-ran : goal.returns-else-branch-clause-ran
returns-else-branch-clause-ran g c =
    ran_on c.args.program.now c.args.self.now c.loop-left.self c.is_quiet.new.self c.loop-left.invariant.ran
    c.is_quiet.ensures.ran

pub returns-in_err-step-clause-limit : goal.returns-in_err-step-clause-limit
returns-in_err-step-clause-limit g c = λ e.
    let given = err_from_is_err_and c.from_residual.result c.from_residual.ensures.1 in
    c.in_err-step.ensures.limit
    (ap Err (same_fault c.from_residual.result given.0 c.in_err-step.field-0.0 Limit given.1 given.2 e))
