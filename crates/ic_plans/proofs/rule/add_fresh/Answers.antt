use Rattle.std.proofs.Common.{◌≡◌, ◌+◌, not, sym, ap, subst, ◌∙◌, arith}
use Rattle.std.specs.Prelude.{is_some}
use Rattle.ic_plans.specs.inner.Registers.{AreFreshNames, found}
use Rattle.ic_plans.proofs.LinkLemmas.{all-added, all-kept, used-added, used-kept}
use Rattle.ic_plans.proofs.RegisterLemmas.{fresh-added, none_there}
use Rattle.ic_plans.proofs.rule.add_fresh.Goals as goal
use Rattle.ic_plans.proofs.rule.add_fresh.Goals.{then-is_none+in_ok-set, else-is_none}

pub loop-number-preserved : goal.loop-number-preserved
loop-number-preserved c =
    let i = c.loop-number.invariant in
    elim c.if-is_none.branch [
      | then-is_none+in_ok-set w ↦ rw (w.registers-is, w.fresh-is) (record {
        few = omega (arith, i.few);
        all = all-added c.loop-number.number (c.args.start + c.loop-number.fresh) c.loop-number.registers w.set.new.self w.in_ok-set.ensures.set i.all;
        used = used-added c.loop-number.number c.args.start c.loop-number.fresh c.loop-number.registers w.set.new.self
            w.in_ok-set.ensures.set i.used;
        registers = λ arguments below regs. fresh-added arguments c.args.start c.loop-number.fresh c.loop-number.registers w.set.new.self c.loop-number.number
            w.in_ok-set.ensures.set (none_there (found c.loop-number.registers c.loop-number.number) (ap is_some (sym c.get.ensures) ∙ c.is_none.ensures ∙ ap not w.if-is_none.true))
            below (i.registers arguments below regs);
      })
      | else-is_none w ↦ rw (w.registers-is, w.fresh-is) (record {
        few = omega (arith, i.few);
        all = all-kept c.loop-number.number c.loop-number.registers i.all (ap is_some (sym c.get.ensures) ∙ c.is_none.ensures ∙ ap not w.if-is_none.false);
        used = used-kept c.loop-number.number c.args.start c.loop-number.fresh c.loop-number.registers i.used;
        registers = i.registers;
      })
    ]

pub returns-clause-used : goal.returns-clause-used
returns-clause-used c =
    let last = c.loop-number.auto.number-end in
    let number : c.loop-number.number ≡ c.args.names = omega (arith, c.loop-number-test.false) in
    subst (λ n. AreFreshNames n c.args.start c.loop-number.fresh c.loop-number.registers) number c.loop-number.invariant.used
