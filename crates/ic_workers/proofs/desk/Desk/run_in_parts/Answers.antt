use Rattle.std.proofs.Common.{refl}
use Rattle.ic_workers.specs.inner.Keeping.{parts_at}
use Rattle.ic_workers.proofs.Desks.{come_same}
use Rattle.ic_workers.proofs.Lists.{ok_then}
use Rattle.ic_workers.proofs.Workings.{come_on}
use Rattle.ic_workers.proofs.desk.Desk.run_in_parts.Goals as goal

pub returns-then-policy-le1-clause-come : goal.returns-then-policy-le1-clause-come
returns-then-policy-le1-clause-come g c = come_same c.args.program.now c.args.self.now c.args.self.now refl

pub returns-clause-come : goal.returns-clause-come
returns-clause-come g c =
    ok_then c.take_steps.result (λ took.
    come_on c.args.program.now (parts_at c.args.self.now) (parts_at c.run_alone.new.self) (parts_at c.take_steps.new.self)
    c.in_ok-run_alone.ensures.come
    (come_on c.args.program.now (parts_at c.run_alone.new.self) (parts_at c.spread.new.self) (parts_at c.take_steps.new.self)
    c.in_ok-spread.ensures.come
    (come_on c.args.program.now (parts_at c.spread.new.self) (parts_at c.divide.new.self) (parts_at c.take_steps.new.self)
    c.in_ok-divide.ensures.come took))) c.take_steps.ensures.come
