use Rattle.std.proofs.Common.{arith, refl}
use Rattle.ic_workers.proofs.Desks.{come_same}
use Rattle.ic_workers.proofs.Workings.{come_on}
use Rattle.ic_workers.specs.inner.HandsOn.{Come}
use Rattle.ic_workers.specs.inner.Keeping.{parts_at}
use Rattle.ic_workers.specs.declared.desk.Desk.{Desk}
use Rattle.ic_machine.specs.Plan.{Plans}
use Rattle.ic_workers.proofs.desk.Desk.take_steps.Goals as goal

-- the parts that came here were fed and took a step
came : (p : Plans) (a b d e : Desk) → Come p (parts_at a) (parts_at b) → Come p (parts_at b) (parts_at d)
    → Come p (parts_at d) (parts_at e) → Come p (parts_at a) (parts_at e)
came p a b d e first fed step =
    come_on p (parts_at a) (parts_at b) (parts_at e) first (come_on p (parts_at b) (parts_at d) (parts_at e) fed step)

pub loop-init : goal.loop-init
loop-init g c = record {
  come = come_same c.args.program.now c.args.self.now c.args.self.now refl;
  desk = c.requires.desk;
  within = c.requires.within;
}

pub returns-then-is_empty-clause-come : goal.returns-then-is_empty-clause-come
returns-then-is_empty-clause-come g c =
    come_on c.args.program.now (parts_at c.args.self.now) (parts_at c.loop.self) (parts_at c.feed.new.self) c.loop.invariant.come
    c.in_ok-feed.ensures.come

pub returns-then-not-is_enough-clause-come : goal.returns-then-not-is_enough-clause-come
returns-then-not-is_enough-clause-come g c =
    came c.args.program.now c.args.self.now c.loop.self c.feed.new.self c.take_step.new.self c.loop.invariant.come
    c.in_ok-feed.ensures.come c.in_ok-ran.ensures.come

pub loop-preserved : goal.loop-preserved
loop-preserved g c = record {
  come = came c.args.program.now c.args.self.now c.loop.self c.feed.new.self c.take_step.new.self c.loop.invariant.come
      c.in_ok-feed.ensures.come c.in_ok-ran.ensures.come;
  desk = c.in_ok-ran.ensures.desk;
  within = omega (arith, c.in_ok-ran.ensures.within, c.feed.ensures.made, c.loop.invariant.within);
}
