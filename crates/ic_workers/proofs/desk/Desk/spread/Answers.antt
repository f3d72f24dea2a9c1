use Rattle.std.proofs.Common.{◌≡◌, ◌∙◌, arith, length, refl}
use Rattle.ic_machine.specs.Plan.{Plans}
use Rattle.ic_workers.proofs.Desks.{come_same}
use Rattle.ic_workers.proofs.Workings.{come_on}
use Rattle.ic_workers.specs.declared.desk.Desk.{Desk}
use Rattle.ic_workers.specs.inner.Keeping.{parts_at}
use Rattle.ic_workers.proofs.desk.Desk.spread.Goals as goal

pub loop-init : goal.loop-init
loop-init c = record {
  come = come_same c.args.program.now c.args.self.now c.args.self.now refl;
  desk = c.requires.desk;
  some = c.requires.some;
  made = refl;
}

pub loop-preserved : goal.loop-preserved
loop-preserved c =
    let p : Plans = c.args.program.now in
    let before : Desk = c.loop.self in
    let more : Desk = c.add.new.self in
    let after : Desk = c.share.new.self in
    let shared = c.in_ok-share.ensures.come p c.in_ok-add.ensures.desk in
    record {
      come = come_on p (parts_at c.args.self.now) (parts_at before) (parts_at after) c.loop.invariant.come
          (come_on p (parts_at before) (parts_at more) (parts_at after) c.in_ok-add.ensures.come shared.0);
      desk = shared.1;
      some = omega (arith, c.loop.invariant.some, c.in_ok-add.ensures.len, c.share.ensures.len);
      made = c.share.ensures.made ∙ (c.add.ensures.made ∙ c.loop.invariant.made);
    }
