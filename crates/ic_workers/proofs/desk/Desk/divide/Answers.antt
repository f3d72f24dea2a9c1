use Rattle.std.proofs.Common.{◌≡◌, ◌∙◌, ◌≤◌, arith, length, refl}
use Rattle.ic_machine.specs.Plan.{Plans}
use Rattle.ic_workers.proofs.Desks.{come_same}
use Rattle.ic_workers.proofs.Workings.{come_on}
use Rattle.ic_workers.specs.declared.desk.Desk.{Desk}
use Rattle.ic_workers.specs.inner.HandsOn.{Come}
use Rattle.ic_workers.specs.inner.Keeping.{parts_at}
use Rattle.ic_workers.proofs.desk.Desk.divide.Goals as goal
use Rattle.ic_workers.proofs.desk.Desk.divide.Goals.{then-pairs-gt0+in_ok-add+in_ok-share, else-pairs-gt0}

pub loop-init : goal.loop-init
loop-init g c = record {
  come = come_same c.args.program.now c.args.self.now c.args.self.now refl;
  desk = c.requires.desk;
  within = c.requires.within;
  next = omega arith;
}

pub loop-preserved : goal.loop-preserved
loop-preserved g c =
    let p : Plans = c.args.program.now in
    let before : Desk = c.loop.self in
    let divided : Desk = c.if-pairs-gt0.self in
    let after : Desk = c.run_alone.new.self in
    let both : Come p (parts_at before) (parts_at divided) × (length before.parts.items ≤ length divided.parts.items) × (divided.made ≡ before.made) =
    elim c.if-pairs-gt0.branch [
      | then-pairs-gt0+in_ok-add+in_ok-share w ↦
          let more : Desk = w.add.new.self in
          let shared : Desk = w.share.new.self in
          rw w.self-is (
            come_on p (parts_at before) (parts_at more) (parts_at shared) w.in_ok-add.ensures.come
                (w.in_ok-share.ensures.come p w.in_ok-add.ensures.desk).0,
            omega (arith, w.in_ok-add.ensures.len, w.share.ensures.len),
            w.share.ensures.made ∙ w.add.ensures.made,
          )
      | else-pairs-gt0 w ↦ rw w.self-is (come_same p before before refl, omega arith, refl)
    ] in
    let least = both.1 in
    let made = both.2 in
    record {
      come = come_on p (parts_at c.args.self.now) (parts_at before) (parts_at after) c.loop.invariant.come
          (come_on p (parts_at before) (parts_at divided) (parts_at after) both.0 c.in_ok-run_alone.ensures.come);
      desk = c.in_ok-run_alone.ensures.desk;
      within = omega (arith, c.in_ok-run_alone.ensures.within, made, c.if-steps-eq0.false, c.loop.invariant.within);
      next = omega (arith, c.in-Some.ensures, least, c.in_ok-run_alone.ensures.len);
    }
