use Rattle.std.proofs.Common.{sym, ◌∙◌, refl, rules}
use Rattle.ic_frames.proofs.PhaseLemmas.{gate_run, gate_stays, gate_end}
use Rattle.ic_frames.proofs.frames.Frames.close_gate.Goals as goal

pub invariant_of-self-2 : goal.invariant_of-self-2
invariant_of-self-2 g c = record {
  kept = λ keeps_new ready.
      let disk = g.D.Disk in
      let old = c.args.self.now in
      let keeps = sym c.write_gate.ensures.keeps ∙ keeps_new in
      gate_end disk.content disk.image disk.clock disk.left old.disk c.write_gate.new.disk (g.met.D.Disk.content_is_image old.disk) old.newest c.other.result old.number c.other.ensures
      old.closed old.staged old.made (old.kept keeps c.in_ok-check_usable.ensures.ok.0) c.if-closed.false (c.in_ok-write_gate.ensures.written keeps) (c.in_ok-write_gate.ensures.durable keeps);
}

pub returns-in_err-write_gate-clause-crash : goal.returns-in_err-write_gate-clause-crash
returns-in_err-write_gate-clause-crash g c =
    let disk = g.D.Disk in
    let old = c.args.self.now in
    let new = c.write_gate.new.disk in
    record {
      keeps = c.write_gate.ensures.keeps;
      any_moment = λ kept keeps holds.
          gate_run disk.content disk.image disk.clock disk.left old.disk new (g.met.D.Disk.content_is_image old.disk) old.newest c.other.result old.number c.other.ensures
          old.closed old.staged old.made (old.kept keeps c.in_ok-check_usable.ensures.ok.0) c.if-closed.false (c.write_gate.ensures.any_moment keeps) kept holds;
      shut = search rules;
      stays = λ kept keeps has.
          gate_stays disk.content disk.image disk.clock disk.left old.disk new (g.met.D.Disk.content_is_image old.disk) old.newest c.other.result old.number c.other.ensures
          old.closed old.staged old.made (old.kept keeps c.in_ok-check_usable.ensures.ok.0) c.if-closed.false (c.write_gate.ensures.any_moment keeps)
          (λ file later there. g.met.D.Disk.image_is_left new (disk.clock old.disk) file later there) kept has;
    }

pub returns-clause-crash : goal.returns-clause-crash
returns-clause-crash g c =
    let disk = g.D.Disk in
    let old = c.args.self.now in
    let new = c.write_gate.new.disk in
    record {
      keeps = c.write_gate.ensures.keeps;
      any_moment = λ kept keeps holds.
          gate_run disk.content disk.image disk.clock disk.left old.disk new (g.met.D.Disk.content_is_image old.disk) old.newest c.other.result old.number c.other.ensures
          old.closed old.staged old.made (old.kept keeps c.in_ok-check_usable.ensures.ok.0) c.if-closed.false (c.write_gate.ensures.any_moment keeps) kept holds;
      shut = λ keeps file there.
          ((gate_end disk.content disk.image disk.clock disk.left old.disk new (g.met.D.Disk.content_is_image old.disk) old.newest c.other.result old.number c.other.ensures
          old.closed old.staged old.made (old.kept keeps c.in_ok-check_usable.ensures.ok.0) c.if-closed.false (c.in_ok-write_gate.ensures.written keeps) (c.in_ok-write_gate.ensures.durable keeps)).stands file there).shut refl;
      stays = λ kept keeps has.
          gate_stays disk.content disk.image disk.clock disk.left old.disk new (g.met.D.Disk.content_is_image old.disk) old.newest c.other.result old.number c.other.ensures
          old.closed old.staged old.made (old.kept keeps c.in_ok-check_usable.ensures.ok.0) c.if-closed.false (c.write_gate.ensures.any_moment keeps)
          (λ file later there. g.met.D.Disk.image_is_left new (disk.clock old.disk) file later there) kept has;
    }
