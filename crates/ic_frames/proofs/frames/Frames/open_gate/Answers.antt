use Rattle.std.proofs.Common.{sym, ◌∙◌, ◌+◌, subst, Bool, false, rules}
use Rattle.std.proofs.lemmas.Bool.{false≢true}
use Rattle.ic_frames.specs.inner.Standing.{IsKept}
use Rattle.ic_frames.proofs.PhaseLemmas.{open_run, open_end, open_whole, opened_newest, made_now}
use Rattle.ic_frames.proofs.frames.Frames.open_gate.Goals as goal

pub invariant_of-self-2 : goal.invariant_of-self-2
invariant_of-self-2 g c = record {
  kept = λ keeps_new ready.
      let disk = g.D.Disk in
      let old = c.args.self.now in
      let keeps = sym c.write_gate.ensures.keeps ∙ keeps_new in
      let is = old.kept keeps c.in_ok-check_usable.ensures.ok.0 in
      let now = g.met.D.Disk.content_is_image old.disk in
      let new = c.write_gate.new.disk in
      let target = c.other-target.result in
      subst (λ (b : Bool). IsKept (disk.content new) (disk.image new) target (old.number + 1) false false b)
      (sym (made_now disk.content disk.image disk.clock disk.left old.disk new now old.newest target old.number c.other-target.ensures old.closed old.staged old.made is c.requires))
      (open_end disk.content disk.image disk.clock disk.left old.disk new now old.newest target old.number c.other-target.ensures
      old.closed old.staged old.made is c.requires (c.in_ok-write_gate.ensures.written keeps) (c.in_ok-write_gate.ensures.durable keeps));
}

pub returns-in_err-write_gate-clause-crash : goal.returns-in_err-write_gate-clause-crash
returns-in_err-write_gate-clause-crash g c =
    let disk = g.D.Disk in
    let old = c.args.self.now in
    let new = c.write_gate.new.disk in
    record {
      keeps = c.write_gate.ensures.keeps;
      any_moment = λ kept next keeps holds whole.
          open_run disk.content disk.image disk.clock disk.left old.disk new (g.met.D.Disk.content_is_image old.disk) old.newest c.other-target.result old.number c.other-target.ensures
          old.closed old.staged old.made (old.kept keeps c.in_ok-check_usable.ensures.ok.0) c.requires (c.write_gate.ensures.any_moment keeps) kept next holds whole;
      holds = search rules;
      newest = search rules;
    }

pub returns-clause-crash : goal.returns-clause-crash
returns-clause-crash g c =
    let disk = g.D.Disk in
    let old = c.args.self.now in
    let new = c.write_gate.new.disk in
    record {
      keeps = c.write_gate.ensures.keeps;
      any_moment = λ kept next keeps holds whole.
          open_run disk.content disk.image disk.clock disk.left old.disk new (g.met.D.Disk.content_is_image old.disk) old.newest c.other-target.result old.number c.other-target.ensures
          old.closed old.staged old.made (old.kept keeps c.in_ok-check_usable.ensures.ok.0) c.requires (c.write_gate.ensures.any_moment keeps) kept next holds whole;
      holds = λ next keeps whole.
          open_whole disk.content disk.image disk.clock disk.left old.disk new (g.met.D.Disk.content_is_image old.disk) old.newest c.other-target.result old.number c.other-target.ensures
          old.closed old.staged old.made (old.kept keeps c.in_ok-check_usable.ensures.ok.0) c.requires (c.in_ok-write_gate.ensures.durable keeps) next whole;
      newest = λ keeps file there.
          let has = opened_newest disk.content disk.image disk.clock disk.left old.disk new (g.met.D.Disk.content_is_image old.disk) old.newest c.other-target.result old.number c.other-target.ensures
          old.closed old.staged old.made (old.kept keeps c.in_ok-check_usable.ensures.ok.0) c.requires (c.in_ok-write_gate.ensures.durable keeps) file there in
          record { newest = has.0; number_is = has.1; shut = λ e. absurd (false≢true e); opened = λ _. has.2 };
    }
