use Rattle.std.proofs.Common.{◌≡◌, ◌∙◌, inl, inr, ⊎_elim, ◌+◌, true, [], ◌∷◌, drop, ap, arith, rules}
use Rattle.std.proofs.lemmas.Bool.{cases_Bool}
use Rattle.ic_disk.specs.Content.{laid}
use Rattle.ic_disk.specs.Images.{Within}
use Rattle.ic_disk.specs.lemmas.Moments.{leaves_weaker}
use Rattle.ic_frames.specs.Places.{place, other}
use Rattle.ic_frames.specs.Layout.{slot_bytes}
use Rattle.ic_frames.specs.Held.{Holds, HoldsEither, the_body, body_held}
use Rattle.ic_frames.proofs.LaidLemmas.{keep_written}
use Rattle.ic_frames.proofs.PhaseLemmas.{at_end, keep_run, stop_run, on_ok}
use Rattle.ic_frames.proofs.frames.Frames.keep.Goals as goal

pub returns-clause-slot : goal.returns-clause-slot
returns-clause-slot g c =
    let disk = g.D.Disk in
    let old = c.args.self.now in
    let closed = c.close_gate.new.self in
    let staged = c.write_body.new.self in
    let new = c.open_gate.new.self.disk in
    let body = drop 13 c.args.frame.now in
    let first = c.close_gate.ensures.closes.calls in
    let second = c.write_body.ensures.writes.calls in
    let third = c.open_gate.ensures.opens.calls in
    record {
      written = λ keeps.
          let keeps_once = c.close_gate.ensures.crash.keeps ∙ keeps in
          on_ok c.open_gate.result (disk.content new ≡ laid (place (other staged.newest)) (1 ∷ []) (disk.content staged.disk))
          (disk.content new ≡ laid (place (other old.newest)) (slot_bytes (old.number + 1) body) (disk.content old.disk))
          (λ last. keep_written (other old.newest) (other closed.newest) (other staged.newest) old.number closed.number body
          (disk.content old.disk) (disk.content closed.disk) (disk.content staged.disk) (disk.content new)
          c.close_gate.ensures.closes.target c.write_body.ensures.writes.target c.close_gate.ensures.closes.number
          (⊎_elim (λ shut. inl (ap disk.content (c.close_gate.ensures.closes.idle shut))) (λ opened. inr (c.in_ok-close_gate.ensures.closes.written keeps opened)) (cases_Bool old.closed))
          (λ made. c.in_ok-write_body.ensures.writes.written keeps_once made)
          (λ cut. c.in_ok-write_body.ensures.writes.written_whole keeps_once cut)
          last)
          (c.open_gate.ensures.opens.written (c.write_body.ensures.crash.keeps ∙ keeps_once));
      calls = omega (arith, first, second, third);
      few_calls = λ shut. let idle = ap disk.clock (c.close_gate.ensures.closes.idle shut) in omega (arith, idle, second, third);
    }

pub returns-in_err-close_gate-clause-crash : goal.returns-in_err-close_gate-clause-crash
returns-in_err-close_gate-clause-crash g c =
    let disk = g.D.Disk in
    let crash = c.close_gate.ensures.crash in
    let body = drop 13 c.args.frame.now in
    record {
      keeps = crash.keeps;
      any_moment = λ kept keeps holds.
          leaves_weaker disk.clock disk.left c.args.self.now.disk c.close_gate.new.self.disk (Holds kept) (HoldsEither kept body) (crash.any_moment kept keeps holds) (λ file is. inl is);
      either_if_made = λ kept keeps has all file there. inl (record { made = all file there; held = crash.stays kept keeps has file there });
      holds = search rules;
      held = search rules;
      newest = search rules;
    }

pub returns-in_err-write_body-clause-crash : goal.returns-in_err-write_body-clause-crash
returns-in_err-write_body-clause-crash g c =
    let disk = g.D.Disk in
    let old = c.args.self.now.disk in
    let closed = c.close_gate.new.self.disk in
    let first = c.close_gate.ensures.crash in
    let second = c.write_body.ensures.crash in
    record {
      keeps = second.keeps ∙ first.keeps;
      any_moment = λ kept keeps holds.
          let closing = first.any_moment kept keeps holds in
          stop_run disk.image disk.clock disk.left old closed c.write_body.new.self.disk kept (drop 13 c.args.frame.now) closing
          (second.any_moment kept (first.keeps ∙ keeps)
          (at_end disk.image disk.clock disk.left old closed (Holds kept) (λ file is. g.met.D.Disk.image_is_left closed (disk.clock old) file closing.later is) closing));
      either_if_made = λ kept keeps has all file there. inl (second.holds_if_made kept (first.keeps ∙ keeps) (first.stays kept keeps has) all file there);
      holds = search rules;
      held = search rules;
      newest = search rules;
    }

pub returns-clause-crash : goal.returns-clause-crash
returns-clause-crash g c =
    let disk = g.D.Disk in
    let law = g.met.D.Disk.image_is_left in
    let old = c.args.self.now.disk in
    let closed = c.close_gate.new.self.disk in
    let staged = c.write_body.new.self.disk in
    let new = c.open_gate.new.self.disk in
    let body = drop 13 c.args.frame.now in
    let first = c.close_gate.ensures.crash in
    let second = c.in_ok-write_body.ensures.crash in
    let third = c.open_gate.ensures.crash in
    let ends = λ (keeps : disk.keeps old ≡ true). third.holds body (second.keeps ∙ (first.keeps ∙ keeps)) (second.whole (first.keeps ∙ keeps)) in
    record {
      keeps = third.keeps ∙ (second.keeps ∙ first.keeps);
      any_moment = λ kept keeps holds.
          let keeps_once = first.keeps ∙ keeps in
          let closing = first.any_moment kept keeps holds in
          let holds_once = at_end disk.image disk.clock disk.left old closed (Holds kept) (λ file is. law closed (disk.clock old) file closing.later is) closing in
          let writing = second.any_moment kept keeps_once holds_once in
          let holds_twice = at_end disk.image disk.clock disk.left closed staged (Holds kept) (λ file is. law staged (disk.clock closed) file writing.later is) writing in
          keep_run disk.image disk.clock disk.left old closed staged new kept body closing writing
          (third.any_moment kept body (second.keeps ∙ keeps_once) holds_twice (second.whole keeps_once));
      either_if_made = λ kept keeps has all.
          let keeps_once = first.keeps ∙ keeps in
          let opening = third.any_moment kept body (second.keeps ∙ keeps_once) (second.holds_if_made kept keeps_once (first.stays kept keeps has) (second.made keeps_once)) (second.whole keeps_once) in
          at_end disk.image disk.clock disk.left staged new (HoldsEither kept body) (λ file is. law new (disk.clock staged) file opening.later is) opening;
      holds = ends;
      held = λ keeps.
          on_ok c.open_gate.result (Within (disk.image new) (Holds body)) (body_held (disk.content new) ≡ the_body body)
          (λ holds. (holds (disk.content new) (g.met.D.Disk.content_is_image new)).held)
          (ends keeps);
      newest = λ keeps. third.newest (second.keeps ∙ (first.keeps ∙ keeps));
    }
