use Rattle.std.proofs.Common.{inr, sym, ◌∙◌, ◌≤◌, ◌+◌, length, drop, refl, arith, rules, length-drop}
use Rattle.ic_disk.specs.lemmas.Moments.{started}
use Rattle.ic_frames.specs.Held.{Holds}
use Rattle.ic_frames.proofs.PhaseLemmas.{body_run, body_if_made, body_end, body_written, body_written_whole}
use Rattle.ic_frames.proofs.frames.Frames.write_body.Goals as goal

pub invariant_of-self-2 : goal.invariant_of-self-2
invariant_of-self-2 g c = record {
  kept = λ keeps_new ready.
      let disk = g.D.Disk in
      let old = c.args.self.now in
      let keeps = sym c.write_frame.ensures.keeps ∙ keeps_new in
      let short : length (drop 13 c.args.frame.now) ≤ 3036677 = omega (arith, c.requires.short, length-drop 13 c.args.frame.now) in
      (body_end disk.content disk.image disk.clock disk.left old.disk c.write_frame.new.disk (g.met.D.Disk.content_is_image old.disk) old.newest c.other.result old.number c.other.ensures
      old.closed old.staged old.made c.written_from-skip.result (drop 13 c.args.frame.now) c.fill_head.new.frame (old.kept keeps c.in_ok-check_usable.ensures.ok.0) c.requires.closed c.fill_head.ensures short c.written_from-skip.ensures.which
      (c.in_ok-write_frame.ensures.written keeps) (c.in_ok-write_frame.ensures.durable keeps)).0;
}

pub returns-in_err-check_usable-clause-crash : goal.returns-in_err-check_usable-clause-crash
returns-in_err-check_usable-clause-crash g c =
    let disk = g.D.Disk in
    let old = c.args.self.now.disk in
    record {
      keeps = refl;
      any_moment = λ kept keeps holds. started disk.clock disk.left old (Holds kept) (λ file left. holds file (g.met.D.Disk.left_is_image old file left));
      whole = search rules;
      made = search rules;
      holds_if_made = λ kept keeps has all file there. record { made = all file there; held = has file there };
    }

pub returns-clause-writes : goal.returns-clause-writes
returns-clause-writes g c =
    let disk = g.D.Disk in
    let old = c.args.self.now in
    record {
      staged = search rules;
      closed = search rules;
      target = search rules;
      number = search rules;
      written = λ keeps made.
          body_written disk.content disk.image disk.clock disk.left old.disk c.write_frame.new.disk (g.met.D.Disk.content_is_image old.disk) old.newest c.other.result old.number c.other.ensures
          old.closed old.staged old.made c.written_from-skip.result (drop 13 c.args.frame.now) c.fill_head.new.frame (old.kept keeps c.in_ok-check_usable.ensures.ok.0) c.fill_head.ensures c.written_from-skip.ensures.which
          (c.in_ok-write_frame.ensures.written keeps) made;
      written_whole = λ keeps made.
          body_written_whole disk.content disk.image disk.clock disk.left old.disk c.write_frame.new.disk (g.met.D.Disk.content_is_image old.disk) old.newest c.other.result old.number c.other.ensures
          old.closed old.staged old.made c.written_from-skip.result (drop 13 c.args.frame.now) c.fill_head.new.frame (old.kept keeps c.in_ok-check_usable.ensures.ok.0) c.fill_head.ensures c.written_from-skip.ensures.which
          (c.in_ok-write_frame.ensures.written keeps) made;
      calls = search rules;
    }

pub returns-in_err-write_frame-clause-crash : goal.returns-in_err-write_frame-clause-crash
returns-in_err-write_frame-clause-crash g c =
    let disk = g.D.Disk in
    let old = c.args.self.now in
    let new = c.write_frame.new.disk in
    record {
      keeps = c.write_frame.ensures.keeps;
      any_moment = λ kept keeps holds.
          let frame = c.fill_head.new.frame in
          let short : length frame ≤ 13 + 3036677 = omega (arith, c.requires.short, c.fill_head.auto.frame) in
          body_run disk.content disk.image disk.clock disk.left old.disk new (g.met.D.Disk.content_is_image old.disk) old.newest c.other.result old.number c.other.ensures
          old.closed old.staged old.made c.written_from-skip.result frame (old.kept keeps c.in_ok-check_usable.ensures.ok.0) c.requires.closed short c.written_from-skip.ensures.which (c.write_frame.ensures.any_moment keeps) kept holds;
      whole = search rules;
      made = search rules;
      holds_if_made = λ kept keeps has all.
          let short : length (drop 13 c.args.frame.now) ≤ 3036677 = omega (arith, c.requires.short, length-drop 13 c.args.frame.now) in
          body_if_made disk.content disk.image disk.clock disk.left old.disk new (g.met.D.Disk.content_is_image old.disk) old.newest c.other.result old.number c.other.ensures
          old.closed old.staged old.made c.written_from-skip.result (drop 13 c.args.frame.now) c.fill_head.new.frame (old.kept keeps c.in_ok-check_usable.ensures.ok.0) c.requires.closed c.fill_head.ensures short c.written_from-skip.ensures.which
          (c.write_frame.ensures.any_moment keeps) (λ file later there. g.met.D.Disk.image_is_left new (disk.clock old.disk) file later there)
          (c.in_err-write_frame.ensures.failed keeps) kept has all;
    }

pub returns-clause-crash : goal.returns-clause-crash
returns-clause-crash g c =
    let disk = g.D.Disk in
    let old = c.args.self.now in
    let new = c.write_frame.new.disk in
    record {
      keeps = c.write_frame.ensures.keeps;
      any_moment = λ kept keeps holds.
          let frame = c.fill_head.new.frame in
          let short : length frame ≤ 13 + 3036677 = omega (arith, c.requires.short, c.fill_head.auto.frame) in
          body_run disk.content disk.image disk.clock disk.left old.disk new (g.met.D.Disk.content_is_image old.disk) old.newest c.other.result old.number c.other.ensures
          old.closed old.staged old.made c.written_from-skip.result frame (old.kept keeps c.in_ok-check_usable.ensures.ok.0) c.requires.closed short c.written_from-skip.ensures.which (c.write_frame.ensures.any_moment keeps) kept holds;
      whole = λ keeps.
          let short : length (drop 13 c.args.frame.now) ≤ 3036677 = omega (arith, c.requires.short, length-drop 13 c.args.frame.now) in
          (body_end disk.content disk.image disk.clock disk.left old.disk new (g.met.D.Disk.content_is_image old.disk) old.newest c.other.result old.number c.other.ensures
          old.closed old.staged old.made c.written_from-skip.result (drop 13 c.args.frame.now) c.fill_head.new.frame (old.kept keeps c.in_ok-check_usable.ensures.ok.0) c.requires.closed c.fill_head.ensures short c.written_from-skip.ensures.which
          (c.in_ok-write_frame.ensures.written keeps) (c.in_ok-write_frame.ensures.durable keeps)).1;
      made = λ keeps.
          let short : length (drop 13 c.args.frame.now) ≤ 3036677 = omega (arith, c.requires.short, length-drop 13 c.args.frame.now) in
          (body_end disk.content disk.image disk.clock disk.left old.disk new (g.met.D.Disk.content_is_image old.disk) old.newest c.other.result old.number c.other.ensures
          old.closed old.staged old.made c.written_from-skip.result (drop 13 c.args.frame.now) c.fill_head.new.frame (old.kept keeps c.in_ok-check_usable.ensures.ok.0) c.requires.closed c.fill_head.ensures short c.written_from-skip.ensures.which
          (c.in_ok-write_frame.ensures.written keeps) (c.in_ok-write_frame.ensures.durable keeps)).0.all_made refl;
      holds_if_made = λ kept keeps has all.
          let short : length (drop 13 c.args.frame.now) ≤ 3036677 = omega (arith, c.requires.short, length-drop 13 c.args.frame.now) in
          body_if_made disk.content disk.image disk.clock disk.left old.disk new (g.met.D.Disk.content_is_image old.disk) old.newest c.other.result old.number c.other.ensures
          old.closed old.staged old.made c.written_from-skip.result (drop 13 c.args.frame.now) c.fill_head.new.frame (old.kept keeps c.in_ok-check_usable.ensures.ok.0) c.requires.closed c.fill_head.ensures short c.written_from-skip.ensures.which
          (c.write_frame.ensures.any_moment keeps) (λ file later there. g.met.D.Disk.image_is_left new (disk.clock old.disk) file later there)
          (inr (c.in_ok-write_frame.ensures.durable keeps)) kept has all;
    }
