use Rattle.std.proofs.Common.{◌∙◌, ◌+◌, sym, ap, List, ℕ, arith}
use Rattle.ic_disk.specs.Content.{bytes_at}
use Rattle.ic_frames.specs.Places.{place}
use Rattle.ic_frames.proofs.FieldLemmas.{short_shut, shut_from, open_from, gate_read, number_read, size_read}
use Rattle.ic_frames.proofs.ReadLemmas.{reads_then}
use Rattle.ic_frames.proofs.opening.read_head.Goals as goal

pub returns-then-len-at-clause-head : goal.returns-then-len-at-clause-head
returns-then-len-at-clause-head g c keeps =
    short_shut (place c.args.slot) (g.D.Disk.content c.args.disk.now) (omega (arith, c.requires keeps, c.if-len-at.true, c.place-at.ensures))

pub returns-then-gate-ne1-clause-head : goal.returns-then-gate-ne1-clause-head
returns-then-gate-ne1-clause-head g c keeps =
    let at = place c.args.slot in
    let file = g.D.Disk.content c.args.disk.now in
    let read = c.in_ok-gate.ensures.bytes keeps ∙ ap (λ (k : ℕ). bytes_at k 1 file) c.place-at.ensures in
    shut_from at file (λ is_one. c.if-gate-ne1.true (gate_read at file c.in_ok-gate.gate read ∙ is_one))

pub returns-clause-head : goal.returns-clause-head
returns-clause-head g c keeps =
    let at = place c.args.slot in
    let disk = g.D.Disk in
    let file = disk.content c.args.disk.now in
    let once = c.read_bytes.ensures.reads keeps in
    let keeps_once = c.read_bytes.ensures.keeps ∙ keeps in
    let twice = c.read_bytes-2.ensures.reads keeps_once in
    let keeps_twice = c.read_bytes-2.ensures.keeps ∙ keeps_once in
    let gate = c.in_ok-gate.ensures.bytes keeps ∙ ap (λ (k : ℕ). bytes_at k 1 file) c.place-at.ensures in
    let number = c.in_ok-read_bytes.ensures.bytes keeps_once ∙ ap (λ (f : List ℕ). bytes_at (c.place-at.result + 1) 8 f) once.same ∙ ap (λ (k : ℕ). bytes_at (k + 1) 8 file) c.place-at.ensures in
    let size = c.in_ok-read_bytes-2.ensures.bytes keeps_twice ∙ ap (λ (f : List ℕ). bytes_at (c.place-at.result + 9) 4 f) (twice.same ∙ once.same) ∙ ap (λ (k : ℕ). bytes_at (k + 9) 4 file) c.place-at.ensures in
    record {
      opened = open_from at file (omega (arith, c.requires keeps, c.if-len-at.false, c.place-at.ensures)) (sym (gate_read at file c.in_ok-gate.gate gate) ∙ c.if-gate-ne1.false);
      number_is = number_read at file c.in_ok-read_bytes.field-0 c.from_be_bytes-number.result number c.from_be_bytes-number.ensures;
      size_is = size_read at file c.in_ok-read_bytes-2.field-0 c.from_be_bytes-size.result size c.from_be_bytes-size.ensures;
    }

pub returns-clause-reads : goal.returns-clause-reads
returns-clause-reads g c keeps =
    let disk = g.D.Disk in
    let old = c.args.disk.now in
    let keeps_once = c.read_bytes.ensures.keeps ∙ keeps in
    let keeps_twice = c.read_bytes-2.ensures.keeps ∙ keeps_once in
    reads_then disk.content disk.image disk.clock disk.left old c.read_bytes-2.new.disk c.read_bytes-3.new.disk
    (reads_then disk.content disk.image disk.clock disk.left old c.read_bytes.new.disk c.read_bytes-2.new.disk (c.read_bytes.ensures.reads keeps) (c.read_bytes-2.ensures.reads keeps_once))
    (c.read_bytes-3.ensures.reads keeps_twice)

pub returns-in_err-read_bytes-clause-reads : goal.returns-in_err-read_bytes-clause-reads
returns-in_err-read_bytes-clause-reads g c keeps =
    let disk = g.D.Disk in
    reads_then disk.content disk.image disk.clock disk.left c.args.disk.now c.read_bytes.new.disk c.read_bytes-2.new.disk
    (c.read_bytes.ensures.reads keeps) (c.read_bytes-2.ensures.reads (c.read_bytes.ensures.keeps ∙ keeps))

pub returns-in_err-read_bytes-2-clause-reads : goal.returns-in_err-read_bytes-2-clause-reads
returns-in_err-read_bytes-2-clause-reads g c keeps =
    let disk = g.D.Disk in
    let old = c.args.disk.now in
    let keeps_once = c.read_bytes.ensures.keeps ∙ keeps in
    let keeps_twice = c.read_bytes-2.ensures.keeps ∙ keeps_once in
    reads_then disk.content disk.image disk.clock disk.left old c.read_bytes-2.new.disk c.read_bytes-3.new.disk
    (reads_then disk.content disk.image disk.clock disk.left old c.read_bytes.new.disk c.read_bytes-2.new.disk (c.read_bytes.ensures.reads keeps) (c.read_bytes-2.ensures.reads keeps_once))
    (c.read_bytes-3.ensures.reads keeps_twice)
