use Rattle.std.proofs.Common.{◌∙◌, sym, ap, List, ℕ}
use Rattle.ic_disk.specs.Content.{bytes_at}
use Rattle.ic_kept.proofs.SheetLemmas.{gate_read, number_read, size_read}
use Rattle.ic_kept.proofs.ReadLemmas.{reads_then}
use Rattle.ic_kept.proofs.finding.read_head.Goals as goal

pub returns-then-gate-ne1-clause-head : goal.returns-then-gate-ne1-clause-head
returns-then-gate-ne1-clause-head g c keeps is_one =
    c.if-gate-ne1.true (gate_read (g.D.Disk.content c.args.disk.now) c.in_ok-gate.gate (c.in_ok-gate.ensures.bytes keeps) ∙ is_one)

pub returns-clause-head : goal.returns-clause-head
returns-clause-head g c keeps =
    let disk = g.D.Disk in
    let file = disk.content c.args.disk.now in
    let once = c.read_bytes.ensures.reads keeps in
    let keeps_once = c.read_bytes.ensures.keeps ∙ keeps in
    let twice = c.read_bytes-2.ensures.reads keeps_once in
    let keeps_twice = c.read_bytes-2.ensures.keeps ∙ keeps_once in
    let gate = c.in_ok-gate.ensures.bytes keeps in
    let number = c.in_ok-read_bytes.ensures.bytes keeps_once ∙ ap (λ (f : List ℕ). bytes_at 1 8 f) once.same in
    let size = c.in_ok-read_bytes-2.ensures.bytes keeps_twice ∙ ap (λ (f : List ℕ). bytes_at 9 8 f) (twice.same ∙ once.same) in
    record {
      opened = sym (gate_read file c.in_ok-gate.gate gate) ∙ c.if-gate-ne1.false;
      number_is = number_read file c.in_ok-read_bytes.field-0 c.from_be_bytes-number.result number c.from_be_bytes-number.ensures;
      size_is = size_read file c.in_ok-read_bytes-2.field-0 c.from_be_bytes-size.result size c.from_be_bytes-size.ensures;
    }

pub returns-clause-reads : goal.returns-clause-reads
returns-clause-reads g c keeps =
    let disk = g.D.Disk in
    let old = c.args.disk.now in
    let keeps_once = c.read_bytes.ensures.keeps ∙ keeps in
    let keeps_twice = c.read_bytes-2.ensures.keeps ∙ keeps_once in
    reads_then disk.keeps disk.content disk.image disk.clock disk.left old c.read_bytes-2.new.disk c.read_bytes-3.new.disk
    (reads_then disk.keeps disk.content disk.image disk.clock disk.left old c.read_bytes.new.disk c.read_bytes-2.new.disk (c.read_bytes.ensures.reads keeps) (c.read_bytes-2.ensures.reads keeps_once))
    (c.read_bytes-3.ensures.reads keeps_twice)

pub returns-in_err-read_bytes-clause-reads : goal.returns-in_err-read_bytes-clause-reads
returns-in_err-read_bytes-clause-reads g c keeps =
    let disk = g.D.Disk in
    reads_then disk.keeps disk.content disk.image disk.clock disk.left c.args.disk.now c.read_bytes.new.disk c.read_bytes-2.new.disk
    (c.read_bytes.ensures.reads keeps) (c.read_bytes-2.ensures.reads (c.read_bytes.ensures.keeps ∙ keeps))

pub returns-in_err-read_bytes-2-clause-reads : goal.returns-in_err-read_bytes-2-clause-reads
returns-in_err-read_bytes-2-clause-reads g c keeps =
    let disk = g.D.Disk in
    let old = c.args.disk.now in
    let keeps_once = c.read_bytes.ensures.keeps ∙ keeps in
    let keeps_twice = c.read_bytes-2.ensures.keeps ∙ keeps_once in
    reads_then disk.keeps disk.content disk.image disk.clock disk.left old c.read_bytes-2.new.disk c.read_bytes-3.new.disk
    (reads_then disk.keeps disk.content disk.image disk.clock disk.left old c.read_bytes.new.disk c.read_bytes-2.new.disk (c.read_bytes.ensures.reads keeps) (c.read_bytes-2.ensures.reads keeps_once))
    (c.read_bytes-3.ensures.reads keeps_twice)
