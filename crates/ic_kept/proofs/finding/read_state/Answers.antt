use Rattle.std.proofs.Common.{◌∙◌}
use Rattle.ic_kept.proofs.ReadLemmas.{reads_once, reads_then}
use Rattle.ic_kept.proofs.finding.read_state.Goals as goal

pub returns-in_err-len-clause-reads : goal.returns-in_err-len-clause-reads
returns-in_err-len-clause-reads g c keeps =
    let disk = g.D.Disk in
    let len = c.len.ensures.unchanged keeps in
    reads_once disk.keeps disk.content disk.image disk.clock disk.left c.args.disk.now c.len.new.self (λ file left. g.met.D.Disk.left_is_image c.args.disk.now file left) c.len.ensures.keeps len.same len.images len.time

pub returns-then-len-lt-HEAD-clause-reads : goal.returns-then-len-lt-HEAD-clause-reads
returns-then-len-lt-HEAD-clause-reads g c keeps =
    let disk = g.D.Disk in
    let len = c.len.ensures.unchanged keeps in
    reads_once disk.keeps disk.content disk.image disk.clock disk.left c.args.disk.now c.len.new.self (λ file left. g.met.D.Disk.left_is_image c.args.disk.now file left) c.len.ensures.keeps len.same len.images len.time

pub returns-in_err-resize-clause-reads : goal.returns-in_err-resize-clause-reads
returns-in_err-resize-clause-reads g c keeps =
    let disk = g.D.Disk in
    let len = c.len.ensures.unchanged keeps in
    reads_once disk.keeps disk.content disk.image disk.clock disk.left c.args.disk.now c.len.new.self (λ file left. g.met.D.Disk.left_is_image c.args.disk.now file left) c.len.ensures.keeps len.same len.images len.time

pub returns-in_err-read-clause-reads : goal.returns-in_err-read-clause-reads
returns-in_err-read-clause-reads g c keeps =
    let disk = g.D.Disk in
    let old = c.args.disk.now in
    let mid = c.len.new.self in
    let len = c.len.ensures.unchanged keeps in
    let read = c.read.ensures.unchanged (c.len.ensures.keeps ∙ keeps) in
    reads_then disk.keeps disk.content disk.image disk.clock disk.left old mid c.read.new.self
    (reads_once disk.keeps disk.content disk.image disk.clock disk.left old mid (λ file left. g.met.D.Disk.left_is_image old file left) c.len.ensures.keeps len.same len.images len.time)
    (reads_once disk.keeps disk.content disk.image disk.clock disk.left mid c.read.new.self (λ file left. g.met.D.Disk.left_is_image mid file left) c.read.ensures.keeps read.same read.images read.time)

pub returns-clause-reads : goal.returns-clause-reads
returns-clause-reads g c keeps =
    let disk = g.D.Disk in
    let old = c.args.disk.now in
    let mid = c.len.new.self in
    let len = c.len.ensures.unchanged keeps in
    let read = c.read.ensures.unchanged (c.len.ensures.keeps ∙ keeps) in
    reads_then disk.keeps disk.content disk.image disk.clock disk.left old mid c.read.new.self
    (reads_once disk.keeps disk.content disk.image disk.clock disk.left old mid (λ file left. g.met.D.Disk.left_is_image old file left) c.len.ensures.keeps len.same len.images len.time)
    (reads_once disk.keeps disk.content disk.image disk.clock disk.left mid c.read.new.self (λ file left. g.met.D.Disk.left_is_image mid file left) c.read.ensures.keeps read.same read.images read.time)
